-- `parsing::copy_list` meets its contract: the list up to where the loop stands is that of the file's series.
-- Assumes nothing.
use Rattle.std.proofs.Common.{◌≡◌, ◌+◌, ◌-◌, ◌*◌, ◌<◌, length, arith}
use Rattle.fields.specs.Reading.{file_read, series_in}
use Rattle.parsing.proofs.Copies.{content_inside, copy-on, copy_ends}
use Rattle.parsing.proofs.copy_list.Goals as goal

pub slice_bounds-copy_from_slice-end-in-loop-i : goal.slice_bounds-copy_from_slice-end-in-loop-i
slice_bounds-copy_from_slice-end-in-loop-i c =
    omega (arith, content_inside c.args.file.now c.args.list.now c.requires.0 c.loop-i.i (omega (arith, c.requires.1)))

pub loop-i-preserved : goal.loop-i-preserved
loop-i-preserved c =
    let l = c.loop-i in
    let from : 12 * l.i + 12 - 12 * l.i ≡ 12 = omega arith in
    let at : 5 + 15 * l.i + 3 + 12 - (5 + 15 * l.i + 3) ≡ 12 = omega arith in
    let next : l.i < length (series_in (file_read c.args.file.now)) = omega (arith, c.requires.1) in
    rw (c.copy_from_slice.ensures.after, from, at) (copy-on c.args.file.now c.args.list.now c.requires.0 l.list l.i l.invariant next (omega arith) (omega arith))

pub returns : goal.returns
returns c =
    rw c.requires.1 (copy_ends c.args.file.now c.args.list.now c.requires.0 c.loop-i.list c.loop-i.i c.loop-i.invariant (omega (arith, c.requires.1)))
