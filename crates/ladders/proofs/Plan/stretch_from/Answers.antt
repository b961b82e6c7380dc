-- `ladders::Plan::stretch_from` meets its contract: an old row by itself, or added rows up to the next change.
-- Assumes nothing.
use Rattle.std.proofs.Common.{◌≡◌, sym, ◌∙◌, ◌*◌, false, map, arith}
use Rattle.std.proofs.lemmas.List.{nil_from_length}
use Rattle.grid.specs.Numbers.{stride, band_step}
use Rattle.grid.proofs.Grids.{stride_le}
use Rattle.layout.specs.Bytes.{row_of}
use Rattle.ladders.specs.Writing.{is_next}
use Rattle.ladders.proofs.Stretches.{old_alike, new_alike, first-next, none_next}
use Rattle.ladders.proofs.Plan.stretch_from.Goals.{in-Some+else-has_row, in_default}
use Rattle.ladders.proofs.Plan.stretch_from.Goals as goal

pub band_of-band-requires : goal.band_of-band-requires
band_of-band-requires c = omega (arith, c.stride_of.ensures, stride_le c.args.self.now.tier)

pub returns-then-has_row : goal.returns-then-has_row
returns-then-has_row c =
    let a = c.args in
    let m = a.self.now in
    let step : c.band_of-band.result.step ≡ stride m.tier * band_step a.price = rw (← c.stride_of.ensures, ← c.from.ensures) c.band_of-band.ensures.0 in
    let there = first-next m a.price (row_of c.in-Some.row.now) (map row_of c.in-Some.left.now) ∙ sym c.has_row.ensures ∙ c.if-has_row.true in
    rw (c.in-Some.ensures.cases.0, c.word.ensures) (old_alike m a.price _ step (row_of c.in-Some.row.now) (map row_of c.in-Some.left.now) there)

pub returns : goal.returns
returns c =
    let a = c.args in
    let m = a.self.now in
    let step : c.band_of-band.result.step ≡ stride m.tier * band_step a.price = rw (← c.stride_of.ensures, ← c.from.ensures) c.band_of-band.ensures.0 in
    let other : is_next m a.price (map row_of a.old.now) ≡ false = elim c.match-split_first.branch [
      | in-Some+else-has_row w ↦ rw w.in-Some.ensures.cases.0 (first-next m a.price (row_of w.in-Some.row.now) (map row_of w.in-Some.left.now) ∙ sym w.has_row.ensures ∙ w.if-has_row.false)
      | in_default w ↦ rw (nil_from_length a.old.now w.in_default.ensures.cases) (none_next m a.price)
    ] in
    rw c.added_origin.ensures (new_alike m a.price _ step (map row_of a.old.now) c.stretch_end.result other (rw (c.next_price.ensures, c.band_of-band.ensures.2) at c.stretch_end.ensures))
