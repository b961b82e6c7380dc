-- `parsing::is_right` meets its contract: `right` tells whether each byte before `place` lies between the least and the greatest of its
-- place.
-- Assumes nothing.
use mathlib.Core.Path.{◌≡◌}
use native.Mathlib.Omega.{arith}
use Rattle.parsing.proofs.Checks.{tested-more, tested_all}
use Rattle.parsing.proofs.is_right.Goals as goal

pub loop-place-preserved : goal.loop-place-preserved
loop-place-preserved c =
    let l = c.loop-place in
    tested-more c.args.field.now l.place l.right l.invariant (omega arith)

pub returns : goal.returns
returns c =
    let l = c.loop-place in
    let all : l.place ≡ 15 = omega arith in
    tested_all c.args.field.now l.right c.told-field (rw all at l.invariant)
