-- What the loops of `parsing::is_right` keep.
-- Assumes nothing.
use Rattle.parsing.proofs.Checks.{Tested}
use Rattle.parsing.proofs.is_right.Given as goal

abbrev pub invariant-loop-place : goal.invariant-loop-place
invariant-loop-place l = Tested l.field l.place l.right
