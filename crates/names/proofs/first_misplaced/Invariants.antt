-- What the loops of `names::first_misplaced` keep.
-- Assumes nothing.
use mathlib.Core.Path.{◌≡◌}
use Rattle.base.specs.Search.{first_in}
use Rattle.names.specs.Names.{misplaced, name_length}
use Rattle.names.proofs.first_misplaced.Given as goal

abbrev pub invariant-loop-place : goal.invariant-loop-place
invariant-loop-place l = first_in (misplaced l.name) 0 name_length ≡ first_in (misplaced l.name) l.place name_length
