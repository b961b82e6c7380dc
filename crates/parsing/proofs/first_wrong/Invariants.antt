-- What the loops of `parsing::first_wrong` keep.
-- Assumes nothing.
use mathlib.Core.Path.{◌≡◌}
use Prim.Native.Nat.{◌+◌, ◌<◌}
use lib.ListN.{get_or}
use Rattle.base.specs.Search.{first_in}
use Rattle.fields.specs.Reading.{wrong}
use Rattle.parsing.specs.Sorts.{is_day, tag_of, length_of}
use Rattle.parsing.proofs.first_wrong.Given as goal

abbrev pub invariant-loop-place : goal.invariant-loop-place
invariant-loop-place l =
    (first_in (wrong (is_day l.field) l.rest) 0 (3 + length_of l.field) ≡ first_in (wrong (is_day l.field) l.rest) l.place (3 + length_of l.field))
    × (0 < l.place → get_or l.rest 0 0 ≡ tag_of l.field)
