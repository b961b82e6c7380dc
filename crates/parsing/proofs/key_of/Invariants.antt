-- What the loops of `parsing::key_of` keep.
-- Assumes nothing.
use mathlib.Core.Path.{◌≡◌}
use Prim.Native.Nat.{◌+◌}
use lib.ListN.{drop}
use Rattle.names.specs.Names.{value_from}
use Rattle.parsing.specs.Keys.{key_of}
use Rattle.parsing.proofs.key_of.Given as goal

abbrev pub invariant-loop-digit : goal.invariant-loop-digit
invariant-loop-digit l = key_of l.name ≡ value_from l.key (drop (5 + l.digit-index) l.name)
