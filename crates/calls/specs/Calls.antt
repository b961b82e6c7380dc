-- How a call is named by numbers alone: by a kind and pairs of numbers.
-- Assumes nothing.
use Rattle.std.specs.Prelude.{Bool, true, false, cond, List, [], ◌∷◌, ℕ, Option, Some, None, eqb, get_or}
use Rattle.calls.specs.declared.Call.{Call}
use Rattle.calls.specs.declared.Call.TheVariants.{Start, Session, Announce}

-- a call that has one pair, neither more nor fewer
unfoldable pub of_one : (ℕ → ℕ → Call) → List (List ℕ) → Option Call
of_one call [] = None
of_one call (p ∷ []) = Some (call (get_or p 0 0) (get_or p 1 0))
of_one call (p ∷ q ∷ ps) = None

-- the call of a kind, 0 start, 1 session, 2 announce, and its pairs; any other kind, and any other number of pairs, is no call
unfoldable pub call_of : ℕ → List (List ℕ) → Option Call
call_of kind ps = cond (eqb kind 0) (of_one Start ps) (cond (eqb kind 1) (of_one Session ps) (cond (eqb kind 2) (of_one Announce ps) None))

unfoldable pub is_call : Option Call → Bool
is_call None = false
is_call (Some k) = true
