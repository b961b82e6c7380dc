-- A journal of calls as plain lists of numbers, and what running it leaves.
-- Assumes nothing.
use Rattle.std.specs.Prelude.{◌≡◌, Bool, false, cond, ◌&&◌, List, [], ◌∷◌, ℕ, Option, Some, None, Result, Ok, Err, eqb, leb, length, take, drop}
use Rattle.rules.specs.Rulebook.{rules}
use Rattle.calls.specs.declared.Call.{Call}
use Rattle.calls.specs.Calls.{call_of, is_call}
use Rattle.history.specs.History.{blank, told}
use Rattle.history.specs.Claim.{final_at, numbers_at, Claim}
use Rattle.replaying.specs.Replay.{is_empty}
use Rattle.replaying.specs.declared.NotRun.{NotRun}
use Rattle.replaying.specs.declared.NotRun.TheVariants.{NotEmpty, Malformed}

-- a call, where it is one, and those behind it
unfoldable pub call_then : Option Call → List Call → List Call
call_then None ks = ks
call_then (Some k) ks = k ∷ ks

-- the calls of a journal: the kind of each, how many pairs it has, and one pool of pairs, in which those of a call stand behind
-- those of the call before. What is no call is left out; a journal that is well kept has none
unfoldable pub journal : List ℕ → List ℕ → List (List ℕ) → List Call
journal [] counts pool = []
journal (k ∷ kinds) [] pool = []
journal (k ∷ kinds) (c ∷ counts) pool = call_then (call_of k (take c pool)) (journal kinds counts (drop c pool))

-- each kind with its pairs is a call, and no pair is left over
unfoldable pub all_calls : List ℕ → List ℕ → List (List ℕ) → Bool
all_calls [] counts pool = eqb (length pool) 0
all_calls (k ∷ kinds) [] pool = false
all_calls (k ∷ kinds) (c ∷ counts) pool = leb c (length pool) && (is_call (call_of k (take c pool)) && all_calls kinds counts (drop c pool))

-- the journal is well kept: each call has as many pairs as it should and a place for its number, and nothing else stands in it
unfoldable pub well_kept : List ℕ → List ℕ → List (List ℕ) → List ℕ → Bool
well_kept kinds counts pool numbers =
    eqb (length counts) (length kinds) && (eqb (length numbers) (length kinds) && all_calls kinds counts pool)

unfoldable pub outcome_of : List ℕ → List ℕ → List (List ℕ) → List ℕ → List ℕ → Result (Unit {0}) NotRun
outcome_of kinds counts pool register numbers =
    cond (is_empty register) (cond (well_kept kinds counts pool numbers) (Ok tt) (Err Malformed)) (Err NotEmpty)

-- what a run leaves of the register and of the places for numbers; a refusal leaves both as they were
pub record Left (calendar kinds counts : List ℕ) (pool : List (List ℕ)) (register numbers after numbers_after : List ℕ) (r : Result (Unit {0}) NotRun) : Type 0 where
  pub outcome_is : r ≡ outcome_of kinds counts pool register numbers
  pub done : r ≡ Ok tt
      → (after ≡ final_at (rules calendar) (journal kinds counts pool) register) × (numbers_after ≡ numbers_at (rules calendar) (journal kinds counts pool) register)
  -- demand 3: the register agrees with the history that the calls and the numbers returned tell
  pub claim : r ≡ Ok tt → Claim (rules calendar) (told (rules calendar) (journal kinds counts pool) numbers_after blank) after
  pub refused : (r ≡ Ok tt → ⊥) → (after ≡ register) × (numbers_after ≡ numbers)
