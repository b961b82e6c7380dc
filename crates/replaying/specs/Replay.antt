-- Calls run from an empty register, and what that leaves: the shop's way back to a register that was lost.
-- Assumes nothing.
use Rattle.std.specs.Prelude.{◌≡◌, Bool, cond, ◌&&◌, List, ℕ, Result, Ok, Err, eqb, length}
use Rattle.rules.specs.Rulebook.{rules}
use Rattle.calls.specs.declared.Call.{Call}
use Rattle.layout.specs.Bytes.{register_length, all_zero}
use Rattle.history.specs.History.{blank, told}
use Rattle.history.specs.Claim.{final_at, numbers_at, Claim}
use Rattle.replaying.specs.declared.NotRun.{NotRun}
use Rattle.replaying.specs.declared.NotRun.TheVariants.{NotEmpty, Lengths}

-- the register is empty: 11,264 zero bytes
unfoldable pub is_empty : List ℕ → Bool
is_empty bs = eqb (length bs) register_length && all_zero bs

-- calls are run from an empty register, where each has a place for its number
unfoldable pub outcome_of : List Call → List ℕ → List ℕ → Result (Unit {0}) NotRun
outcome_of calls register numbers =
    cond (is_empty register) (cond (eqb (length numbers) (length calls)) (Ok tt) (Err Lengths)) (Err NotEmpty)

-- what a run leaves of the register and of the places for numbers; a refusal leaves both as they were
pub record Left (calendar : List ℕ) (calls : List Call) (register numbers after numbers_after : List ℕ) (r : Result (Unit {0}) NotRun) : Type 0 where
  pub outcome_is : r ≡ outcome_of calls register numbers
  pub done : r ≡ Ok tt
      → (after ≡ final_at (rules calendar) calls register) × (numbers_after ≡ numbers_at (rules calendar) calls register)
  -- demand 3: the register agrees with the history that the calls and the numbers returned tell
  pub claim : r ≡ Ok tt → Claim (rules calendar) (told (rules calendar) calls numbers_after blank) after
  pub refused : (r ≡ Ok tt → ⊥) → (after ≡ register) × (numbers_after ≡ numbers)
