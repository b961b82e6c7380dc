-- Lines 7 and 8: where nothing but the close can stand against a start or a session, it returns 21 or 0.
-- Assumes nothing.
use mathlib.Core.Path.{◌≡◌, ◌∙◌}
use mathlib.Core.Bool.{not}
use mathlib.Core.List.{List}
use Prim.Native.Nat.{ℕ}
use Rattle.base.specs.Causes.{cause}
use Rattle.grid.specs.Grid.{close_taken}
use Rattle.rules.specs.Rulebook.{rules}
use Rattle.calls.specs.declared.Call.TheVariants.{Start}
use Rattle.calls.specs.Answers.{number_at}
use Rattle.history.specs.Claim.{empty_register}
use Rattle.history.proofs.Accepts.{start-number, session-number}
use Rattle.worked.specs.Worked.{CanStart, returns, Holds}

pub start-returns : (cal : List ℕ) (day c : ℕ) → CanStart cal day → number_at (rules cal) (Start day c) empty_register ≡ cause (not (close_taken c)) 21
start-returns cal day c s = start-number cal s.passes day c s.in_calendar s.on-session s.first-month

-- so a line that holds of its close holds
pub returns_by : (c n : ℕ) → cause (not (close_taken c)) 21 ≡ n → Holds (returns c n)
unfolding Holds
returns_by c n e = (
  λ cal day s. start-returns cal day c s ∙ e,
  λ cal bs day s. session-number cal bs s.passes (s.size, s.not-empty, s.well-formed) day c s.next-session s.first-month ∙ e,
)
