-- Document 01, "Causes and what they yield": the causes 11 to 15 that every register call tries first.
-- Assumes nothing.
use Rattle.std.specs.Prelude.{◌≡◌, Bool, true, cond, not, ◌&&◌, List, [], ◌∷◌, ℕ, eqb, length}
use Rattle.base.specs.Causes.{cause, first_cause}
use Rattle.base.specs.Numbers.{number_of, month_of}
use Rattle.base.specs.declared.causes.Cause.{Cause}
use Rattle.calendar.specs.Calendar.{first_lacking, Passes}
use Rattle.rules.specs.Rules.{Rules}
use Rattle.rules.specs.Rulebook.{rules}
use Rattle.layout.specs.Register.{Reg, empty, running, well_formed}
use Rattle.layout.specs.Bytes.{register_length, reg_of, in_layout}

module _ (R : Rules) where
  -- a register that is empty or well formed
  unfoldable pub empty_or_well : Reg → Bool
  empty_or_well empty = true
  empty_or_well (running b) = well_formed R b

  -- bytes that keep the layout, and such a register
  unfoldable pub stands : List ℕ → Bool
  stands bs = in_layout bs && empty_or_well (reg_of bs)

  -- the calendar's causes, 14, 15, and then the number that the call has of its own
  unfoldable pub opened : List ℕ → ℕ → ℕ
  opened bs own =
      first_cause
      (R.calendar_cause
      ∷ cause (not (eqb (length bs) register_length)) 14
      ∷ cause (not (stands bs)) 15
      ∷ own
      ∷ [])

-- ---- the two ways on: a call is refused, by a cause with the month beside 13; or it reads a register, empty or well formed
pub record Refused (cal bs : List ℕ) (own : ℕ) (why : Cause) : Type 0 where
  pub says : opened (rules cal) bs own ≡ number_of why
  pub month : month_of why ≡ cond (eqb (number_of why) 13) (first_lacking cal) 0

pub record Reads (cal bs : List ℕ) (r : Reg) : Type 0 where
  pub passes : Passes cal
  pub size : length bs ≡ register_length
  pub stood : stands (rules cal) bs ≡ true
  pub reg_is : reg_of bs ≡ r
