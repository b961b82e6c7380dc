-- The month that a refusal of the rows call tells.
-- Assumes nothing.
use Rattle.std.specs.Prelude.{◌≡◌, cond, List, ℕ, eqb}
use Rattle.base.specs.Numbers.{number_of, month_of}
use Rattle.base.specs.declared.causes.Cause.{Cause}
use Rattle.calendar.specs.Calendar.{first_lacking}

-- beside 13 the first month without its session, else none
abbrev pub TellsMonth : List ℕ → Cause → Type 0
TellsMonth calendar why = month_of why ≡ cond (eqb (number_of why) 13) (first_lacking calendar) 0
