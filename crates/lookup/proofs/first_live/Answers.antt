-- `lookup::first_live` meets its contract: a calendar that is refused has a cause.
-- Assumes nothing.
use Rattle.std.proofs.Common.{◌≡◌, ℕ, List, false, arith}
use Rattle.std.specs.Prelude.{Result, Ok, Err}
use Rattle.std.specs.Result.{is_ok}
use lib.Dec.{eqb}
use borrow.Author.Tests.{ne_eqb}
use Rattle.base.specs.Numbers.{number_of}
use Rattle.base.specs.declared.causes.Cause.{Cause}
use Rattle.base.proofs.NumberLaws.{number-from}
use Rattle.calendar.specs.Calendar.{calendar_cause, checked_of, check_of}
use Rattle.calendar.proofs.CalendarLaws.{check_tells}
use Rattle.lookup.proofs.first_live.Goals as goal

-- no cause has the number 0
refused : {A : Type 0} (cal : List ℕ) (r : Result A Cause) → false ≡ is_ok r → checked_of r ≡ check_of cal → eqb (calendar_cause cal) 0 ≡ false
refused cal (Ok passed) n e = absurd (cc)
refused cal (Err c) n e = rw (← check_tells cal e) (ne_eqb (number_of c) 0 (λ z. omega (arith, number-from c)))

pub returns-in_err-calendar : goal.returns-in_err-calendar
returns-in_err-calendar c = rw (c.from_residual.ensures, refused _ c.check.result c.in_err-calendar.ensures.variant c.check.ensures.answer)
