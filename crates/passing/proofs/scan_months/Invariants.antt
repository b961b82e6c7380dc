-- What the loops of `passing::scan_months` keep.
-- Assumes nothing.
use mathlib.Core.Path.{◌≡◌}
use Rattle.base.specs.Search.{first_in}
use Rattle.dates.specs.Months.{month_count}
use Rattle.calendar.specs.Calendar.{lacks, first_lacking}
use Rattle.passing.proofs.scan_months.Given as goal

abbrev pub invariant-loop-month : goal.invariant-loop-month
invariant-loop-month l = first_lacking l.calendar ≡ first_in (lacks l.calendar) l.month month_count
