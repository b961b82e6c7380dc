-- `passing::first_lacking` meets its contract: where no byte is zero each month has its session, else the scan finds the first that has none.
-- Assumes nothing.
use Rattle.std.proofs.Common.{sym, arith}
use Rattle.base.proofs.SearchLaws.{found-none}
use Rattle.dates.specs.Months.{month_count}
use Rattle.calendar.specs.Calendar.{lacks, first_lacking}
use Rattle.calendar.proofs.CalendarLaws.{no_zero_byte}
use Rattle.passing.proofs.first_lacking.Goals as goal

pub returns-then-least_byte-gt0 : goal.returns-then-least_byte-gt0
unfolding first_lacking
returns-then-least_byte-gt0 c =
    let cal = c.args.calendar.now in
    let none = no_zero_byte cal c.fits-calendar c.told-calendar (omega (arith, c.least_byte.ensures)) in
    sym (found-none (lacks cal) 0 month_count (omega (arith, none)))
