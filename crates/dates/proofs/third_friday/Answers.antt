-- `dates::third_friday` meets its contract: the code is the closed form of the third Friday.
-- Assumes nothing.
use native.Mathlib.Omega.{arith}
use Rattle.dates.proofs.MonthLaws.{first-day-to, third-friday_is}
use Rattle.dates.proofs.third_friday.Goals as goal

pub overflow_add-result : goal.overflow_add-result
overflow_add-result c = omega (arith, first-day-to c.before.args.month (omega arith))

pub overflow_add-result-2 : goal.overflow_add-result-2
overflow_add-result-2 c = omega (arith, first-day-to c.before.args.month (omega arith))

pub returns : goal.returns
returns c = omega (arith, third-friday_is c.before.args.month)
