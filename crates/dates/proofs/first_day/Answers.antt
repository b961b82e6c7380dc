-- `dates::first_day` meets its contract: the code is `by_march`, which is the first day at each month up to 1,200.
-- Assumes nothing.
use native.Mathlib.Omega.{arith}
use Rattle.dates.proofs.MonthLaws.{by-march}
use Rattle.dates.proofs.first_day.Goals as goal

pub returns : goal.returns
returns c = by-march c.args.month (omega arith)
