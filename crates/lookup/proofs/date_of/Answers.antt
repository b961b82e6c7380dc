-- `lookup::date_of` meets its contract: a day's month begins on that day or before it.
-- Assumes nothing.
use mathlib.Core.Path.{sym}
use native.Mathlib.Omega.{arith}
use lib.Dec.{ltb}
use borrow.Author.Tests.{ltb-true}
use Rattle.std.proofs.lemmas.Option.{cond_some}
use Rattle.dates.specs.Months.{day_count}
use Rattle.dates.proofs.MonthLaws.{month_of-below, in-month}
use Rattle.lookup.proofs.date_of.Goals as goal

pub first_day-requires : goal.first_day-requires
first_day-requires c =
    let a = cond_some (ltb c.args.day day_count) c.args.day c.in_ok-day.day (sym c.in_ok-day.ensures) in
    omega (arith, c.month_of-month.ensures, month_of-below c.in_ok-day.day (rw (← a.1) (ltb-true _ _ a.0)))

pub overflow_sub-result : goal.overflow_sub-result
overflow_sub-result c =
    let a = cond_some (ltb c.args.day day_count) c.args.day c.in_ok-day.day (sym c.in_ok-day.ensures) in
    rw (c.first_day.ensures, c.month_of-month.ensures) (in-month c.in_ok-day.day (rw (← a.1) (ltb-true _ _ a.0))).from
