-- `dates::month_of` meets its contract. The loop's invariant: the month's first day is at most the day.
-- Assumes nothing.
use mathlib.Core.Path.{sym}
use Prim.Native.Nat.{◌+◌, ◌*◌, ◌/◌, ◌<◌}
use native.Mathlib.Omega.{arith}
use Rattle.dates.specs.Months.{month_count}
use Rattle.dates.proofs.MonthLaws.{guessed, first-day_lt, last-day, month_of_is}
use Rattle.dates.proofs.month_of.Goals as goal

pub loop-month-init : goal.loop-month-init
loop-month-init c = omega (arith, c.from.ensures, guessed (c.from.result * 2 / 61) (omega (arith, c.from.ensures)))

pub loop-month-preserved : goal.loop-month-preserved
loop-month-preserved c =
    let m = c.before.before.loop-month.month in
    let l : m + 1 < month_count = first-day_lt (m + 1) month_count (omega (arith, last-day, c.before.first_day.ensures)) in
    omega (arith, c.before.first_day.ensures)

pub returns : goal.returns
returns c =
    let l = c.before.before.loop-month in
    sym (month_of_is _ l.month (record { from = l.invariant.1; before = omega (arith, c.before.first_day.ensures) }) l.invariant.0)
