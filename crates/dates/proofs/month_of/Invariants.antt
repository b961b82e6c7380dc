-- The loop of `dates::month_of` keeps that the month's first day is at most the day.
-- Assumes nothing.
use Rattle.std.proofs.Common.{◌-◌, ◌≤◌, ◌<◌}
use Rattle.dates.specs.Months.{month_count, first_day}
use Rattle.dates.proofs.month_of.Given as goal

abbrev pub invariant-loop-month : goal.invariant-loop-month
invariant-loop-month l = (l.month < month_count) × (first_day l.month ≤ l.day)

abbrev pub decreases-loop-month : goal.decreases-loop-month
decreases-loop-month l = month_count - l.month
