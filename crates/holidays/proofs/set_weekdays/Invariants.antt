-- What the loop of `holidays::set_weekdays` keeps.
-- Assumes nothing.
use Prim.Native.Nat.{ℕ}
use mathlib.Core.Path.{◌≡◌}
use mathlib.Core.Bool.{◌&&◌}
use lib.Dec.{ltb}
use Rattle.calendar.specs.Calendar.{session}
use Rattle.holidays.specs.Sessions.{weekday}
use Rattle.holidays.proofs.set_weekdays.Given as goal

abbrev pub invariant-loop-day : goal.invariant-loop-day
invariant-loop-day l = (n : ℕ) → session l.calendar n ≡ (ltb n l.day && weekday n)
