-- What the loops of `calendar::expiry` keep.
-- Assumes nothing.
use mathlib.Core.Path.{◌≡◌}
use Rattle.base.specs.Search.{last_up_to}
use Rattle.calendar.specs.Calendar.{session, expiry_of}
use Rattle.calendar.proofs.expiry.Given as goal

abbrev pub invariant-loop-day : goal.invariant-loop-day
invariant-loop-day l = expiry_of l.calendar l.month ≡ last_up_to (session l.calendar) l.day
