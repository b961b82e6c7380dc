-- `calendar::has_session` meets its contract: a shift is a division by the weight.
-- Assumes nothing.
use Rattle.std.proofs.Common.{sym}
use Rattle.calendar.specs.Calendar.{session}
use Rattle.calendar.proofs.CalendarLaws.{no-session}
use Rattle.calendar.proofs.has_session.Goals as goal

pub returns-in-Some : goal.returns-in-Some
unfolding session
returns-in-Some c = rw (← c.from.ensures, c.in-Some.ensures.lookup.3.1 0)

pub returns-in-None : goal.returns-in-None
returns-in-None c = sym (no-session c.args.calendar.now c.args.day (rw c.from.ensures at c.in-None.ensures.lookup.3))
