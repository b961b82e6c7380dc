-- `register::next_first` meets its contract: the next session's moment has its day, and past the calendar's last day no month is live.
-- Assumes nothing.
use mathlib.Core.Path.{◌≡◌, sym, ◌∙◌}
use Rattle.calendar.specs.Calendar.{expiry_of}
use Rattle.calendar.specs.Live.{first_live}
use Rattle.calendar.proofs.CalendarLaws.{expiry-below}
use Rattle.calendar.proofs.LiveLaws.{live_past}
use Rattle.rules.specs.Rules.{next}
use Rattle.rules.specs.Rulebook.{moved, first_at, rules}
use Rattle.rules.proofs.RulebookLaws.{first_is}
use Rattle.layout.specs.Bytes.{moment_of}
use Rattle.register.proofs.next_first.Goals.{After-next_session-next}
use Rattle.register.proofs.next_first.Goals as goal

on-next : (c : After-next_session-next) →
    let cal = c.args.calendar.bytes.now in
    first_live (expiry_of cal) c.next_session-next.result ≡ first_at cal (next (rules cal) (moment_of c.args.register.now))
unfolding rules moved moment_of
on-next c =
    let cal = c.args.calendar.bytes.now in
    rw (c.next_session-next.ensures, c.word.ensures) (first_is cal (next (rules cal) (moment_of c.args.register.now)))

pub next_session-next-requires : goal.next_session-next-requires
unfolding moment_of
next_session-next-requires c = rw c.word.ensures c.requires

pub returns-then-next-lt-DAYS : goal.returns-then-next-lt-DAYS
returns-then-next-lt-DAYS c = c.first_live.ensures ∙ on-next (goal.at.returns-then-next-lt-DAYS c).After-next_session-next

pub returns-else-next-lt-DAYS : goal.returns-else-next-lt-DAYS
returns-else-next-lt-DAYS c = sym (live_past _ (expiry-below _) _ c.if-next-lt-DAYS.false) ∙ on-next (goal.at.returns-else-next-lt-DAYS c).After-next_session-next
