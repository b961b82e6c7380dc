-- `calendar::first_live` meets its contract: months before the day's own have expired, and the next one's expiry date is not before its first day.
-- Assumes nothing.
use mathlib.Core.Path.{sym, ap, ◌∙◌}
use native.Mathlib.Omega.{arith}
use Rattle.dates.proofs.MonthLaws.{month_of-below}
use Rattle.calendar.specs.Calendar.{expiry_of}
use Rattle.calendar.proofs.LiveLaws.{calendar-dated, live_now, live-next}
use Rattle.calendar.proofs.first_live.Goals as goal

pub expiry-requires : goal.expiry-requires
expiry-requires c = omega (arith, c.month_of-month.ensures, month_of-below _ c.before.before.requires)

pub overflow_add-result : goal.overflow_add-result
overflow_add-result c = omega (arith, c.before.before.month_of-month.ensures, month_of-below _ c.before.before.before.before.requires)

pub returns-then-day-expiry : goal.returns-then-day-expiry
returns-then-day-expiry c =
    let own = c.before.before.month_of-month.ensures in
    let s = c.before.before.before.before in
    let cal = s.args.calendar in
    own ∙ sym (live_now _ (calendar-dated _ cal.passes) _ s.requires (omega (arith, c.before.expiry.ensures, ap (expiry_of cal.bytes.now) own)))

pub returns-else-day-expiry : goal.returns-else-day-expiry
returns-else-day-expiry c =
    let own = c.before.before.month_of-month.ensures in
    let s = c.before.before.before.before in
    let cal = s.args.calendar.bytes.now in
    omega (arith, own, live-next (expiry_of cal) (calendar-dated cal s.args.calendar.passes) s.args.day s.requires (omega (arith, c.before.expiry.ensures, ap (expiry_of cal) own)))
