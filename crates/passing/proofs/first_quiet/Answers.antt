-- `passing::first_quiet` meets its contract. The loop keeps what is ensured, of the month where it stands: each month that it passes has its session.
-- Assumes nothing.
use mathlib.Core.Path.{◌≡◌, refl, sym, ◌∙◌}
use native.Mathlib.Omega.{arith}
use lib.ListN.{get_or}
use Rattle.base.proofs.SearchLaws.{first_end, first_miss}
use Rattle.dates.specs.Months.{month_count, third_friday}
use Rattle.dates.proofs.MonthLaws.{third-friday_is, third-friday_rule, third-friday-below}
use Rattle.calendar.specs.Calendar.{lacks, first_lacking}
use Rattle.calendar.proofs.CalendarLaws.{lacks-not}
use Rattle.passing.proofs.first_quiet.Goals as goal

pub loop-month-init : goal.loop-month-init
unfolding first_lacking
loop-month-init c = refl

pub recent_session-requires : goal.recent_session-requires
recent_session-requires c =
    let m = c.loop-month.month in
    let last : get_or c.args.fridays.now c.from.result 0 ≡ third_friday m = rw c.from.ensures (c.requires.each m c.loop-month-test.true) in
    omega (arith, last, third-friday_is m, third-friday-below m c.loop-month-test.true)

pub loop-month-preserved : goal.loop-month-preserved
loop-month-preserved c =
    let m = c.loop-month.month in
    let last : get_or c.args.fridays.now c.from.result 0 ≡ third_friday m = rw c.from.ensures (c.requires.each m c.loop-month-test.true) in
    let recent = sym c.recent_session.ensures ∙ c.if-not-recent_session.false in
    let has = lacks-not _ m _ _ (omega (arith, last, (third-friday_rule m).from)) (omega (arith, last)) recent in
    c.loop-month.invariant ∙ first_miss _ _ _ c.loop-month-test.true has

pub returns : goal.returns
returns c = omega (arith, c.loop-month.invariant, first_end (lacks c.args.calendar.now) c.loop-month.month month_count (omega arith))
