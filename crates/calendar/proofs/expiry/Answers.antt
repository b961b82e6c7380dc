-- `calendar::expiry` meets its contract. The loop keeps an equation: the search from `day` down is the whole search.
-- Assumes nothing.
use mathlib.Core.Path.{sym, ap, ◌∙◌}
use native.Mathlib.Omega.{arith}
use Rattle.base.specs.Search.{last_up_to}
use Rattle.base.proofs.SearchLaws.{last_end, last_hit, last_miss}
use Rattle.calendar.specs.Calendar.{session, expiry_of}
use Rattle.calendar.proofs.expiry.Goals as goal

pub loop-day-init : goal.loop-day-init
unfolding expiry_of
loop-day-init c = ap (last_up_to (session _)) (sym c.third_friday-day.ensures)

pub returns-then-has_session : goal.returns-then-has_session
returns-then-has_session c = sym (c.loop-day.invariant ∙ last_hit _ _ (sym c.has_session.ensures ∙ c.if-has_session.true))

pub loop-day-preserved : goal.loop-day-preserved
loop-day-preserved c = c.loop-day.invariant ∙ last_miss _ _ c.loop-day-test.true (sym c.has_session.ensures ∙ c.if-has_session.false)

pub returns : goal.returns
returns c = omega (arith, c.loop-day.invariant, last_end (session c.args.calendar.now) c.loop-day.day (omega arith))
