-- `listing::start_listing` meets its contract.
-- Assumes nothing.
use Rattle.std.proofs.Common.{◌≡◌, sym, ◌∙◌, arith, ltb}
use borrow.Author.Tests.{lt-ltb, le-ltb}
use Rattle.base.proofs.Tests.{and_i, and_no}
use Rattle.dates.specs.Months.{day_count}
use Rattle.rules.specs.Rulebook.{begun}
use Rattle.rules.proofs.RulebookLaws.{first_is}
use Rattle.listing.proofs.Causes.{no_start, start_goes}
use Rattle.listing.proofs.start_listing.Goals as goal

pub returns-in_default-clause-cause : goal.returns-in_default-clause-cause
returns-in_default-clause-cause c =
    let a = c.args in
    sym (no_start a.calendar.bytes.now a.day a.close (rw (le-ltb a.day day_count (omega (arith, c.in_default.ensures)))))

pub returns-then-day-ge-DAYS-clause-cause : goal.returns-then-day-ge-DAYS-clause-cause
returns-then-day-ge-DAYS-clause-cause c =
    let a = c.args in
    sym (no_start a.calendar.bytes.now a.day a.close (rw (le-ltb a.day day_count (omega (arith, c.in-Ok.ensures, c.if-day-ge-DAYS.true)))))

pub returns-then-not-has_session-clause-cause : goal.returns-then-not-has_session-clause-cause
returns-then-not-has_session-clause-cause c =
    let a = c.args in
    let d : c.in-Ok.day ≡ a.day = omega (arith, c.in-Ok.ensures) in
    let e = rw d at (sym c.has_session.ensures ∙ c.if-not-has_session.true) in
    sym (no_start a.calendar.bytes.now a.day a.close (and_no (ltb a.day day_count) _ e))

pub returns-clause-cause : goal.returns-clause-cause
unfolding begun
returns-clause-cause c =
    let a = c.args in
    let d : c.in-Ok.day ≡ a.day = omega (arith, c.in-Ok.ensures) in
    let e = rw d at (sym c.has_session.ensures ∙ c.if-not-has_session.false) in
    rw (d, first_is a.calendar.bytes.now (begun a.day)) at c.listing_on.ensures.cause
    ∙ sym (start_goes a.calendar.bytes.now a.day a.close (and_i (lt-ltb a.day day_count (omega (arith, c.in-Ok.ensures, c.if-day-ge-DAYS.false))) e))
