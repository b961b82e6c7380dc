-- `passing::check` meets its contract: each return rewrites with the tests that led there. The array that is looked at holds the
-- calendar's bytes.
-- Assumes nothing.
use Rattle.std.proofs.Common.{length}
use borrow.Author.Tests.{ne_eqb, eq-eqb, lt-ltb}
use Rattle.base.specs.Causes.{cause, first_cause}
use Rattle.base.proofs.SearchLaws.{at_found, none_found}
use Rattle.dates.specs.Months.{month_count}
use Rattle.calendar.specs.Calendar.{calendar_length, lacks, first_lacking, calendar_causes, calendar_cause, Passes, check_of}
use Rattle.calendar.proofs.CalendarLaws.{tail-set, months_decide, passes_of}
use Rattle.passing.proofs.check.Goals as goal
use Rattle.passing.proofs.check.Goals.{In-None}

pub returns-in_default-clause-answer : goal.returns-in_default-clause-answer
unfolding check_of calendar_cause calendar_causes cause first_cause
returns-in_default-clause-answer c = rw (ne_eqb (length c.args.calendar.now) calendar_length c.in_default.ensures.1)

pub returns-then-bytes-ge32-clause-answer : goal.returns-then-bytes-ge32-clause-answer
unfolding check_of calendar_cause calendar_causes cause first_cause
returns-then-bytes-ge32-clause-answer c =
    let cal = c.args.calendar.now in
    let whole = c.in-Ok.ensures.1 in
    let tail = tail-set cal (c.type_inv.calendar 4565).fits (rw whole.same at c.if-bytes-ge32.true) in
    rw (eq-eqb (length cal) calendar_length whole.long, tail)

pub returns-in-Some-clause-answer : goal.returns-in-Some-clause-answer
unfolding check_of cause first_cause first_lacking
returns-in-Some-clause-answer c =
    let cal = c.args.calendar.now in
    let whole = c.in-Ok.ensures.1 in
    let found = at_found (lacks cal) 0 month_count c.in-Some.month (rw whole.same at c.in-Some.ensures) in
    let decide = months_decide cal whole.long (rw whole.same at c.if-bytes-ge32.false) in
    rw (decide, found.0, lt-ltb c.in-Some.month month_count found.1)

passed : (c : In-None) → Passes c.args.calendar.now
unfolding first_lacking
passed c =
    let cal = c.args.calendar.now in
    let whole = c.in-Ok.ensures.1 in
    passes_of cal whole.long (rw whole.same at c.if-bytes-ge32.false) (none_found (lacks cal) 0 month_count (rw whole.same at c.in-None.ensures))

pub invariant_of-result : goal.invariant_of-result
invariant_of-result c = record { passes = passed (goal.at.invariant_of-result c).In-None }

pub returns-in-None-clause-answer : goal.returns-in-None-clause-answer
unfolding check_of
returns-in-None-clause-answer c = rw (passed (goal.at.returns-in-None-clause-answer c).In-None)
