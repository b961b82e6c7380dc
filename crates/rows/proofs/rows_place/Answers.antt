-- `rows::rows_place` meets its contract: the causes are tried downwards, and a register that stands gives the place by its spans.
-- Assumes nothing.
use Rattle.std.proofs.Common.{refl, arith}
use Rattle.std.proofs.lemmas.Result.{err_from_is_err_and}
use Rattle.base.specs.declared.causes.Cause.TheVariants.{Empty as EmptyCause}
use Rattle.rules.specs.Rulebook.{first_at, rules}
use Rattle.layout.specs.Register.{empty}
use Rattle.layout.specs.Bytes.{moment_of, body_of}
use Rattle.layout.specs.Opening.{Reads}
use Rattle.layout.proofs.OpeningLaws.{refused_own}
use Rattle.layout.proofs.Running.{runs}
use Rattle.calls.specs.RowsCall.{rows_cause}
use Rattle.register.specs.Opens.{Finds}
use Rattle.register.proofs.Well.{run-held}
use Rattle.rows.proofs.MonthRows.{spans-order, rows-refused, rows_placed}
use Rattle.rows.proofs.rows_place.Goals.{In-Running}
use Rattle.rows.proofs.rows_place.Goals as goal

-- a register that runs
opened : (c : In-Running) → Finds c.args.calendar.now c.args.register.now c.in-Running.running
opened c = rw c.in-Running.is at c.in_ok-running.ensures

pub returns-in_err-running : goal.returns-in_err-running
returns-in_err-running c =
    let p = err_from_is_err_and c.from_residual.result c.from_residual.ensures.1 in
    record {
      place = rw (p.1, p.2) (rows-refused _ _ c.args.month (c.in_err-running.ensures _));
      month = rw (p.1, p.2) (c.in_err-running.ensures 0).month;
    }

pub returns-in_default-clause-place : goal.returns-in_default-clause-place
unfolding rows_cause
returns-in_default-clause-place c =
    let cal = c.args.calendar.now in
    let bs = c.args.register.now in
    let r : Reads cal bs empty = (rw c.in_default.is at c.in_ok-running.ensures).0 in
    rows-refused cal bs c.args.month (refused_own cal bs empty r (rows_cause (rules cal) c.args.month) EmptyCause refl (λ z. omega arith))

pub month_place-requires : goal.month_place-requires
month_place-requires c =
    let cal = c.args.calendar.now in
    let bs = c.args.register.now in
    let o = (opened (goal.at.month_place-requires c).In-Running).runs in
    λ i l. rw o.spans_are (spans-order (first_at cal (moment_of bs)) (body_of bs) (run-held cal bs o.reads.size (runs cal bs o.well)) i l)

pub returns-clause-place : goal.returns-clause-place
returns-clause-place c =
    let o = opened (goal.at.returns-clause-place c).In-Running in
    rw (c.month_place.ensures.place, o.runs.spans_are, o.first_is) (rows_placed c.args.calendar.now c.args.register.now c.args.month o.runs.reads (runs _ _ o.runs.well))
