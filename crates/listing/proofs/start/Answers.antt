-- `listing::start` meets its contract: each return is one of the ways in which a start ends.
-- Assumes nothing.
use mathlib.Core.Path.{◌≡◌, refl, sym, ◌∙◌}
use Rattle.std.proofs.lemmas.Result.{err_from_is_err_and}
use Rattle.base.specs.declared.causes.Cause.TheVariants.{Running as RunningCause}
use Rattle.rules.specs.Rulebook.{rules}
use Rattle.layout.specs.Register.{empty, running}
use Rattle.layout.specs.Bytes.{body_of}
use Rattle.layout.specs.Opening.{Reads}
use Rattle.calls.specs.declared.Call.{Call}
use Rattle.calls.specs.declared.Call.TheVariants.{Start}
use Rattle.calls.specs.Listing.{number, accepted}
use Rattle.calls.proofs.AnswerLaws.{refused-listed, own-refused, accepted-listed}
use Rattle.register.specs.Opens.{Finds}
use Rattle.listing.proofs.start.Goals.{In-Empty}
use Rattle.listing.proofs.start.Goals as goal

-- an empty register
reads : (c : In-Empty) → Reads c.args.calendar.now c.args.register.now empty × (c.in-Empty.passed.bytes.now ≡ c.args.calendar.now)
reads c = rw c.in-Empty.is at c.in_ok-passed.ensures

pub returns-in_err-passed : goal.returns-in_err-passed
returns-in_err-passed c =
    let p = err_from_is_err_and c.from_residual.result c.from_residual.ensures.1 in
    let x = refused-listed _ _ (Start c.args.day c.args.close) (c.in_err-passed.ensures _) in
    record { value = rw (p.1, p.2) x.0; register_after = x.1 }

pub returns-in_err-listing-in-Empty : goal.returns-in_err-listing-in-Empty
returns-in_err-listing-in-Empty c =
    let f = c.from_residual-in_err-listing-in-Empty in
    let p = err_from_is_err_and f.result f.ensures.1 in
    let r = reads (goal.at.returns-in_err-listing-in-Empty c).In-Empty in
    let call : Call = Start c.args.day c.args.close in
    let x = refused-listed _ _ call (own-refused _ _ call empty r.0 _ (rw r.1 at c.in_err-listing-in-Empty.ensures.cause)) in
    record { value = rw (p.1, p.2) x.0; register_after = x.1 }

pub returns-in_ok-listing-in-Empty : goal.returns-in_ok-listing-in-Empty
unfolding accepted rules
returns-in_ok-listing-in-Empty c =
    let cal = c.args.calendar.now in
    let bs = c.args.register.now in
    let r = reads (goal.at.returns-in_ok-listing-in-Empty c).In-Empty in
    let l = c.in_ok-listing-in-Empty.ensures.listing in
    let e = l.calendar_is ∙ r.1 in
    let k = c.list_start in
    let x = accepted-listed cal bs (Start c.args.day c.args.close) empty r.0 (sym (rw r.1 at c.in_ok-listing-in-Empty.ensures.cause))
    k.result k.new.register (rw (e, l.day_is, l.close_is) at k.ensures.value) (rw (e, l.day_is, l.close_is) at k.ensures.register_after) in
    record { value = x.0; register_after = x.1 }

pub returns-in-Running : goal.returns-in-Running
unfolding number
returns-in-Running c =
    let cal = c.args.calendar.now in
    let bs = c.args.register.now in
    let call : Call = Start c.args.day c.args.close in
    let o : Finds cal bs c.in-Running.field-0 = rw c.in-Running.is at c.in_ok-passed.ensures in
    let x = refused-listed cal bs call (own-refused cal bs call (running (body_of bs)) o.runs.reads RunningCause refl) in
    record { value = x.0; register_after = x.1 }
