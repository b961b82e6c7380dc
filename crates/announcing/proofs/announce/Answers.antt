-- `announcing::announce` meets its contract: cause after cause, then the announcement in its place.
-- Assumes nothing.
use mathlib.Core.Path.{◌≡◌, refl, sym}
use native.Mathlib.Omega.{arith}
use Rattle.std.proofs.lemmas.Result.{err_from_is_err_and}
use Rattle.base.specs.declared.causes.Cause.TheVariants.{Empty as EmptyCause}
use Rattle.rules.specs.Rulebook.{rules}
use Rattle.layout.specs.Register.{empty, running}
use Rattle.layout.specs.Bytes.{body_of}
use Rattle.layout.specs.Opening.{Reads}
use Rattle.layout.proofs.Running.{runs}
use Rattle.calls.specs.declared.Call.{Call}
use Rattle.calls.specs.declared.Call.TheVariants.{Announce}
use Rattle.calls.specs.Listing.{number, accepted}
use Rattle.calls.specs.Answers.{waiting_in, announced_at}
use Rattle.calls.proofs.AnswerLaws.{refused-told, own-refused, accepted-told}
use Rattle.register.specs.Opens.{Finds}
use Rattle.announcing.proofs.Causes.{fits, room}
use Rattle.announcing.proofs.announce.Goals.{In-Running, After-unwrap-register}
use Rattle.announcing.proofs.announce.Goals as goal

-- a register that runs
opened : (c : In-Running) → Finds c.args.calendar.now c.args.register.now c.in-Running.before
opened c = rw c.in-Running.is at c.in_ok-before.ensures

-- whose bytes are lent as an array
same : (c : After-unwrap-register) → c.unwrap-register.result.now ≡ c.args.register.now
same c = (rw c.unwrap-register.ensures at c.as_mut_array.ensures.cases).same

pub returns-in_err-before : goal.returns-in_err-before
unfolding announced_at
returns-in_err-before c =
    let p = err_from_is_err_and c.from_residual.result c.from_residual.ensures.1 in
    let x = refused-told _ _ (Announce c.args.month c.args.price) (c.in_err-before.ensures _) _ in
    record { value = rw (p.1, p.2) x.0; register_after = x.1 }

pub returns-in_default : goal.returns-in_default
unfolding number announced_at
returns-in_default c =
    let cal = c.args.calendar.now in
    let bs = c.args.register.now in
    let call : Call = Announce c.args.month c.args.price in
    let r : Reads cal bs empty = (rw c.in_default.is at c.in_ok-before.ensures).0 in
    let x = refused-told cal bs call (own-refused cal bs call empty r EmptyCause refl) _ in
    record { value = x.0; register_after = x.1 }

pub returns-in_err-announce_refusal : goal.returns-in_err-announce_refusal
unfolding announced_at
returns-in_err-announce_refusal c =
    let f = c.from_residual-in_err-announce_refusal in
    let p = err_from_is_err_and f.result f.ensures.1 in
    let g = goal.at.returns-in_err-announce_refusal c in
    let same = same g.After-unwrap-register in
    let o = opened g.In-Running in
    let call : Call = Announce c.args.month c.args.price in
    let x = refused-told _ _ call (own-refused _ _ call _ o.runs.reads _ (rw (same, o.calendar_is) at c.in_err-announce_refusal.ensures)) _ in
    record { value = rw (p.1, p.2) x.0; register_after = rw same x.1 }

pub announce_refusal-requires : goal.announce_refusal-requires
announce_refusal-requires c =
    let g = goal.at.announce_refusal-requires c in
    let o = opened g.In-Running in
    let e = sym o.calendar_is in
    rw (same g.After-unwrap-register) (record { runs = rw e at o.runs; calendar_is = refl; first_is = rw e at o.first_is })

pub overflow_cast-month : goal.overflow_cast-month
overflow_cast-month c =
    let g = goal.at.overflow_cast-month c in
    let o = opened g.In-Running in
    let f = fits _ _ c.args.month c.args.price o.runs.reads.size (runs _ _ o.runs.well) (sym (rw (same g.After-unwrap-register, o.calendar_is) at c.in_ok-announce_refusal.ensures)) in
    omega arith

pub overflow_cast-price : goal.overflow_cast-price
overflow_cast-price c =
    let g = goal.at.overflow_cast-price c in
    let o = opened g.In-Running in
    let f = fits _ _ c.args.month c.args.price o.runs.reads.size (runs _ _ o.runs.well) (sym (rw (same g.After-unwrap-register, o.calendar_is) at c.in_ok-announce_refusal.ensures)) in
    omega arith

pub put_announcement-requires : goal.put_announcement-requires
put_announcement-requires c =
    let g = goal.at.put_announcement-requires c in
    let same = same g.After-unwrap-register in
    let o = opened g.In-Running in
    rw same (room _ _ c.args.month c.args.price o.runs.reads.size (runs _ _ o.runs.well) (sym (rw (same, o.calendar_is) at c.in_ok-announce_refusal.ensures)))

pub returns : goal.returns
unfolding announced_at accepted waiting_in
returns c =
    let cal = c.args.calendar.now in
    let bs = c.args.register.now in
    let call : Call = Announce c.args.month c.args.price in
    let g = goal.at.returns c in
    let same = same g.After-unwrap-register in
    let o = opened g.In-Running in
    let k = c.put_announcement in
    let x = accepted-told cal bs call (running (body_of bs)) o.runs.reads (sym (rw (same, o.calendar_is) at c.in_ok-announce_refusal.ensures)) (λ r. waiting_in (accepted (rules cal) call r)) _ _
    (rw same at k.ensures.value) (rw same at k.ensures.register_after) in
    record { value = x.0; register_after = x.1 }
