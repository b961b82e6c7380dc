-- `listing::session` meets its contract: each return is one of the ways in which a session ends.
-- Assumes nothing.
use mathlib.Core.Path.{◌≡◌, refl, sym, ◌∙◌}
use mathlib.Core.List.{List}
use Prim.Native.Nat.{ℕ}
use Rattle.std.proofs.lemmas.Result.{err_from_is_err_and}
use Rattle.base.specs.declared.causes.Cause.TheVariants.{Empty as EmptyCause}
use Rattle.calendar.specs.Calendar.{next_session}
use Rattle.rules.specs.Rulebook.{rules}
use Rattle.layout.specs.Register.{empty, running}
use Rattle.layout.specs.Bytes.{moment_of, body_of}
use Rattle.layout.specs.Opening.{Reads}
use Rattle.calls.specs.declared.Call.{Call}
use Rattle.calls.specs.declared.Call.TheVariants.{Session}
use Rattle.calls.specs.Listing.{number, accepted}
use Rattle.calls.proofs.AnswerLaws.{refused-listed, own-refused, accepted-listed}
use Rattle.layout.proofs.Running.{runs}
use Rattle.register.specs.Opens.{Finds}
use Rattle.register.proofs.Well.{run-day}
use Rattle.listing.proofs.Causes.{session-next}
use Rattle.listing.proofs.session.Goals.{In-Running, After-unwrap-register}
use Rattle.listing.proofs.session.Goals as goal

-- a register that runs
opened : (c : In-Running) → Finds c.args.calendar.now c.args.register.now c.in-Running.before
opened c = rw c.in-Running.is at c.in_ok-before.ensures

-- whose bytes are lent as an array
same : (c : After-unwrap-register) → c.unwrap-register.result.now ≡ c.args.register.now
same c = (rw c.unwrap-register.ensures at c.as_mut_array.ensures.cases).same

-- and a session with no cause against it, whose day is the next
next : (cal bs : List ℕ) (day close : ℕ) → 0 ≡ number (rules cal) (Session day close) (running (body_of bs)) → day ≡ next_session cal (moment_of bs).day
unfolding body_of
next cal bs day close e = session-next cal day close (body_of bs) (sym e)

pub returns-in_err-before : goal.returns-in_err-before
returns-in_err-before c =
    let p = err_from_is_err_and c.from_residual.result c.from_residual.ensures.1 in
    let x = refused-listed _ _ (Session c.args.day c.args.close) (c.in_err-before.ensures _) in
    record { value = rw (p.1, p.2) x.0; register_after = x.1 }

pub returns-in_default : goal.returns-in_default
unfolding number
returns-in_default c =
    let cal = c.args.calendar.now in
    let bs = c.args.register.now in
    let call : Call = Session c.args.day c.args.close in
    let r : Reads cal bs empty = (rw c.in_default.is at c.in_ok-before.ensures).0 in
    let x = refused-listed cal bs call (own-refused cal bs call empty r EmptyCause refl) in
    record { value = x.0; register_after = x.1 }

pub session_listing-requires : goal.session_listing-requires
session_listing-requires c =
    let g = goal.at.session_listing-requires c in
    let r = (opened g.In-Running).runs in
    rw (same g.After-unwrap-register) (run-day _ _ r.reads.size (runs _ _ r.well))

pub returns-in_err-listing : goal.returns-in_err-listing
returns-in_err-listing c =
    let f = c.from_residual-in_err-listing in
    let p = err_from_is_err_and f.result f.ensures.1 in
    let g = goal.at.returns-in_err-listing c in
    let o = opened g.In-Running in
    let call : Call = Session c.args.day c.args.close in
    let x = refused-listed _ _ call (own-refused _ _ call _ o.runs.reads _ (rw (same g.After-unwrap-register, o.calendar_is) at c.in_err-listing.ensures.cause)) in
    record { value = rw (p.1, p.2) x.0; register_after = rw (same g.After-unwrap-register) x.1 }

pub list_session-requires : goal.list_session-requires
list_session-requires c =
    let g = goal.at.list_session-requires c in
    let o = opened g.In-Running in
    let l = c.in_ok-listing.ensures.listing in
    let e = l.calendar_is ∙ o.calendar_is in
    let same = same g.After-unwrap-register in
    record {
      found = rw (e, same) o;
      next = rw (e, l.day_is, same) (next _ _ _ _ (rw (same, o.calendar_is) at c.in_ok-listing.ensures.cause));
    }

pub returns : goal.returns
unfolding accepted rules body_of
returns c =
    let g = goal.at.returns c in
    let o = opened g.In-Running in
    let l = c.in_ok-listing.ensures.listing in
    let e = l.calendar_is ∙ o.calendar_is in
    let same = same g.After-unwrap-register in
    let k = c.list_session in
    let x = accepted-listed _ _ (Session c.args.day c.args.close) _ o.runs.reads (sym (rw (same, o.calendar_is) at c.in_ok-listing.ensures.cause))
    k.result k.new.register (rw (e, l.day_is, l.close_is, same) at k.ensures.value) (rw (e, l.day_is, l.close_is, same) at k.ensures.register_after) in
    record { value = x.0; register_after = x.1 }
