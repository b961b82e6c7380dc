-- `replaying::run` meets its contract: what is left of the journal gives, from the register that stands, what the whole gives.
-- Assumes nothing.
use mathlib.Core.Path.{◌≡◌, refl, ◌∙◌}
use mathlib.Core.Bool.{true}
use Prim.Native.Nat.{◌<◌}
use native.Mathlib.Omega.{arith}
use lib.ListN.{length, get_or, length-set}
use Rattle.rules.specs.Rulebook.{rules}
use Rattle.calls.specs.Calls.{call_of, is_call}
use Rattle.history.specs.Claim.{final_at, numbers_at}
use Rattle.replaying.specs.Journal.{journal}
use Rattle.replaying.proofs.Running.{behind_none, behind_more, behind_all}
use Rattle.replaying.proofs.JournalLaws.{journal_length, Ran, ran, not_ran, fits_pool, fits_call, come_none, in_journal, call_is, come_more}
use Rattle.replaying.proofs.Outcomes.{kept}
use Rattle.replaying.proofs.run.Goals.{In_default, After-loop-i}
use Rattle.replaying.proofs.run.Goals as goal

pub loop-i-init : goal.loop-i-init
loop-i-init c =
    let k = kept _ _ _ _ c.requires in
    record { counted = k.counted; places = k.places; come = come_none _ _ _ k.calls; behind = behind_none _ _ _ _ }

pub split_at-requires : goal.split_at-requires
split_at-requires c =
    let l = c.loop-i in
    fits_pool _ _ l.i _ _ _ _ c.loop-i-test.true (omega (arith, l.invariant.counted)) c.from.ensures refl refl l.invariant.come.fit

-- what stands there is a call
stands : (c : In_default) → is_call (call_of (get_or c.args.kinds.now c.loop-i.i 0) c.split_at.result.0.now) ≡ true
stands c =
    let l = c.loop-i in
    let s = c.split_at.ensures in
    fits_call _ _ l.i _ _ _ _ c.loop-i-test.true (omega (arith, l.invariant.counted)) c.from.ensures s.front s.back l.invariant.come.fit

pub returns-in_default-clause-register_after : goal.returns-in_default-clause-register_after
returns-in_default-clause-register_after c = not_ran _ _ _ (stands c) c.in_default.ensures.value

pub returns-in_default-clause-numbers_after : goal.returns-in_default-clause-numbers_after
returns-in_default-clause-numbers_after c = not_ran _ _ _ (stands c) c.in_default.ensures.value

pub loop-i-preserved : goal.loop-i-preserved
loop-i-preserved c =
    let k = kept _ _ _ _ c.requires in
    let l = c.loop-i in
    let s = c.split_at.ensures in
    let m : l.i < length c.args.counts.now = omega (arith, l.invariant.counted) in
    let r : Ran c.args.calendar.now l.register c.call_by_kind.new.register (call_of (get_or c.args.kinds.now l.i 0) c.split_at.result.0.now) c.number.result =
    rw c.number.ensures (ran _ _ _ _ _ c.in-Some.ensures.value c.in-Some.ensures.register_after) in
    let h = in_journal _ _ _ l.i _ _ _ _ c.loop-i-test.true m c.from.ensures s.front s.back r.call r.call r.is k.calls l.invariant.come in
    let j = call_is _ _ _ l.i _ _ _ _ c.loop-i-test.true m c.from.ensures s.front s.back r.call r.call r.is k.calls l.invariant.come in
    record {
      counted = l.invariant.counted;
      places = length-set l.numbers l.i _ ∙ l.invariant.places;
      come = come_more _ _ _ l.i _ _ _ _ c.loop-i-test.true m c.from.ensures s.front s.back r.call r.call r.is k.calls l.invariant.come;
      behind =
          behind_more _ _ _ l.i r.call _ _ _ _ h (omega (arith, l.invariant.places)) (r.number_is ∙ rw j refl) (r.after_is ∙ rw j refl) l.invariant.behind;
    }

-- at the end, a place for each of the calls
ended : (c : After-loop-i) → let l = c.loop-i in let a = c.args in
    (l.register ≡ final_at (rules a.calendar.now) (journal a.kinds.now a.counts.now a.pool.now) a.register.now)
    × (l.numbers ≡ numbers_at (rules a.calendar.now) (journal a.kinds.now a.counts.now a.pool.now) a.register.now)
ended c =
    let k = kept _ _ _ _ c.requires in
    let l = c.loop-i in
    let j = journal_length _ _ _ k.calls in
    behind_all _ _ _ l.i _ _ (omega (arith, j)) (omega (arith, j, l.invariant.places)) l.invariant.behind

pub returns-clause-register_after : goal.returns-clause-register_after
returns-clause-register_after c = (ended c).0

pub returns-clause-numbers_after : goal.returns-clause-numbers_after
returns-clause-numbers_after c = (ended c).1
