-- An announcement's own causes, and what is known where none holds.
-- Assumes nothing.
use mathlib.Core.Path.{◌≡◌, sym, ◌∙◌}
use mathlib.Core.Bool.{Bool}
use mathlib.Core.List.{List}
use Prim.Native.Nat.{ℕ, ◌≤◌, ◌<◌}
use native.Mathlib.Omega.{arith}
use lib.Dec.{leb}
use lib.ListN.{length, get_or, drop}
use borrow.Author.Tests.{le-leb, lt-leb, leb-false, not-false}
use Rattle.base.specs.Lists.{elem}
use Rattle.base.specs.Causes.{cause, first_cause}
use Rattle.base.proofs.Tests.{or_fl}
use Rattle.base.proofs.CauseLaws.{none_of, not-cause, decides, goes_on, alone}
use Rattle.calendar.specs.Calendar.{Passes}
use Rattle.calendar.specs.Live.{live_months}
use Rattle.rules.specs.Rules.{Rules, next, last_first_month}
use Rattle.rules.specs.Rulebook.{first_at, rules}
use Rattle.calls.specs.declared.Call.TheVariants.{Announce}
use Rattle.rules.proofs.RulebookLaws.{laws}
use Rattle.layout.specs.Register.{most_waiting, Body, running, waiting_of, announce_causes}
use Rattle.layout.specs.Bytes.{register_length, moment_of, body_of, bytes_of}
use Rattle.layout.specs.Spans.{spans_of, span_in}
use Rattle.register.specs.Check.{causes_at}
use Rattle.layout.proofs.ByteLaws.{places_count}
use Rattle.layout.proofs.Running.{Running}
use Rattle.register.proofs.Well.{run_keeps}
use Rattle.register.proofs.Waiting.{causes_are}
use Rattle.calls.specs.Listing.{number}
use Rattle.announcing.specs.Placing.{Room}

-- ---- a register that runs: its places lie in their part
pub few_wait : (cal bs : List ℕ) → length bs ≡ register_length → Running cal bs → get_or bs 1 0 ≤ most_waiting
few_wait cal bs size r = (run_keeps cal bs size r).waiting

-- ---- the announcement's own causes, by what the scan knows
module _ (cal bs : List ℕ) (m p : ℕ) where
  abbrev b : Body
  b = body_of bs

  abbrev f : ℕ
  f = first_at cal (moment_of bs)

  waiting-count : length b.waiting ≡ get_or bs 1 0
  unfolding body_of
  waiting-count = places_count (get_or bs 1 0) (drop 8 bs)

  -- what the leaves found, put together
  pub gathered : Passes cal → (first next₁ n : ℕ) (spans : List (List ℕ)) (waits : Bool) → first ≤ last_first_month → first ≡ f → next₁ ≡ first_at cal (next (rules cal) (moment_of bs))
      → waits ≡ elem p (waiting_of m b.waiting) → spans ≡ spans_of b (live_months f) → n ≡ causes_at first next₁ (span_in (live_months first) spans m) waits m p
      → n ≡ first_cause (announce_causes (rules cal) b b.waiting m p)
  unfolding body_of
  gathered passes first next₁ n spans waits live fi nx w s e = rw (nx, w, s, fi) at e ∙ causes_are cal passes b (rw fi at live) b.waiting m p

  module _ (n : ℕ) (e : n ≡ first_cause (announce_causes (rules cal) b b.waiting m p)) where
    pub own-refusal : (n ≡ 0 → ⊥) → n ≡ number (rules cal) (Announce m p) (running b)
    unfolding number
    own-refusal h = e ∙ sym (decides (first_cause (announce_causes (rules cal) b b.waiting m p)) _ (λ z. h (e ∙ z)))

    module _ (z : n ≡ 0) where
      last-cause : number (rules cal) (Announce m p) (running b) ≡ cause (leb most_waiting (length b.waiting)) 25
      unfolding number
      last-cause = goes_on (first_cause (announce_causes (rules cal) b b.waiting m p)) _ (sym e ∙ z) ∙ alone _

      pub own_full : most_waiting ≤ get_or bs 1 0 → 25 ≡ number (rules cal) (Announce m p) (running b)
      unfolding cause
      own_full h = sym (last-cause ∙ rw (le-leb most_waiting (length b.waiting) (omega (arith, waiting-count))))

      pub own_none : get_or bs 1 0 < most_waiting → 0 ≡ number (rules cal) (Announce m p) (running b)
      unfolding cause
      own_none h = sym (last-cause ∙ rw (lt-leb most_waiting (length b.waiting) (omega (arith, waiting-count))))

-- ---- where none holds
module _ (cal bs : List ℕ) (m p : ℕ) (size : length bs ≡ register_length) (r : Running cal bs) (none : number (rules cal) (Announce m p) (running (body_of bs)) ≡ 0) where
  pub room : Room bs
  unfolding number bytes_of body_of
  room = record {
    layout = r.written;
    room = let l = leb-false most_waiting (length (body_of bs).waiting) (not-cause (leb most_waiting (length (body_of bs).waiting)) 24 (none_of _ _ (none_of _ _ none).1).0) in
        omega (arith, waiting-count cal bs m p);
  }

  -- the month is live and the price on a grid, so that two bytes hold each
  pub fits : (m ≤ 1199) × (p ≤ 9999)
  unfolding number announce_causes
  fits =
      let c = (none_of _ _ none).0 in
      let c₁ = (none_of _ _ c).1 in
      let c₂ = (none_of _ _ c₁).1 in
      let R : Rules = rules cal in
      let live = not-false (elem m (R.live (body_of bs).at)) (or_fl _ (leb (R.expiry (body_of bs).at m) (body_of bs).at.day) (not-cause _ 21 (none_of _ _ c₁).0)) in
      let on = not-false (elem p (R.grid (next R (body_of bs).at) m)) (not-cause _ 22 (none_of _ _ c₂).0) in
      ((laws cal).live_in (body_of bs).at m r.well.sound.live live, (laws cal).price_in (next R (body_of bs).at) m p on)
