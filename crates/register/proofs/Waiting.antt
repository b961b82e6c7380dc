-- The waiting announcements: places one by one, live months and their spans, and an announcement's causes tried downwards.
-- Assumes nothing.
use mathlib.Core.Path.{◌≡◌, refl, sym, ◌∙◌}
use mathlib.Core.Bool.{Bool, true, false, ◌&&◌, ◌||◌}
use mathlib.Core.List.{List, [], ◌∷◌, ◌++◌, map}
use Prim.Native.Nat.{ℕ, suc, ◌+◌, ◌≤◌, ◌<◌}
use native.Mathlib.Omega.{arith}
use lib.Dec.{eqb, leb, ltb}
use lib.ListN.{length, get_or, take, drop}
use borrow.Author.Tests.{eqb-true, eq-eqb, ne_eqb, ltb-true, lt-ltb, le-ltb}
use Rattle.std.specs.Prelude.{Option, Some, None, ◌==◌, position}
use Rattle.std.specs.List.{list_any, position_or_len}
use Rattle.std.proofs.lemmas.List.{take_more, drop_more, drop_all, map-append}
use Rattle.base.specs.Lists.{elem}
use Rattle.base.specs.Causes.{cause, first_cause}
use Rattle.base.specs.Words.{at16}
use Rattle.base.proofs.Tests.{by_bool, by_le}
use Rattle.calendar.specs.Calendar.{Passes}
use Rattle.calendar.specs.Live.{live_months}
use Rattle.rules.specs.Rules.{Rules, next, last_first_month}
use Rattle.rules.specs.Rulebook.{rules, expiry_at, first_at, tier_at}
use Rattle.rules.proofs.RulebookLaws.{live_le}
use Rattle.rules.proofs.NextLaws.{expired-next}
use Rattle.layout.specs.Register.{Body, waiting_of, announce_causes, waiting_ok}
use Rattle.layout.specs.Bytes.{place_of}
use Rattle.layout.specs.Spans.{spans_of, span_in}
use Rattle.layout.proofs.SpanLaws.{span-in}
use Rattle.register.specs.Check.{causes_at}

-- ---- whether a price waits for a month
pub waits_any : (m p : ℕ) (xs : List (List ℕ)) → list_any (λ (x : List ℕ). eqb m (at16 x 0) && eqb p (at16 x 2)) xs ≡ elem p (waiting_of m (map place_of xs))
unfolding waiting_of elem
waits_any m p [] = refl
waits_any m p (x ∷ xs) =
    by_bool (eqb m (at16 x 0))
    (λ e. by_bool (eqb p (at16 x 2)) (λ g. rw (e, g)) (λ g. rw (e, g) (waits_any m p xs)))
    (λ e. rw e (waits_any m p xs))

waits-append : (m p : ℕ) (xs ys : List (ℕ × ℕ)) → elem p (waiting_of m (xs ++ ys)) ≡ (elem p (waiting_of m xs) || elem p (waiting_of m ys))
unfolding waiting_of elem
waits-append m p [] ys = refl
waits-append m p (x ∷ xs) ys =
    by_bool (eqb m x.0)
    (λ e. by_bool (eqb p x.1) (λ g. rw (e, g)) (λ g. rw (e, g) (waits-append m p xs ys)))
    (λ e. rw e (waits-append m p xs ys))

-- in the first list, or else in the second
module _ (m p : ℕ) (xs ys : List (ℕ × ℕ)) where
  pub waits_first : elem p (waiting_of m xs) ≡ true → elem p (waiting_of m xs) ≡ elem p (waiting_of m (xs ++ ys))
  waits_first h = h ∙ sym (waits-append m p xs ys ∙ rw h)

  pub waits_rest : elem p (waiting_of m xs) ≡ false → elem p (waiting_of m ys) ≡ elem p (waiting_of m (xs ++ ys))
  waits_rest h = sym (waits-append m p xs ys ∙ rw h)

-- ---- where a month stands among some, and its span
abbrev place : ℕ → List ℕ → ℕ
place m ms = position_or_len (λ n. m == n) ms

place-elem : (m : ℕ) (ms : List ℕ) → ltb (place m ms) (length ms) ≡ elem m ms
unfolding elem
place-elem m [] = refl
place-elem m (n ∷ ns) =
    by_bool (eqb m n)
    (λ e. rw (e, lt-ltb 0 (suc (length ns)) (omega arith)))
    (λ e. rw e
    (by_le (length ns) (place m ns)
    (λ h. rw (← place-elem m ns, le-ltb (place m ns) (length ns) h, le-ltb (1 + place m ns) (suc (length ns)) (omega arith)))
    (λ h. rw (← place-elem m ns, lt-ltb (place m ns) (length ns) h, lt-ltb (1 + place m ns) (suc (length ns)) (omega arith)))))

span_place : (m : ℕ) (ms : List ℕ) (ss : List (List ℕ)) → place m ms < length ms → place m ms < length ss → span_in ms ss m ≡ get_or ss (place m ms) []
unfolding span_in
span_place m [] ss h k = absurd (omega arith)
span_place m (n ∷ ns) [] h k = absurd (omega arith)
span_place m (n ∷ ns) (s ∷ ss) h k =
    by_bool (eqb m n)
    (λ e. rw e)
    (λ e.
    let h' : 1 + place m ns < suc (length ns) = rw e at h in
    let k' : 1 + place m ns < suc (length ss) = rw e at k in
    let f : 1 + place m ns ≡ suc (place m ns) = omega arith in
    rw (e, f) (span_place m ns ss (omega arith) (omega arith)))

month_place : (m : ℕ) (ms : List ℕ) → place m ms < length ms → get_or ms (place m ms) 0 ≡ m
month_place m [] h = absurd (omega arith)
month_place m (n ∷ ns) h =
    by_bool (eqb m n)
    (λ e. rw e (sym (eqb-true m n e)))
    (λ e.
    let h' : 1 + place m ns < suc (length ns) = rw e at h in
    let f : 1 + place m ns ≡ suc (place m ns) = omega arith in
    rw (e, f) (month_place m ns (omega arith)))

-- it and its span stand there among six; it stands nowhere where it is not live
abbrev pub Places : ℕ → List ℕ → Option ℕ → Type 0
Places m live (Some i) = (i < 6) × (elem m live ≡ true) × (get_or live i 0 ≡ m) × ((spans : List (List ℕ)) → length spans ≡ 6 → span_in live spans m ≡ get_or spans i [])
Places m live None = elem m live ≡ false

pub places : (m : ℕ) (ms : List ℕ) → length ms ≡ 6 → (o : Option ℕ) → o ≡ position (λ n. m == n) ms → Places m ms o
places m ms six None h =
    sym (place-elem m ms)
    ∙ by_bool (ltb (place m ms) (length ms)) (λ e. let z : None ≡ Some (place m ms) = rw e at h in absurd (cc)) (λ e. e)
places m ms six (Some i) h =
    by_bool (ltb (place m ms) (length ms))
    (λ e.
    let z : Some i ≡ Some (place m ms) = rw e at h in
    let q : i ≡ place m ms = cc in
    let l = ltb-true (place m ms) (length ms) e in
    (omega arith, sym (place-elem m ms) ∙ e, rw q (month_place m ms l), λ ss k. rw q (span_place m ms ss l (omega arith))))
    (λ e. let z : Some i ≡ None = rw e at h in absurd (cc))

-- ---- the causes by numbers are the causes on the register
module _ (cal : List ℕ) (passes : Passes cal) (b : Body) (live : first_at cal b.at ≤ last_first_month) (others : List (ℕ × ℕ)) (m p : ℕ) where
  expired_is : elem m (live_months (first_at cal b.at)) ≡ true → leb (expiry_at cal b.at m) b.at.day ≡ ltb m (first_at cal (next (rules cal) b.at))
  expired_is e = let l = live_le (first_at cal b.at) m live e in expired-next cal passes b.at m (omega arith)

  pub causes_are :
      let f = first_at cal b.at in
      causes_at f (first_at cal (next (rules cal) b.at)) (span_in (live_months f) (spans_of b (live_months f)) m) (elem p (waiting_of m others)) m p
      ≡ first_cause (announce_causes (rules cal) b others m p)
  unfolding causes_at announce_causes rules tier_at cause first_cause
  causes_are =
      let f : ℕ = first_at cal b.at in
      by_bool (elem m (live_months f))
      (λ e. rw (span-in b m (live_months f), e, expired_is e))
      (λ e. by_bool (ltb last_first_month (first_at cal (next (rules cal) b.at))) (λ g. rw g) (λ g. rw (g, e)))

-- ---- one waiting announcement after the other
module _ (R : Rules) (b : Body) (xs : List (List ℕ)) (i : ℕ) where
  -- the causes of the i-th beside the others
  abbrev pub beside : ℕ
  beside = first_cause (announce_causes R b (map place_of (take i xs) ++ map place_of (drop (i + 1) xs)) (at16 (get_or xs i []) 0) (at16 (get_or xs i []) 2))

  -- those left stand beside those passed
  abbrev pub left_ok : Bool
  left_ok = waiting_ok R b (map place_of (take i xs)) (map place_of (drop i xs))

  pub waiting_end : length xs ≤ i → left_ok ≡ true
  unfolding waiting_ok
  waiting_end h = rw (drop_all i xs h)

  module _ (h : i < length xs) where
    pub waiting_stop : (beside ≡ 0 → ⊥) → left_ok ≡ false
    unfolding waiting_ok
    waiting_stop e = rw (drop_more xs i [] h, ne_eqb beside 0 e)

pub waiting-next : (R : Rules) (b : Body) (xs : List (List ℕ)) (i : ℕ) → i < length xs → beside R b xs i ≡ 0 → left_ok R b xs i ≡ left_ok R b xs (i + 1)
unfolding waiting_ok
waiting-next R b xs i h e =
    rw (drop_more xs i [] h, eq-eqb (beside R b xs i) 0 e, take_more xs i [] h, map-append place_of (take i xs) (get_or xs i [] ∷ []))
