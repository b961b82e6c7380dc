-- Laws of live months and tiers.
-- Assumes nothing.
use mathlib.Core.Path.{◌≡◌, ◌∙◌}
use mathlib.Core.Bool.{false, true, false≢true}
use mathlib.Core.List.{List, [], ◌∷◌, map}
use Prim.Native.Nat.{ℕ, ◌+◌, ◌*◌, ◌/◌, ◌%◌, ◌≤◌, ◌<◌}
use native.Mathlib.Omega.{arith}
use lib.Dec.{eqb}
use borrow.Author.Tests.{lt-leb, le-leb, leb-true, eq-eqb, ne_eqb, eqb-true, eqb-false}
use mathlib.Core.Logic.{◌⊎◌, inl, inr, ⊎_elim}
use Rattle.base.specs.Lists.{elem}
use Rattle.base.specs.declared.Tier.TheVariants.{N, M, F}
use Rattle.base.proofs.Tests.{by_le, clash, by_bool, or_e, or_r, or_l}
use Rattle.base.proofs.SearchLaws.{first_end, first_hit, first_skip, first_found, first-before, first_weaker, first-high}
use Rattle.dates.specs.Months.{month_count, day_count, first_day, month_of}
use Rattle.dates.proofs.MonthLaws.{first-day_mono, third-friday-before, month_of-below, in-month}
use Rattle.calendar.specs.Calendar.{Passes, expiry_of}
use Rattle.calendar.specs.Live.{unexpired, first_live, quarterly, next_quarter, live_months, tier_of}
use Rattle.calendar.proofs.CalendarLaws.{expiry-to, expiry-from}

-- expiry dates that lie each in its own month
pub record Dated (E : ℕ → ℕ) : Type 0 where
  pub from : (m : ℕ) → m < month_count → first_day m ≤ E m
  pub before : (m : ℕ) → m < month_count → E m < first_day (m + 1)

-- a later month expires later
pub dates-ascend : (E : ℕ → ℕ) → Dated E → (m n : ℕ) → m < n → n < month_count → E m < E n
dates-ascend E t m n l h = omega (arith, t.before m (omega arith), first-day_mono (m + 1) n (omega arith), t.from n h)

-- those of a calendar that passes do
pub calendar-dated : (cal : List ℕ) → Passes cal → Dated (expiry_of cal)
calendar-dated cal p = record { from = expiry-from cal p; before = λ m h. omega (arith, expiry-to cal m, third-friday-before m) }

-- ---- the first live month: the day's own month until it has expired, then the next
module _ (E : ℕ → ℕ) (t : Dated E) (d : ℕ) (l : d < day_count) where
  expired : (j : ℕ) → 0 ≤ j → j < month_of d → unexpired E d j ≡ false
  unfolding unexpired
  expired j z h =
      lt-leb d (E j)
      (omega (arith, (in-month d l).from, t.before j (omega (arith, month_of-below d l)), first-day_mono (j + 1) (month_of d) (omega arith)))

  pub live_now : d ≤ E (month_of d) → first_live E d ≡ month_of d
  unfolding first_live unexpired
  live_now h =
      first_skip (unexpired E d) 0 (month_of d) month_count (omega arith) (omega (arith, month_of-below d l)) expired
      ∙ first_hit (unexpired E d) (month_of d) month_count (month_of-below d l) (le-leb d (E (month_of d)) h)

  pub live-next : E (month_of d) < d → first_live E d ≡ month_of d + 1
  unfolding first_live unexpired
  live-next h =
      let m = month_of d in
      first_skip (unexpired E d) 0 (m + 1) month_count (omega arith) (omega (arith, month_of-below d l))
      (λ j z u. by_le m j (λ k. let e : j ≡ m = omega arith in rw e (lt-leb d (E m) h)) (λ k. expired j z k))
      ∙ by_le month_count (m + 1)
      (λ k. first_end (unexpired E d) (m + 1) month_count k)
      (λ k. first_hit (unexpired E d) (m + 1) month_count k (le-leb d (E (m + 1)) (omega (arith, (in-month d l).before, t.from (m + 1) k))))

-- a later day's first live month is no earlier
pub live_mono : (E : ℕ → ℕ) (d e : ℕ) → d ≤ e → first_live E d ≤ first_live E e
unfolding first_live unexpired
live_mono E d e h =
    first_weaker (unexpired E d) (unexpired E e)
    (λ m t. le-leb d (E m) (omega (arith, leb-true e (E m) t)))
    0 month_count (omega arith)

-- the first live month has not expired
pub live-unexpired : (E : ℕ → ℕ) (d : ℕ) → first_live E d < month_count → d ≤ E (first_live E d)
unfolding first_live unexpired
live-unexpired E d h = leb-true d (E (first_live E d)) (first_found (unexpired E d) 0 month_count h)

-- and no month that has not is before it
pub live-first : (E : ℕ → ℕ) (d m : ℕ) → d ≤ E m → first_live E d ≤ m
unfolding first_live unexpired
live-first E d m h =
    by_le (first_live E d) m (λ k. k)
    (λ k. clash (unexpired E d m) (le-leb d (E m) h) (first-before (unexpired E d) 0 month_count m (omega arith) k))

pub live_top : (E : ℕ → ℕ) (d : ℕ) → first_live E d ≤ month_count
unfolding first_live
live_top E d = first-high (unexpired E d) 0 month_count (omega arith)

-- where each date lies in the calendar, a day with a live month does, and past the calendar's last day no month is live
module _ (E : ℕ → ℕ) (in_calendar : (m : ℕ) → m < month_count → E m < day_count) (d : ℕ) where
  pub live-day : first_live E d < month_count → d < day_count
  live-day h = omega (arith, live-unexpired E d h, in_calendar (first_live E d) h)

  pub live_past : day_count ≤ d → first_live E d ≡ month_count
  live_past h =
      by_le month_count (first_live E d)
      (λ g. omega (arith, live_top E d))
      (λ g. absurd (omega (arith, live-day g)))

-- ---- the six live months
pub quarter_is : (f : ℕ) → next_quarter f ≡ (f + 3) / 3 * 3 + 2
unfolding next_quarter quarterly
quarter_is f =
    let q : ℕ = (f + 3) / 3 * 3 + 2 in
    first_skip quarterly (f + 3) q (f + 6) (omega arith) (omega arith) (λ j l u. ne_eqb (j % 3) 2 (omega arith))
    ∙ first_hit quarterly q (f + 6) (omega arith) (eq-eqb (q % 3) 2 (omega arith))

pub tier_n : (f m : ℕ) → m ≤ f → tier_of f m ≡ N
unfolding tier_of
tier_n f m h = rw (le-leb m f h)

pub tier_m : (f m : ℕ) → f < m → m ≤ f + 2 → tier_of f m ≡ M
unfolding tier_of
tier_m f m h g = rw (lt-leb m f h, le-leb m (f + 2) g)

pub tier_f : (f m : ℕ) → f + 2 < m → tier_of f m ≡ F
unfolding tier_of
tier_f f m h = rw (lt-leb m f (omega arith), lt-leb m (f + 2) h)

pub live_tiers : (f : ℕ) → map (tier_of f) (live_months f) ≡ N ∷ M ∷ M ∷ F ∷ F ∷ F ∷ []
unfolding live_months
live_tiers f =
    let q = quarter_is f in
    rw (
      tier_n f f (omega arith),
      tier_m f (f + 1) (omega arith) (omega arith),
      tier_m f (f + 2) (omega arith) (omega arith),
      tier_f f (next_quarter f) (omega arith),
      tier_f f (next_quarter f + 3) (omega arith),
      tier_f f (next_quarter f + 6) (omega arith),
    )

-- ---- a month that was live and is live again has been live between
module _ (f m : ℕ) where
  -- one of the first three, or a quarterly month up to the last
  abbrev pub InReach : Type 0
  InReach = (m ≤ f + 2) ⊎ ((m % 3 ≡ 2) × (m ≤ next_quarter f + 6))

  pub live_e : elem m (live_months f) ≡ true → (f ≤ m) × InReach
  unfolding elem live_months
  live_e e =
      let q : ℕ = next_quarter f in
      let qe : q ≡ (f + 3) / 3 * 3 + 2 = quarter_is f in
      or_e (eqb m f) _ e (λ t. let z = eqb-true m f t in (omega arith, inl (omega arith))) λ e₁.
      or_e (eqb m (f + 1)) _ e₁ (λ t. let z = eqb-true m (f + 1) t in (omega arith, inl (omega arith))) λ e₂.
      or_e (eqb m (f + 2)) _ e₂ (λ t. let z = eqb-true m (f + 2) t in (omega arith, inl (omega arith))) λ e₃.
      or_e (eqb m q) _ e₃ (λ t. let z = eqb-true m q t in (omega arith, inr (omega arith, omega arith))) λ e₄.
      or_e (eqb m (q + 3)) _ e₄ (λ t. let z = eqb-true m (q + 3) t in (omega arith, inr (omega arith, omega arith))) λ e₅.
      or_e (eqb m (q + 6)) _ e₅ (λ t. let z = eqb-true m (q + 6) t in (omega arith, inr (omega arith, omega arith))) λ e₆. absurd (false≢true e₆)

  pub live-near : f ≤ m → m ≤ f + 2 → elem m (live_months f) ≡ true
  unfolding elem live_months
  live-near a c =
      by_bool (eqb m f) (λ t. or_l (eqb m f) _ t) λ x. or_r (eqb m f) _
      (by_bool (eqb m (f + 1)) (λ t. or_l (eqb m (f + 1)) _ t) λ y. or_r (eqb m (f + 1)) _
      (or_l (eqb m (f + 2)) _ (eq-eqb m (f + 2) (omega (arith, eqb-false m f x, eqb-false m (f + 1) y)))))

  pub live_far : f + 2 < m → m % 3 ≡ 2 → m ≤ next_quarter f + 6 → elem m (live_months f) ≡ true
  unfolding elem live_months
  live_far a c u =
      let q : ℕ = next_quarter f in
      let qe : q ≡ (f + 3) / 3 * 3 + 2 = quarter_is f in
      or_r (eqb m f) _ (or_r (eqb m (f + 1)) _ (or_r (eqb m (f + 2)) _
      (by_bool (eqb m q) (λ t. or_l (eqb m q) _ t) λ x. or_r (eqb m q) _
      (by_bool (eqb m (q + 3)) (λ t. or_l (eqb m (q + 3)) _ t) λ y. or_r (eqb m (q + 3)) _
      (or_l (eqb m (q + 6)) false (eq-eqb m (q + 6) (omega (arith, eqb-false m q x, eqb-false m (q + 3) y))))))))

pub live-between : (f g k m : ℕ) → f ≤ g → g ≤ k → elem m (live_months f) ≡ true → elem m (live_months k) ≡ true → elem m (live_months g) ≡ true
live-between f g k m a c e l =
    let from = (live_e k m l).0 in
    ⊎_elim
    (λ n. live-near g m (omega arith) (omega arith))
    (λ n. by_le m (g + 2)
    (λ u. live-near g m (omega arith) u)
    (λ u. live_far g m u n.0 (omega (arith, n.1, quarter_is f, quarter_is g))))
    (live_e f m e).1
