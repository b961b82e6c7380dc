-- The rules of the 2026 text keep the laws, for every list of bytes as a calendar.
-- Assumes nothing.
use mathlib.Core.Path.{◌≡◌, refl}
use mathlib.Core.Bool.{Bool, true, false, cond, false≢true}
use mathlib.Core.List.{List}
use Prim.Native.Nat.{ℕ, ◌+◌, ◌*◌, ◌/◌, ◌≤◌, ◌<◌}
use native.Mathlib.Omega.{arith}
use native.Mathlib.Nat.{le_of_lt}
use lib.Dec.{leb, eqb}
use borrow.Author.Tests.{eqb-true, leb-true, le-leb, lt-leb, lt-ltb}
use Rattle.base.specs.Lists.{elem}
use Rattle.base.specs.declared.Tier.{Tier}
use Rattle.base.specs.declared.Tier.TheVariants.{N, M, F}
use Rattle.base.proofs.Tests.{by_le, or_e}
use Rattle.base.proofs.SearchLaws.{first_found}
use Rattle.base.proofs.Rising.{rises, rises_all}
use Rattle.dates.specs.Months.{month_count, day_count}
use Rattle.calendar.specs.Calendar.{session, expiry_of, next_session}
use Rattle.calendar.specs.Live.{first_live, next_quarter, live_months, tier_of}
use Rattle.calendar.proofs.CalendarLaws.{expiry-below, next_later}
use Rattle.calendar.proofs.LiveLaws.{live_mono, live-day, live_top, quarter_is, tier_n, tier_m, tier_f}
use Rattle.grid.specs.Grid.{up_by, band, grid_of}
use Rattle.grid.proofs.GridLaws.{grid_sizes, F_in_M, M_in_N, price_le, required-low, required-high}
use Rattle.rules.specs.Rules.{Moment, next, last_first_month}
use Rattle.rules.specs.Rulebook.{begun, moved, expiry_at, first_at, tier_at, rules}
use Rattle.rules.proofs.Laws.{Laws, total}

-- ---- the first live month of a moment
module _ (cal : List ℕ) where
  -- as the calendar alone gives it
  pub first_is : (x : Moment) → first_live (expiry_of cal) x.day ≡ first_at cal x
  unfolding first_at expiry_at
  first_is x = refl

  pub first_top : (x : Moment) → first_at cal x ≤ month_count
  unfolding first_at
  first_top x = live_top (expiry_at cal x) x.day

  -- a moment with a live month lies in the calendar
  pub first-day : (x : Moment) → first_at cal x < month_count → x.day < day_count
  unfolding first_at expiry_at
  first-day x = live-day (expiry_at cal x) (expiry-below cal) x.day

  -- at the next session it is no earlier
  pub first_later : (x : Moment) → first_at cal x ≤ first_at cal (next (rules cal) x)
  unfolding rules moved first_at expiry_at
  first_later x = live_mono (expiry_at cal x) x.day (next_session cal x.day) (le_of_lt (next_later cal x.day))

  next_found : (x : Moment) → first_at cal (next (rules cal) x) ≤ last_first_month → session cal (next_session cal x.day) ≡ true
  unfolding rules moved next_session
  next_found x h = first_found (session cal) (x.day + 1) day_count (first-day (next (rules cal) x) (omega arith))

-- a later first live month makes a month's grid finer, if anything
tier_finer : (f g m p : ℕ) → f ≤ g → elem p (grid_of (tier_of f m)) ≡ true → elem p (grid_of (tier_of g m)) ≡ true
unfolding tier_of
tier_finer f g m p le e =
    by_le m g
    (λ a. rw (le-leb m g a) (to_N (leb m f) (leb m (f + 2)) e))
    (λ a. by_le m (g + 2)
    (λ b. rw (lt-leb m g a, le-leb m (g + 2) b) (to_M (leb m (f + 2)) (rw (lt-leb m f (omega arith)) at e)))
    (λ b. rw (lt-leb m g a, lt-leb m (g + 2) b) (rw (lt-leb m f (omega arith), lt-leb m (f + 2) (omega arith)) at e)))
  where
    to_N : (x y : Bool) → elem p (grid_of (cond x N (cond y M F))) ≡ true → elem p (grid_of N) ≡ true
    to_N true y h = h
    to_N false true h = M_in_N p h
    to_N false false h = M_in_N p (F_in_M p h)

    to_M : (y : Bool) → elem p (grid_of (cond y M F)) ≡ true → elem p (grid_of M) ≡ true
    to_M true h = h
    to_M false h = F_in_M p h

pub live_le : (f m : ℕ) → f ≤ last_first_month → elem m (live_months f) ≡ true → m ≤ 1199
unfolding elem live_months
live_le f m h e =
    let q : ℕ = next_quarter f in
    let qe : q ≡ (f + 3) / 3 * 3 + 2 = quarter_is f in
    or_e (eqb m f) _ e (λ t. omega (arith, eqb-true m f t)) λ e₁.
    or_e (eqb m (f + 1)) _ e₁ (λ t. omega (arith, eqb-true m (f + 1) t)) λ e₂.
    or_e (eqb m (f + 2)) _ e₂ (λ t. omega (arith, eqb-true m (f + 2) t)) λ e₃.
    or_e (eqb m q) _ e₃ (λ t. omega (arith, eqb-true m q t)) λ e₄.
    or_e (eqb m (q + 3)) _ e₄ (λ t. omega (arith, eqb-true m (q + 3) t)) λ e₅.
    or_e (eqb m (q + 6)) _ e₅ (λ t. omega (arith, eqb-true m (q + 6) t)) λ e₆. absurd (false≢true e₆)

capacity_of : (f : ℕ) → total (λ m. grid_of (tier_of f m)) (live_months f) ≤ 1391
unfolding total live_months
capacity_of f =
    let q : ℕ = next_quarter f in
    let qe : q ≡ (f + 3) / 3 * 3 + 2 = quarter_is f in
    rw (
      tier_n f f (omega arith),
      tier_m f (f + 1) (omega arith) (omega arith),
      tier_m f (f + 2) (omega arith) (omega arith),
      tier_f f q (omega arith),
      tier_f f (q + 3) (omega arith),
      tier_f f (q + 6) (omega arith),
      grid_sizes.0,
      grid_sizes.1,
      grid_sizes.2,
    )
    (omega arith)

pub grid_rises : (t : Tier) → rises 0 (grid_of t) ≡ true
unfolding rises grid_of band up_by
grid_rises N = refl
grid_rises M = refl
grid_rises F = refl

pub live_rises : (f : ℕ) → rises_all (live_months f) ≡ true
unfolding rises_all rises live_months
live_rises f =
    let q : ℕ = next_quarter f in
    let qe : q ≡ (f + 3) / 3 * 3 + 2 = quarter_is f in
    rw (
      lt-ltb f (f + 1) (omega arith),
      lt-ltb (f + 1) (f + 2) (omega arith),
      lt-ltb (f + 2) q (omega arith),
      lt-ltb q (q + 3) (omega arith),
      lt-ltb (q + 3) (q + 6) (omega arith),
    )

pub laws : (cal : List ℕ) → Laws (rules cal)
unfolding rules tier_at begun moved
laws cal = record {
  good-begin = λ d. refl;
  good-move = λ x g. refl;
  begin-day = λ d. refl;
  move-day = λ x d. refl;
  later = λ x. next_later cal x.day;
  next-session = λ x g h. next_found cal x (leb-true _ _ h);
  day-in = λ x g h.
      let l = leb-true (first_at cal x) last_first_month h in
      let k = first-day cal x (omega arith) in
      omega arith;
  live_in = λ x m h e. live_le (first_at cal x) m (leb-true _ _ h) e;
  price_in = λ x m p e. let l = price_le (tier_at cal x m) p e in omega arith;
  capacity = λ x. capacity_of (first_at cal x);
  finer = λ x m p g l k. tier_finer (first_at cal x) (first_at cal (next (rules cal) x)) m p (first_later cal x);
  low-on = λ x new m c ok. (required-low (tier_at cal x m) c).0;
  high-on = λ x new m c ok. (required-high (tier_at cal x m) c).0;
  low-high = λ x new m c ok.
      let a = (required-low (tier_at cal x m) c).1 in
      let b = (required-high (tier_at cal x m) c).1 in
      omega arith;
  grid_rises = λ x m. grid_rises (tier_at cal x m);
  live_rises = λ x. live_rises (first_at cal x);
}
