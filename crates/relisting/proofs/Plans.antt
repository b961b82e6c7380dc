-- Plans of the live months: they can be carried out, and their prices ascend.
-- Assumes nothing.
use mathlib.Core.Path.{◌≡◌, sym}
use mathlib.Core.Bool.{true, false≢true}
use mathlib.Core.List.{List, [], ◌∷◌}
use Prim.Native.Nat.{ℕ, zero, suc, ◌≤◌, ◌<◌}
use native.Mathlib.Nat.{zero-add, le_of_suc-le-suc, not-suc-le-zero}
use native.Mathlib.Omega.{arith}
use lib.Dec.{eqb}
use lib.ListN.{length, get_or}
use borrow.Author.Tests.{eqb-true}
use Rattle.base.specs.Lists.{elem, within}
use Rattle.base.proofs.Tests.{or_e}
use Rattle.base.proofs.ListLaws.{elem-here, elem_there, select-count}
use Rattle.base.proofs.Rising.{rises, select_rises}
use Rattle.dates.specs.Months.{month_count}
use Rattle.calendar.specs.Live.{live_months, tier_of}
use Rattle.grid.specs.Grid.{grid_of}
use Rattle.rules.specs.Rules.{Moment}
use Rattle.rules.specs.Rulebook.{first_at, tier_at, rules}
use Rattle.rules.proofs.Laws.{total}
use Rattle.rules.proofs.RulebookLaws.{grid_rises, laws}
use Rattle.ladders.specs.declared.Plan.{Plan}
use Rattle.ladders.specs.Writing.{prices_in, Spanned, Ready}
use Rattle.ladders.proofs.Relisted.{At, count_over}
use Rattle.layout.specs.Bytes.{most_rows}

pub prices_rise : (m : Plan) → rises 0 (prices_in m) ≡ true
unfolding prices_in
prices_rise m = select_rises (within m.span.low m.span.high) 0 (grid_of m.tier) (grid_rises m.tier)

total_le : (G H : ℕ → List ℕ) (L : List ℕ) → ((m : ℕ) → length (G m) ≤ length (H m)) → total G L ≤ total H L
unfolding total
total_le G H [] h = omega arith
total_le G H (m ∷ ms) h = omega (arith, h m, total_le G H ms h)

pub elem_at : (xs : List ℕ) (i : ℕ) → i < length xs → elem (get_or xs i 0) xs ≡ true
elem_at [] i h = absurd (not-suc-le-zero h)
elem_at (x ∷ xs) zero h = elem-here x xs
elem_at (x ∷ xs) (suc i) h = elem_there (get_or xs i 0) x xs (elem_at xs i (le_of_suc-le-suc h))

pub index_of : (xs : List ℕ) (x : ℕ) → elem x xs ≡ true → (i : ℕ) × (i < length xs) × (get_or xs i 0 ≡ x)
unfolding elem
index_of [] x e = absurd (false≢true e)
index_of (y ∷ ys) x e =
    or_e (eqb x y) (elem x ys) e
    (λ t. (0, omega arith, sym (eqb-true x y t)))
    (λ t. let k = index_of ys x t in let l = k.1 in (suc k.0, omega arith, k.2))

-- the plans of the months that are live at a moment
module _ (cal : List ℕ) (x : Moment) (F : ℕ → Plan) (tier-is : (m : ℕ) → (F m).tier ≡ tier_of (first_at cal x) m)
    (spanned : (m : ℕ) → elem m (live_months (first_at cal x)) ≡ true → Spanned (F m)) where
  in-grid : (m : ℕ) → length (prices_in (F m)) ≤ length (grid_of (tier_of (first_at cal x) m))
  unfolding prices_in
  in-grid m = rw (← tier-is m) (select-count (within (F m).span.low (F m).span.high) (grid_of (F m).tier))

  all_fit : total (λ m. prices_in (F m)) (live_months (first_at cal x)) ≤ most_rows
  unfolding rules tier_at
  all_fit =
      let a = total_le (λ m. prices_in (F m)) (λ m. grid_of (tier_of (first_at cal x) m)) (live_months (first_at cal x)) in-grid in
      omega (arith, a, (laws cal).capacity x)

  pub ready : first_at cal x ≤ month_count → (plans : ℕ → Plan) → At F plans 0 (live_months (first_at cal x)) → Ready (first_at cal x) plans
  unfolding live_months
  ready h plans at = record {
    first-in = h;
    spanned = λ i l.
        let m : ℕ = get_or (live_months (first_at cal x)) i 0 in
        let e : plans i ≡ F m = rw (zero-add i) at (at i l) in
        rw e (spanned m (elem_at (live_months (first_at cal x)) i l));
    room = omega (arith, count_over F plans 0 (live_months (first_at cal x)) at, all_fit);
  }
