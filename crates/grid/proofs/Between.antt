-- The prices of a span on a grid one after the other: behind the price of a number comes that of the number a stride higher.
-- Assumes nothing.
use mathlib.Core.Path.{◌≡◌, sym, ap, ◌∙◌}
use mathlib.Core.Bool.{true, false}
use mathlib.Core.List.{List, [], ◌∷◌, ◌++◌}
use Prim.Native.Nat.{ℕ, suc, ◌+◌, ◌-◌, ◌*◌, ◌/◌, ◌≤◌, ◌<◌, zero}
use native.Mathlib.Nat.{mul-lt-mul_of_pos_left}
use native.Mathlib.Omega.{arith}
use borrow.Author.Tests.{le-leb, lt-leb}
use Rattle.base.specs.Lists.{elem, select, within}
use Rattle.base.specs.declared.Tier.{Tier}
use Rattle.base.proofs.Tests.{by_bool}
use Rattle.base.proofs.ListLaws.{within_i, within_l, within_r, select-append, select_none, select_same}
use Rattle.grid.specs.Grid.{grid_of}
use Rattle.grid.specs.Numbers.{price, number_of, stride, top_number, OnGrid}
use Rattle.grid.proofs.Prices.{price_strict, price_mono, number_is}
use Rattle.grid.proofs.Grids.{prices_from, grid_numbers, stride_pos, prices_split, prices-at, place_of, on-number}
use Rattle.base.specs.declared.Tier.TheVariants.{N}
use lib.ListN.{length}

below : (lo hi p : ℕ) → p < lo → within lo hi p ≡ false
unfolding within
below lo hi p h = rw (lt-leb lo p h)

-- a lower low end takes in no more of what lies above the higher one
above : (a lo hi p : ℕ) → a ≤ lo → lo ≤ p → within a hi p ≡ within lo hi p
unfolding within
above a lo hi p h k = rw (le-leb a p (omega arith), le-leb lo p k)

-- a grid's prices from one number to another
abbrev pub between : Tier → ℕ → ℕ → List ℕ
between t lo hi = select (within (price lo) (price hi)) (grid_of t)

pub between_none : (t : Tier) (lo hi : ℕ) → hi < lo → between t lo hi ≡ []
between_none t lo hi h =
    select_none (within (price lo) (price hi)) (grid_of t) λ p e.
    by_bool (within (price lo) (price hi) p)
    (λ w. absurd (omega (arith, within_l (price lo) (price hi) p w, within_r (price lo) (price hi) p w, price_strict hi lo h)))
    (λ w. w)

pub between_next : (t : Tier) (j hi : ℕ) → OnGrid t j → j ≤ hi → between t j hi ≡ price j ∷ between t (j + stride t) hi
unfolding prices_from select
between_next t j hi o h =
    let k = place_of t j o in
    let s : ℕ = stride t in
    let i : ℕ = k.0 in
    let n : ℕ = top_number / s - suc i in
    let l = k.1 in
    let e : i + suc n ≡ top_number / s = omega arith in
    let grid : grid_of t ≡ prices_from s s i ++ (price j ∷ prices_from s (j + s) n) =
    grid_numbers t ∙ ap (prices_from s s) (sym e) ∙ prices_split s s i (suc n) ∙ rw k.2 in
    let first : (a p : ℕ) → j ≤ a → elem p (prices_from s s i) ≡ true → within (price a) (price hi) p ≡ false =
    λ a p b q.
    let r = prices-at s s i p q in
    let c = mul-lt-mul_of_pos_left r.1 (stride_pos t) in
    below (price a) (price hi) p (rw (← r.2) (price_strict (s + s * r.0) a (omega (arith, k.2)))) in
    let rest : (p : ℕ) → elem p (prices_from s (j + s) n) ≡ true → within (price j) (price hi) p ≡ within (price (j + s)) (price hi) p =
    λ p q.
    let r = prices-at s (j + s) n p q in
    above (price j) (price (j + s)) (price hi) p (price_mono j (j + s) (omega arith))
    (rw (← r.2) (price_mono (j + s) (j + s + s * r.0) (omega arith))) in
    let here : within (price j) (price hi) (price j) ≡ true = within_i (omega arith) (price_mono j hi h) in
    ap (select (within (price j) (price hi))) grid
    ∙ select-append (within (price j) (price hi)) (prices_from s s i) (price j ∷ prices_from s (j + s) n)
    ∙ rw (
      select_none (within (price j) (price hi)) (prices_from s s i) (λ p q. first j p (omega arith) q),
      here,
      select_same (within (price j) (price hi)) (within (price (j + s)) (price hi)) (prices_from s (j + s) n) rest,
    )
    (sym (ap (λ (ps : List ℕ). price j ∷ ps)
    (ap (select (within (price (j + s)) (price hi))) grid
    ∙ select-append (within (price (j + s)) (price hi)) (prices_from s s i) (price j ∷ prices_from s (j + s) n)
    ∙ rw (
      select_none (within (price (j + s)) (price hi)) (prices_from s s i) (λ p q. first (j + s) p (omega arith) q),
      below (price (j + s)) (price hi) (price j) (price_strict j (j + s) (omega (arith, stride_pos t))),
    ))))

-- a price of a grid has a number of it
pub grid-number : (t : Tier) (p : ℕ) → elem p (grid_of t) ≡ true → OnGrid t (number_of p) × (price (number_of p) ≡ p)
grid-number t p e =
    let k = on-number t p e in
    let i : number_of p ≡ k.0 = number_is p k.0 k.1.from k.1.to k.2 in
    (rw i k.1, ap price i ∙ k.2)

-- a ladder of tier N has a row for each number
pub near-count : (n lo : ℕ) → 1 ≤ lo → lo + n ≤ 507 → length (between N lo (lo + n)) ≡ suc n
unfolding stride
near-count zero lo a c =
    rw (between_next N lo (lo + 0) (record { from = a; to = omega arith; multiple = omega arith }) (omega arith), between_none N (lo + 1) (lo + 0) (omega arith))
near-count (suc n) lo a c =
    let e : lo + suc n ≡ lo + 1 + n = omega arith in
    rw (between_next N lo (lo + suc n) (record { from = a; to = omega arith; multiple = omega arith }) (omega arith), e, near-count n (lo + 1) (omega arith) (omega arith))
