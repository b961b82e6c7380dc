-- A ladder's prices are a run of numbers: the grid between two of its prices, and the step from a price to the next.
-- Assumes nothing.
use mathlib.Core.Path.{◌≡◌, sym, ap, ◌∙◌, refl}
use mathlib.Core.Bool.{Bool, false, ◌&&◌}
use mathlib.Core.List.{[], ◌++◌, append-nil}
use Prim.Native.Nat.{ℕ, suc, ◌+◌, ◌-◌, ◌*◌, ◌/◌, ◌%◌, ◌≤◌, ◌<◌}
use native.Mathlib.Nat.{le_of_suc-le-suc, mul-suc, mul-le-mul_left, mul-lt-mul_of_pos_left}
use native.Mathlib.Omega.{arith}
use lib.Dec.{leb, ltb}
use borrow.Author.Tests.{lt-ltb, le-ltb, le-leb, lt-leb}
use Rattle.base.specs.Lists.{select, within}
use Rattle.base.specs.declared.Tier.{Tier}
use Rattle.base.proofs.Tests.{by_le, and_i, and_no, by_bool}
use Rattle.base.proofs.ListLaws.{select-append, select_all, select_none}
use Rattle.grid.specs.Grid.{grid_of}
use Rattle.grid.specs.Numbers.{price, stride, top_number, OnGrid, band_step, band_end}
use Rattle.grid.proofs.Prices.{price_line, within-number}
use Rattle.grid.proofs.Grids.{prices_from, grid_numbers, by-stride, stride_pos, prices_split, prices-at, place_of}

-- ---- the step from a price of a grid to the next: the bands begin at the numbers 96 and 148, multiples of every stride
next_of-band : (j s : ℕ) → (j < 96 → j + s ≤ 96) → (j < 148 → j + s ≤ 148) → price j + s * band_step (price j) ≡ price (j + s)
unfolding band_step
next_of-band j s a b =
    let p = price_line j in
    let q = price_line (j + s) in
    by_le 96 j
    (λ h. by_le 148 j
    (λ k. rw (le-ltb (price j) 480 (omega arith), le-ltb (price j) 1000 (omega arith)) (omega arith))
    (λ k. rw (le-ltb (price j) 480 (omega arith), lt-ltb (price j) 1000 (omega arith)) (omega (arith, b k))))
    (λ h. rw (lt-ltb (price j) 480 (omega arith)) (omega (arith, a h)))

pub next-price : (t : Tier) (j : ℕ) → j % stride t ≡ 0 → price j + stride t * band_step (price j) ≡ price (j + stride t)
next-price t j m =
    let e = by-stride (λ s. j % s ≡ 0 → (j < 96 → j + s ≤ 96) × (j < 148 → j + s ≤ 148))
    (λ m. (λ h. omega arith, λ h. omega arith)) (λ m. (λ h. omega arith, λ h. omega arith)) (λ m. (λ h. omega arith, λ h. omega arith)) t m in
    next_of-band j (stride t) e.0 e.1

pub next-on : (t : Tier) (j : ℕ) → j % stride t ≡ 0 → (j + stride t) % stride t ≡ 0
next-on t j = by-stride (λ s. j % s ≡ 0 → (j + s) % s ≡ 0) (λ m. omega arith) (λ m. omega arith) (λ m. omega arith) t

-- ---- the grid from the price of number j to that of the n-th number behind it
module _ (t : Tier) (j n : ℕ) (o : OnGrid t j) (l : j + stride t * n ≤ top_number) where
  -- a price of a run of numbers that lie from j to the n-th behind it is chosen, one of a run that do not is not
  chosen : (i k : ℕ) → ((h : ℕ) → h < k → (j ≤ i + stride t * h) × (i + stride t * h ≤ j + stride t * n))
      → select (within (price j) (price (j + stride t * n))) (prices_from (stride t) i k) ≡ prices_from (stride t) i k
  chosen i k h =
      select_all (within (price j) (price (j + stride t * n))) (prices_from (stride t) i k)
      (λ p e.
      let w = prices-at (stride t) i k p e in
      let u = h w.0 w.1 in
      rw (← w.2) (within-number j (j + stride t * n) (i + stride t * w.0) ∙ and_i (le-leb _ _ u.0) (le-leb _ _ u.1)))

  passed : (i k : ℕ) → ((h : ℕ) → h < k → (leb j (i + stride t * h) && leb (i + stride t * h) (j + stride t * n)) ≡ false)
      → select (within (price j) (price (j + stride t * n))) (prices_from (stride t) i k) ≡ []
  passed i k h =
      select_none (within (price j) (price (j + stride t * n))) (prices_from (stride t) i k)
      (λ p e. let w = prices-at (stride t) i k p e in rw (← w.2) (within-number j (j + stride t * n) (i + stride t * w.0) ∙ h w.0 w.1))

  pub run-between : select (within (price j) (price (j + stride t * n))) (grid_of t) ≡ prices_from (stride t) j (suc n)
  run-between =
      let s : ℕ = stride t in
      let g : ℕ → Bool = within (price j) (price (j + s * n)) in
      let k = place_of t j o in
      let i : ℕ = k.0 in
      let room = by-stride (λ s. s + s * i + s * n ≤ top_number → i + suc n ≤ top_number / s) (λ u. omega arith) (λ u. omega arith) (λ u. omega arith) t (omega (arith, k.2)) in
      let size : top_number / s ≡ i + (suc n + (top_number / s - i - suc n)) = omega arith in
      let r : ℕ = top_number / s - i - suc n in
      let parts : grid_of t ≡ prices_from s s i ++ (prices_from s j (suc n) ++ prices_from s (j + s * suc n) r) =
      grid_numbers t ∙ ap (prices_from s s) size ∙ prices_split s s i (suc n + r) ∙ rw (k.2, prices_split s j (suc n) r) in
      rw (
        parts,
        select-append g (prices_from s s i),
        select-append g (prices_from s j (suc n)),
        passed s i (λ h u. rw (lt-leb j (s + s * h) (omega (arith, k.2, mul-lt-mul_of_pos_left u (stride_pos t))))),
        chosen j (suc n) (λ h u. (omega arith, omega (arith, mul-le-mul_left s (le_of_suc-le-suc u)))),
        passed (j + s * suc n) r (λ h u. and_no (leb j (j + s * suc n + s * h)) _ (lt-leb (j + s * suc n + s * h) (j + s * n) (omega (arith, mul-suc s n, stride_pos t)))),
        append-nil,
      )

-- ---- and from number to number
module _ (t : Tier) (lo hi : ℕ) (l : OnGrid t lo) (h : OnGrid t hi) (o : lo ≤ hi) where
  pub run_end : lo + stride t * ((hi - lo) / stride t) ≡ hi
  run_end =
      by-stride (λ s. lo % s ≡ 0 → hi % s ≡ 0 → lo + s * ((hi - lo) / s) ≡ hi)
      (λ x y. omega arith) (λ x y. omega arith) (λ x y. omega arith) t l.multiple h.multiple

  pub run_is : select (within (price lo) (price hi)) (grid_of t) ≡ prices_from (stride t) lo (suc ((hi - lo) / stride t))
  run_is =
      ap (λ (k : ℕ). select (within (price lo) (price k)) (grid_of t)) (sym run_end)
      ∙ run-between t lo ((hi - lo) / stride t) l (omega (arith, run_end, h.to))

-- ---- bands

-- a price below its band's end lies in the same band
pub band-kept : (p q : ℕ) → p ≤ q → q < band_end p → (band_step q ≡ band_step p) × (band_end q ≡ band_end p)
unfolding band_step band_end
band-kept p q a b =
    by_le 480 p
    (λ h. by_le 1000 p
    (λ k. rw (le-ltb p 480 h, le-ltb p 1000 k, le-ltb q 480 (omega arith), le-ltb q 1000 (omega arith)) (refl, refl))
    (λ k. let u : q < 1000 = rw (le-ltb p 480 h, lt-ltb p 1000 k) at b in
    rw (le-ltb p 480 h, lt-ltb p 1000 k, le-ltb q 480 (omega arith), lt-ltb q 1000 u) (refl, refl)))
    (λ h. let u : q < 480 = rw (lt-ltb p 480 h) at b in rw (lt-ltb p 480 h, lt-ltb q 480 u) (refl, refl))

pub end_le : (p : ℕ) → band_end p ≤ 10000
unfolding band_end
end_le p = by_bool (ltb p 480) (λ e. rw e (omega arith)) (λ e. by_bool (ltb p 1000) (λ g. rw (e, g) (omega arith)) (λ g. rw (e, g) (omega arith)))
