-- One step of each scan of Scan.antt, as the loops take it.
-- Assumes nothing.
use mathlib.Core.Path.{◌≡◌, refl, sym, ap}
use mathlib.Core.Bool.{true, false, ◌&&◌}
use mathlib.Core.List.{List, [], ◌∷◌, ◌++◌, map}
use Prim.Native.Nat.{ℕ, zero, suc, ◌+◌, ◌-◌, ◌*◌, ◌≤◌, ◌<◌}
use native.Mathlib.Numerals.{add-one}
use native.Mathlib.Omega.{arith}
use lib.Dec.{leb, eqb, ltb, eqb-suc-zero}
use lib.ListN.{length, get_or, take, drop, length-map}
use Rattle.std.specs.Prelude.{Some, None, slice_get}
use Rattle.std.specs.Bool.{then_some}
use Rattle.std.specs.Simd.{first_chunks}
use Rattle.std.proofs.lemmas.List.{drop_more, drop_all, drop-map}
use Rattle.std.proofs.lemmas.Option.{none-some, same_Some}
use lib.Seq.{drop-cons}
use borrow.Author.Tests.{eqb-true, eq-eqb, ne_eqb, lt-ltb, le-ltb, le-leb, leb-true}
use Rattle.base.specs.Lists.{elem, within}
use Rattle.base.specs.declared.Tier.{Tier}
use Rattle.base.proofs.Tests.{by_bool}
use Rattle.calendar.specs.Live.{live_months, tier_of}
use Rattle.grid.specs.Grid.{grid_of}
use Rattle.grid.specs.Numbers.{stride, band_step}
use Rattle.layout.specs.Rows.{Row, entry_ok}
use Rattle.base.specs.Words.{at16}
use Rattle.layout.proofs.Chunks.{at16-take}
use Rattle.scan.specs.Scan.{scanned, rows_at, fitting, climbed, head_price, ladder_rows, some_rows, ladder_spans}

-- ---- rows
pub next-row : (xs : List (List ℕ)) (i : ℕ) → i < length xs → map scanned (drop i xs) ≡ scanned (get_or xs i []) ∷ map scanned (drop (i + 1) xs)
next-row xs i h = ap (map scanned) (drop_more xs i [] h)

pub no-row : (xs : List (List ℕ)) (i : ℕ) → length xs ≤ i → map scanned (drop i xs) ≡ []
no-row xs i h = ap (map scanned) (drop_all i xs h)

pub none-first : (xs : List (List ℕ)) → None ≡ slice_get xs 0 → map scanned xs ≡ []
none-first [] e = refl
none-first (x ∷ xs) e = absurd (none-some x e)

pub some-first : (xs : List (List ℕ)) (x : List ℕ) → Some x ≡ slice_get xs 0 → map scanned xs ≡ scanned x ∷ map scanned (drop 1 xs)
some-first [] x e = absurd (none-some x (sym e))
some-first (y ∷ xs) x e = rw (same_Some x y e)

scanned-front : (xs : List ℕ) → scanned (take 8 xs) ≡ scanned xs
scanned-front xs =
    rw (at16-take 8 0 xs (omega arith), at16-take 8 2 xs (omega arith), at16-take 8 4 xs (omega arith), at16-take 8 6 xs (omega arith))

-- the rows of a register as the scan is lent them
pub rows_scanned : (n : ℕ) (xs : List ℕ) → map scanned (first_chunks 8 n xs) ≡ rows_at n xs
unfolding rows_at
rows_scanned zero xs = refl
rows_scanned (suc n) xs = rw (scanned-front xs, rows_scanned n (drop 8 xs))

-- ---- whether a row fits
module _ (day m p : ℕ) (r : Row) where
  fits_by : ((eqb r.month m ≡ true) → (eqb r.price p ≡ true) → (leb r.entry.first day ≡ true) → (leb 1 r.entry.origin ≡ true) → leb r.entry.origin 5 ≡ false) → fitting day m p r ≡ false
  unfolding fitting entry_ok within
  fits_by h =
      by_bool (eqb r.month m) (λ a.
      by_bool (eqb r.price p) (λ b.
      by_bool (leb r.entry.first day) (λ d.
      by_bool (leb 1 r.entry.origin) (λ o. rw (a, b, d, o, h a b d o)) (λ o. rw (a, b, d, o)))
      (λ d. rw (a, b, d)))
      (λ b. rw (a, b)))
      (λ a. rw a)

  pub fits_not : (r.month ≡ m → r.price ≡ p → ⊥) → fitting day m p r ≡ false
  fits_not h = fits_by (λ a b d o. absurd (h (eqb-true r.month m a) (eqb-true r.price p b)))

  pub fits_late : day < r.entry.first → fitting day m p r ≡ false
  fits_late h = fits_by (λ a b d o. let l = leb-true r.entry.first day d in absurd (omega arith))

  pub fits_no_origin : r.entry.origin < 1 → fitting day m p r ≡ false
  fits_no_origin h = fits_by (λ a b d o. let l = leb-true 1 r.entry.origin o in absurd (omega arith))

  pub fits-origin : r.month ≡ m → r.price ≡ p → r.entry.first ≤ day → 1 ≤ r.entry.origin → fitting day m p r ≡ leb r.entry.origin 5
  unfolding fitting entry_ok within
  fits-origin a b d l = rw (eq-eqb r.month m a, eq-eqb r.price p b, le-leb r.entry.first day d, le-leb 1 r.entry.origin l)

-- ---- up a ladder
module _ (day m s p : ℕ) (r : Row) (rs : List Row) (l : p < 10000) where
  pub climbed_stop : fitting day m p r ≡ false → climbed day m s p (r ∷ rs) ≡ 0
  unfolding climbed
  climbed_stop e = rw (lt-ltb p 10000 l, e)

  pub climbed-more : fitting day m p r ≡ true → climbed day m s p (r ∷ rs) ≡ suc (climbed day m s (p + s * band_step p) rs)
  unfolding climbed
  climbed-more e = rw (lt-ltb p 10000 l, e)

-- at the n-th row, where those before it went up from the lowest price
module _ (day m s low p n : ℕ) (xs : List (List ℕ)) (h : n < length xs) (l : p < 10000)
    (passed : climbed day m s low (map scanned xs) ≡ n + climbed day m s p (map scanned (drop n xs))) where
  pub climb_stops : fitting day m p (scanned (get_or xs n [])) ≡ false → n ≡ climbed day m s low (map scanned xs)
  climb_stops e = omega (arith, passed, ap (climbed day m s p) (next-row xs n h), climbed_stop day m s p (scanned (get_or xs n [])) (map scanned (drop (n + 1) xs)) l e)

  pub climb-goes : fitting day m p (scanned (get_or xs n [])) ≡ true
      → climbed day m s low (map scanned xs) ≡ n + 1 + climbed day m s (p + s * band_step p) (map scanned (drop (n + 1) xs))
  climb-goes e = omega (arith, passed, ap (climbed day m s p) (next-row xs n h), climbed-more day m s p (scanned (get_or xs n [])) (map scanned (drop (n + 1) xs)) l e)

pub climbed_end : (day m s p : ℕ) → climbed day m s p [] ≡ 0
unfolding climbed
climbed_end day m s p = refl

pub climbed_top : (day m s p : ℕ) (rs : List Row) → 10000 ≤ p → climbed day m s p rs ≡ 0
unfolding climbed
climbed_top day m s p [] h = refl
climbed_top day m s p (r ∷ rs) h = rw (le-ltb p 10000 h)

-- ---- ladders
pub six_months : (f : ℕ) (ms : List ℕ) → ms ≡ live_months f → length ms ≡ 6
unfolding live_months
six_months f ms e = ap length e

climbed-short : (day m s p : ℕ) (rs : List Row) → climbed day m s p rs ≤ length rs
unfolding climbed
climbed-short day m s p [] = omega arith
climbed-short day m s p (r ∷ rs) =
    let h = climbed-short day m s (p + s * band_step p) rs in
    by_bool (ltb p 10000 && fitting day m p r) (λ e. rw e (omega arith)) (λ e. rw e (omega arith))

module _ (day m : ℕ) (t : Tier) where
  pub ladder_end : ladder_rows day m t [] ≡ 0
  unfolding ladder_rows climbed
  ladder_end = by_bool (elem (head_price []) (grid_of t)) (λ e. rw e) (λ e. rw e)

  module _ (xs : List (List ℕ)) (x : List ℕ) (first : Some x ≡ slice_get xs 0) where
    pub ladder_off : elem (at16 x 2) (grid_of t) ≡ false → ladder_rows day m t (map scanned xs) ≡ 0
    unfolding ladder_rows head_price
    ladder_off e = rw (some-first xs x first, e)

    pub ladder-on : elem (at16 x 2) (grid_of t) ≡ true → ladder_rows day m t (map scanned xs) ≡ climbed day m (stride t) (at16 x 2) (map scanned xs)
    unfolding ladder_rows head_price
    ladder-on e = rw (some-first xs x first, e)

  pub ladder_le : (rs : List Row) → ladder_rows day m t rs ≤ length rs
  unfolding ladder_rows
  ladder_le rs =
      let p : ℕ = head_price rs in
      let h = climbed-short day m (stride t) p rs in
      by_bool (elem p (grid_of t)) (λ e. rw e (omega arith)) (λ e. rw e (omega arith))

-- that many rows, where there are some
pub some-rows : (k n : ℕ) → Some n ≡ some_rows k → (n ≡ k) × (k ≡ 0 → ⊥)
some-rows zero n e = absurd (none-some n (sym e))
some-rows (suc k) n e = let q = same_Some n (suc k) (rw eqb-suc-zero at e) in (q, λ z. omega arith)

pub no-rows : (k : ℕ) → None ≡ some_rows k → k ≡ 0
no-rows zero e = refl
no-rows (suc k) e = absurd (none-some (suc k) (rw eqb-suc-zero at e))

pub some-rows-i : (n k : ℕ) → n ≡ k → (n ≡ 0 → ⊥) → Some n ≡ some_rows k
some-rows-i n k e h = rw (← e, ne_eqb n 0 h)

pub no-rows-i : (n k : ℕ) → n ≡ k → n ≡ 0 → None ≡ some_rows k
no-rows-i n k e z = rw (← e, z)

-- the price of a row among the rest
head-price : (xs : List (List ℕ)) (i : ℕ) → i < length xs → head_price (drop i (map scanned xs)) ≡ at16 (get_or xs i []) 2
unfolding head_price
head-price xs i h = rw (drop-map scanned i xs, next-row xs i h)

-- the months from the i-th on
module _ (day f : ℕ) (done : List (List ℕ)) (ms : List ℕ) (i : ℕ) (h : i < length ms) (xs : List (List ℕ)) (k : ℕ)
    (e : k ≡ ladder_rows day (get_or ms i 0) (tier_of f (get_or ms i 0)) (map scanned xs)) where
  pub spans_stop : k ≡ 0 → ladder_spans day f done (drop i ms) (map scanned xs) ≡ None
  unfolding ladder_spans
  spans_stop z = rw (drop-cons ms i 0 h, ← e, z)

  pub within_rest : k ≤ length xs
  within_rest = omega (arith, e, ladder_le day (get_or ms i 0) (tier_of f (get_or ms i 0)) (map scanned xs), length-map xs scanned)

  pub spans-more : (k ≡ 0 → ⊥) → ladder_spans day f done (drop i ms) (map scanned xs)
      ≡ ladder_spans day f (done ++ ((at16 (get_or xs 0 []) 2 ∷ at16 (get_or xs (k - 1) []) 2 ∷ []) ∷ [])) (drop (i + 1) ms) (map scanned (drop k xs))
  unfolding ladder_spans
  spans-more z =
      let l = within_rest in
      rw (
        drop-cons ms i 0 h,
        ← e,
        ne_eqb k 0 z,
        drop-map scanned k xs,
        head-price xs 0 (omega arith),
        head-price xs (k - 1) (omega arith),
        add-one i,
      )

-- no month is left: the spans found are all, where no row is left
pub spans_end : (day f : ℕ) (done : List (List ℕ)) (xs : List (List ℕ)) → then_some (eqb (length xs) 0) done ≡ ladder_spans day f done [] (map scanned xs)
unfolding ladder_spans
spans_end day f done [] = refl
spans_end day f done (x ∷ xs) = rw eqb-suc-zero
