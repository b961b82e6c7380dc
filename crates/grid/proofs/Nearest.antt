-- The nearest price of a grid: what the definition's scan finds, and that a close between two middles has the number between.
-- Assumes nothing.
use mathlib.Core.Path.{◌≡◌, sym, ◌∙◌}
use mathlib.Core.Bool.{true, false, or_assoc, or_comm, false≢true}
use mathlib.Core.List.{List, [], ◌∷◌}
use Prim.Native.Nat.{ℕ, zero, suc, ◌+◌, ◌-◌, ◌*◌, ◌/◌, ◌%◌, ◌≤◌, ◌<◌}
use native.Mathlib.Nat.{div-add-mod, mod-lt, le_refl, mul-add}
use native.Mathlib.Omega.{arith}
use lib.Dec.{eqb}
use borrow.Author.Tests.{eqb-true, le-leb, lt-leb}
use Rattle.base.specs.Lists.{elem}
use Rattle.base.specs.declared.Tier.{Tier}
use Rattle.base.proofs.Tests.{by_le, or_e}
use Rattle.base.proofs.ListLaws.{elem-here, elem_there}
use Rattle.grid.specs.Grid.{grid_of, distance, nearest_from, nearest, lowest_close, highest_close}
use Rattle.grid.specs.Numbers.{price, stride, top_number, OnGrid, Rounded, NearestNumber}
use Rattle.grid.proofs.Prices.{line, price_line, price_mono, price_strict}
use Rattle.grid.proofs.Grids.{prices_from, grid_numbers, by-stride, stride_pos, on-number, number-on}

-- q is the nearest of the prices to a close: one of them, none nearer, and of those as near the highest
pub record Nearest (close : ℕ) (ps : List ℕ) (q : ℕ) : Type 0 where
  pub on : elem q ps ≡ true
  pub least : (p : ℕ) → elem p ps ≡ true → distance close q ≤ distance close p
  pub higher : (p : ℕ) → elem p ps ≡ true → distance close p ≡ distance close q → p ≤ q

-- only one price is
pub nearest_only : (close : ℕ) (ps : List ℕ) (q r : ℕ) → Nearest close ps q → Nearest close ps r → q ≡ r
nearest_only close ps q r a b =
    let up = a.least r b.on in
    let down = b.least q a.on in
    let e : distance close q ≡ distance close r = omega arith in
    omega (arith, a.higher r b.on (sym e), b.higher q a.on e)

-- ---- the scan finds it
module _ (close : ℕ) where
  alone : (q : ℕ) → Nearest close (q ∷ []) q
  unfolding elem
  alone q = record {
    on = elem-here q [];
    least = λ p e. or_e (eqb p q) false e (λ t. rw (eqb-true p q t) (le_refl (distance close q))) (λ t. absurd (false≢true t));
    higher = λ p e d. or_e (eqb p q) false e (λ t. rw (eqb-true p q t) (le_refl q)) (λ t. absurd (false≢true t));
  }

  -- one price more, in front: no nearer, and not higher where it is as near
  wider : (p q : ℕ) (ps : List ℕ) → distance close q ≤ distance close p → (distance close p ≡ distance close q → p ≤ q)
      → Nearest close ps q → Nearest close (p ∷ ps) q
  unfolding elem
  wider p q ps l h n = record {
    on = elem_there q p ps n.on;
    least = λ x e. or_e (eqb x p) (elem x ps) e (λ t. rw (eqb-true x p t) l) (λ t. n.least x t);
    higher = λ x e. or_e (eqb x p) (elem x ps) e (λ t. rw (eqb-true x p t) h) (λ t. n.higher x t);
  }

  -- the order does not matter
  swapped : (p q r : ℕ) (ps : List ℕ) → Nearest close (p ∷ q ∷ ps) r → Nearest close (q ∷ p ∷ ps) r
  unfolding elem
  swapped p q r ps n = record {
    on = rw (swap r) n.on;
    least = λ x e. n.least x (rw (sym (swap x)) e);
    higher = λ x e. n.higher x (rw (sym (swap x)) e);
  }
    where
      swap : (x : ℕ) → elem x (q ∷ p ∷ ps) ≡ elem x (p ∷ q ∷ ps)
      swap x = sym (or_assoc (eqb x q) (eqb x p) (elem x ps)) ∙ rw (or_comm (eqb x q) (eqb x p)) (or_assoc (eqb x p) (eqb x q) (elem x ps))

  scan : (q s j n : ℕ) → 1 ≤ s → q < price j → Nearest close (q ∷ prices_from s j n) (nearest_from close q (prices_from s j n))
  unfolding nearest_from prices_from
  scan q s j zero h l = alone q
  scan q s j (suc n) h l =
      let p : ℕ = price j in
      let rest : List ℕ = prices_from s (j + s) n in
      let up : p < price (j + s) = price_strict j (j + s) (omega arith) in
      by_le (distance close p) (distance close q)
      (λ d.
      let f = scan p s (j + s) n h up in
      let m = f.least p (elem-here p rest) in
      rw le-leb (wider q (nearest_from close p rest) (p ∷ rest) (omega arith) (λ e. omega (arith, f.higher p (elem-here p rest) (omega arith))) f))
      (λ d.
      let f = scan q s (j + s) n h (omega arith) in
      let m = f.least q (elem-here q rest) in
      rw lt-leb (swapped p q (nearest_from close q rest) rest (wider p (nearest_from close q rest) (q ∷ rest) (omega arith) (λ e. omega arith) f)))

  first : (s j n : ℕ) → 1 ≤ s → 0 < n → Nearest close (prices_from s j n) (nearest close (prices_from s j n))
  unfolding nearest prices_from
  first s j zero h l = absurd (omega arith)
  first s j (suc n) h l = scan (price j) s (j + s) n h (price_strict j (j + s) (omega arith))

pub nearest_is : (t : Tier) (close : ℕ) → Nearest close (grid_of t) (nearest close (grid_of t))
nearest_is t close =
    rw (grid_numbers t) (first close (stride t) (stride t) (top_number / stride t) (stride_pos t)
    (by-stride (λ s. 0 < top_number / s) (omega arith) (omega arith) (omega arith) t))

-- ---- the number between whose middles a close lies
spaced : (t : Tier) (i j : ℕ) → OnGrid t i → OnGrid t j → i < j → i + stride t ≤ j
spaced t i j a b h =
    by-stride (λ s. i % s ≡ 0 → j % s ≡ 0 → i + s ≤ j)
    (λ a b. omega arith) (λ a b. omega arith) (λ a b. omega arith) t a.multiple b.multiple

module _ (t : Tier) (close j : ℕ) (o : OnGrid t j)
    (below : 100 * (price (j - stride t) + price j) ≤ 2 * close)
    (above : 2 * close < 100 * (price j + price (j + stride t))) where
  against : (i : ℕ) → OnGrid t i
      → (distance close (price j) ≤ distance close (price i)) × (distance close (price i) ≡ distance close (price j) → price i ≤ price j)
  unfolding distance
  against i a =
      by_le i j
      (λ h. let m = price_mono i j h in
      by_le j i
      (λ k. let e : i ≡ j = omega arith in rw e (le_refl _, λ d. le_refl _))
      (λ k.
      let g = spaced t i j a o k in
      let l = price_mono i (j - stride t) (omega arith) in
      (omega arith, λ d. m)))
      (λ h.
      let g = spaced t j i o a h in
      let l = price_mono (j + stride t) i g in
      let m = price_strict j i h in
      (omega arith, λ d. absurd (omega arith)))

  between : price j ≡ nearest close (grid_of t)
  between =
      nearest_only close (grid_of t) (price j) (nearest close (grid_of t))
      (record {
        on = number-on t j o;
        least = λ p e. let k = on-number t p e in rw (← k.2) (against k.0 k.1).0;
        higher = λ p e. let k = on-number t p e in rw (← k.2) (against k.0 k.1).1;
      })
      (nearest_is t close)

-- ---- the code's number: whole steps from the beginning of the close's band
round_down : (height step : ℕ) → 2 * (height % step) < step → Rounded height step (height / step)
round_down height step h =
    let e = div-add-mod height step in
    record { reached = omega arith; short = omega arith }

round_up : (height step : ℕ) → 1 ≤ step → step ≤ 2 * (height % step) → Rounded height step (height / step + 1)
round_up height step p h =
    let e = div-add-mod height step in
    let l = mod-lt height p in
    let m = mul-add step (height / step) 1 in
    record { reached = omega arith; short = omega arith }

-- number j has room for 16 numbers each way, and the close lies from the middle below it up to, not including, the middle above it
abbrev Enclosed : ℕ → ℕ → ℕ → Type 0
Enclosed close j s =
    (j % s ≡ 0) × (16 + s ≤ j) × (j ≤ 490) × (100 * (line (j - s) + line j) ≤ 2 * close) × (2 * close < 100 * (line j + line (j + s)))

enclosed : (t : Tier) (close j : ℕ) → Enclosed close j (stride t) → NearestNumber t close j
enclosed t close j e =
    let s : ℕ = stride t in
    let o : OnGrid t j = record { from = omega (arith, e.1, stride_pos t); to = omega (arith, e.2); multiple = e.0 } in
    record {
      on = o;
      nearest_is = between t close j o (rw (price_line (j - s), price_line j) e.3) (rw (price_line j, price_line (j + s)) e.4);
      room-below = e.1;
      room_above = e.2;
    }

module _ (t : Tier) (close n : ℕ) where
  pub nearest-low : lowest_close ≤ close → close < 48000 → Rounded close (500 * stride t) n → NearestNumber t close (stride t * n)
  nearest-low a b r =
      enclosed t close (stride t * n)
      (by-stride (λ s. Rounded close (500 * s) n → Enclosed close (s * n) s)
      (λ r. omega arith) (λ r. omega arith) (λ r. omega arith) t r)

  pub nearest_mid : 48000 ≤ close → close < 100000 → Rounded (close - 48000) (1000 * stride t) n → NearestNumber t close (96 + stride t * n)
  nearest_mid a b r =
      enclosed t close (96 + stride t * n)
      (by-stride (λ s. Rounded (close - 48000) (1000 * s) n → Enclosed close (96 + s * n) s)
      (λ r. omega arith) (λ r. omega arith) (λ r. omega arith) t r)

  pub nearest-high : 100000 ≤ close → close ≤ highest_close → Rounded (close - 100000) (2500 * stride t) n → NearestNumber t close (148 + stride t * n)
  nearest-high a b r =
      enclosed t close (148 + stride t * n)
      (by-stride (λ s. Rounded (close - 100000) (2500 * s) n → Enclosed close (148 + s * n) s)
      (λ r. omega arith) (λ r. omega arith) (λ r. omega arith) t r)

-- every close that is taken has such a number
rounding : (height step : ℕ) → 1 ≤ step → (n : ℕ) × Rounded height step n
rounding height step p =
    by_le step (2 * (height % step))
    (λ h. (height / step + 1, round_up height step p h))
    (λ h. (height / step, round_down height step h))

pub close-number : (t : Tier) (close : ℕ) → lowest_close ≤ close → close ≤ highest_close → (j : ℕ) × NearestNumber t close j
close-number t close a b =
    let s : ℕ = stride t in
    let p = stride_pos t in
    by_le 48000 close
    (λ h. by_le 100000 close
    (λ k. let r = rounding (close - 100000) (2500 * s) (omega arith) in (148 + s * r.0, nearest-high t close r.0 k b r.1))
    (λ k. let r = rounding (close - 48000) (1000 * s) (omega arith) in (96 + s * r.0, nearest_mid t close r.0 h k r.1)))
    (λ h. let r = rounding close (500 * s) (omega arith) in (s * r.0, nearest-low t close r.0 a h r.1))
