-- The calendar's bytes taken as one number: days in a row have a session exactly where that stretch of its bits is not zero.
-- Assumes nothing.
use mathlib.Core.Path.{◌≡◌, sym, ap, ◌∙◌}
use mathlib.Core.Bool.{Bool, true, false}
use mathlib.Core.List.{List}
use Prim.Native.Nat.{ℕ, zero, suc, ◌+◌, ◌-◌, ◌*◌, ◌/◌, ◌%◌, ◌^◌, ◌≤◌, ◌<◌}
use native.Mathlib.Nat.{add-zero, pow-succ', add-mul-div_left, mul_assoc}
use native.Mathlib.Numerals.{add-one}
use native.Mathlib.Omega.{arith}
use lib.Dec.{eqb, ltb}
use lib.ListN.{get_or}
use lib.Pow.{pow_pos, pow-add, shr-shr, mod-pow-add}
use borrow.Author.Tests.{lt-ltb, le-ltb, eqb-true, eqb-false}
use Rattle.base.specs.Search.{first_in, some_in}
use Rattle.base.proofs.Tests.{by_bool, by_le}
use Rattle.base.proofs.SearchLaws.{first-low, first_hit, first_miss}
use Rattle.calendar.specs.Calendar.{session}

-- a stretch of l + 1 bits is its lowest bit and twice the rest
stretch : (v s l : ℕ) → v / 2 ^ s % 2 ^ suc l ≡ (v / 2 ^ (s + 1) % 2 ^ l) * 2 + v / 2 ^ s % 2
stretch v s l = rw (← add-one l, mod-pow-add, shr-shr v s 1)

-- a test that holds at a + j exactly where bit s + j of v is set holds somewhere from a on, for l steps, exactly where these l bits are not zero
some_bit : (p : ℕ → Bool) (v l a s : ℕ) → ((j : ℕ) → j < l → p (a + j) ≡ eqb (v / 2 ^ (s + j) % 2) 1) → some_in p a (a + l) ≡ ltb 0 (v / 2 ^ s % 2 ^ l)
some_bit p v zero a s h =
    le-ltb (first_in p a (a + 0)) (a + 0) (omega (arith, first-low p a (a + 0))) ∙ sym (le-ltb 0 (v / 2 ^ s % 1) (omega arith))
some_bit p v (suc l) a s h =
    by_bool (p a) here
    (later (some_bit p v l (a + 1) (s + 1) (λ j u. let i : a + 1 + j ≡ a + suc j = omega arith in let o : s + 1 + j ≡ s + suc j = omega arith in rw (i, o) (h (suc j) (omega arith)))))
  where
    low : p a ≡ eqb (v / 2 ^ s % 2) 1
    low = simp add-zero at (h 0 (omega arith))

    here : p a ≡ true → some_in p a (a + suc l) ≡ ltb 0 (v / 2 ^ s % 2 ^ suc l)
    here t =
        let one = eqb-true (v / 2 ^ s % 2) 1 (sym low ∙ t) in
        lt-ltb (first_in p a (a + suc l)) (a + suc l) (omega (arith, first_hit p a (a + suc l) (omega arith) t))
        ∙ sym (lt-ltb 0 (v / 2 ^ s % 2 ^ suc l) (omega (arith, stretch v s l)))

    later : some_in p (a + 1) (a + 1 + l) ≡ ltb 0 (v / 2 ^ (s + 1) % 2 ^ l) → p a ≡ false → some_in p a (a + suc l) ≡ ltb 0 (v / 2 ^ s % 2 ^ suc l)
    later rest t =
        let x : ℕ = v / 2 ^ (s + 1) % 2 ^ l in
        let y : ℕ = v / 2 ^ s % 2 ^ suc l in
        let e = stretch v s l in
        let zero_bit = eqb-false (v / 2 ^ s % 2) 1 (sym low ∙ t) in
        let k : a + suc l ≡ a + 1 + l = omega arith in
        rw (first_miss p a (a + suc l) (omega arith) t, k, rest)
        (by_le x 0 (λ z. le-ltb 0 x z ∙ sym (le-ltb 0 y (omega arith))) (λ z. lt-ltb 0 x z ∙ sym (lt-ltb 0 y (omega arith))))

-- bit i of b + 256 * r is that of b where i is below 8, else bit i - 8 of r
bit-low : (b r i : ℕ) → i < 8 → (b + 256 * r) / 2 ^ i % 2 ≡ b / 2 ^ i % 2
bit-low b r i h =
    let j : ℕ = 7 - i in
    let x : ℕ = 2 ^ j * r in
    let e : i + suc j ≡ 8 = omega arith in
    let w : 256 ≡ 2 ^ i * (2 * 2 ^ j) = ap (λ (n : ℕ). 2 ^ n) (sym e) ∙ pow-add 2 i (suc j) ∙ ap (λ (n : ℕ). 2 ^ i * n) (pow-succ' 2 j) in
    let q : 256 * r ≡ 2 ^ i * (2 * x) = ap (λ (n : ℕ). n * r) w ∙ mul_assoc (2 ^ i) (2 * 2 ^ j) r ∙ ap (λ (n : ℕ). 2 ^ i * n) (mul_assoc 2 (2 ^ j) r) in
    let d : (b + 256 * r) / 2 ^ i ≡ b / 2 ^ i + 2 * x = ap (λ (n : ℕ). (b + n) / 2 ^ i) q ∙ add-mul-div_left b (2 * x) (pow_pos i) in
    rw d (omega arith)

bit_high : (b r i : ℕ) → b < 256 → 8 ≤ i → (b + 256 * r) / 2 ^ i ≡ r / 2 ^ (i - 8)
bit_high b r i u h =
    let e : i ≡ 8 + (i - 8) = omega arith in
    let q : (b + 256 * r) / 256 ≡ r = omega arith in
    ap (λ (n : ℕ). (b + 256 * r) / 2 ^ n) e ∙ sym (shr-shr (b + 256 * r) 8 (i - 8)) ∙ ap (λ (n : ℕ). n / 2 ^ (i - 8)) q

-- n bytes from byte k on as one number, low byte first
unfoldable pub word : List ℕ → ℕ → ℕ → ℕ
word cal k zero = 0
word cal k (suc n) = get_or cal k 0 + 256 * word cal (k + 1) n

module _ (cal : List ℕ) (bytes : (i : ℕ) → get_or cal i 0 < 256) where
  bit-session : (n k i : ℕ) → i < 8 * n → session cal (8 * k + i) ≡ eqb (word cal k n / 2 ^ i % 2) 1
  unfolding session word
  bit-session zero k i h = absurd (omega arith)
  bit-session (suc n) k i h = by_le 8 i (λ l. beyond l (bit-session n (k + 1) (i - 8) (omega arith))) within
    where
      within : i < 8 → session cal (8 * k + i) ≡ eqb (word cal k (suc n) / 2 ^ i % 2) 1
      within l =
          let d : (8 * k + i) / 8 ≡ k = omega arith in
          let m : (8 * k + i) % 8 ≡ i = omega arith in
          rw (d, m, bit-low (get_or cal k 0) (word cal (k + 1) n) i l)

      beyond : 8 ≤ i → session cal (8 * (k + 1) + (i - 8)) ≡ eqb (word cal (k + 1) n / 2 ^ (i - 8) % 2) 1 → session cal (8 * k + i) ≡ eqb (word cal k (suc n) / 2 ^ i % 2) 1
      beyond l rest =
          let e : 8 * k + i ≡ 8 * (k + 1) + (i - 8) = omega arith in
          rw (e, bit_high (get_or cal k 0) (word cal (k + 1) n) i (bytes k) l) rest

  -- the l days from bit s of byte k on, which lie in the n bytes from there
  pub word_sessions : (n k s l : ℕ) → s + l ≤ 8 * n → some_in (session cal) (8 * k + s) (8 * k + s + l) ≡ ltb 0 (word cal k n / 2 ^ s % 2 ^ l)
  word_sessions n k s l h =
      some_bit (session cal) (word cal k n) l (8 * k + s) s
      (λ j u. let e : 8 * k + s + j ≡ 8 * k + (s + j) = omega arith in rw e (bit-session n k (s + j) (omega arith)))
