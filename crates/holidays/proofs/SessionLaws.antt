-- A day that is given a session has it, one whose session is taken away has none, and every other day keeps what it had.
-- Assumes nothing.
use mathlib.Core.Path.{◌≡◌, refl, sym, ap, ◌∙◌}
use mathlib.Core.Bool.{Bool, true, false, cond, not, ◌&&◌, ◌||◌}
use mathlib.Core.List.{List}
use Prim.Native.Nat.{ℕ, zero, suc, ◌+◌, ◌-◌, ◌*◌, ◌/◌, ◌%◌, ◌^◌, ◌≤◌, ◌<◌, max, min}
use native.Mathlib.Nat.{zero-div}
use native.Mathlib.Omega.{arith}
use lib.Bits.{bit_and, bit_or, and_step, or_step}
use lib.Dec.{T, eqb, ltb, eqb→eq}
use lib.ListN.{length, get_or, replicate}
use lib.Pow.{shr-shr}
use lib.Seq.{get_or-set_same, get_or-set_other}
use borrow.Author.Tests.{eq-eqb, ne_eqb, eqb-true, eqb-false, lt-ltb, le-ltb}
use Rattle.base.proofs.Tests.{by_bool, by_le, and_no}
use Rattle.base.proofs.Table.{both, both_left, both_right, at}
use Rattle.calendar.specs.Calendar.{session}
use Rattle.holidays.specs.Sessions.{weekday, with_session, without_session}

-- ---- bits of the operations
half : (n j : ℕ) → n / 2 ^ suc j ≡ n / 2 / 2 ^ j
half n j = let e : 1 + j ≡ suc j = omega arith in sym (shr-shr n 1 j ∙ ap (λ (x : ℕ). n / 2 ^ x) e)

or_bit : (j a b : ℕ) → bit_or a b / 2 ^ j % 2 ≡ max (a / 2 ^ j % 2) (b / 2 ^ j % 2)
or_bit zero a b = omega (arith, or_step a b)
or_bit (suc j) a b =
    let e : bit_or a b / 2 ≡ bit_or (a / 2) (b / 2) = omega (arith, or_step a b) in
    rw (half (bit_or a b) j, half a j, half b j, e) (or_bit j (a / 2) (b / 2))

and_bit : (j a b : ℕ) → bit_and a b / 2 ^ j % 2 ≡ min (a / 2 ^ j % 2) (b / 2 ^ j % 2)
and_bit zero a b = omega (arith, and_step a b)
and_bit (suc j) a b =
    let e : bit_and a b / 2 ≡ bit_and (a / 2) (b / 2) = omega (arith, and_step a b) in
    rw (half (bit_and a b) j, half a j, half b j, e) (and_bit j (a / 2) (b / 2))

-- ---- bit j of the weight 2 ^ k and of what is left of 255 without it, for all 64 pairs at once
abbrev weight_right : ℕ → ℕ → Bool
weight_right k j = eqb (2 ^ k / 2 ^ j % 2) (cond (eqb j k) 1 0)

abbrev mask_right : ℕ → ℕ → Bool
mask_right k j = eqb ((255 - 2 ^ k) / 2 ^ j % 2) (cond (eqb j k) 0 1)

abbrev right : ℕ → ℕ → Bool
right i x = both (weight_right (i / 8) (i % 8)) (mask_right (i / 8) (i % 8))

module _ (k j : ℕ) (kl : k < 8) (jl : j < 8) where
  pair : T (right (8 * k + j) 0)
  pair = at right (replicate 64 0) tt (8 * k + j) (omega arith)

  place : (P : ℕ → ℕ → Type 0) → P ((8 * k + j) / 8) ((8 * k + j) % 8) → P k j
  place P h = let r : (8 * k + j) / 8 ≡ k = omega arith in let c : (8 * k + j) % 8 ≡ j = omega arith in rw (r, c) at h

  weight_bit : 2 ^ k / 2 ^ j % 2 ≡ cond (eqb j k) 1 0
  weight_bit =
      let i : ℕ = 8 * k + j in
      eqb→eq _ _ (place (λ (a b : ℕ). T (weight_right a b)) (both_left (weight_right (i / 8) (i % 8)) (mask_right (i / 8) (i % 8)) pair))

  mask_bit : (255 - 2 ^ k) / 2 ^ j % 2 ≡ cond (eqb j k) 0 1
  mask_bit =
      let i : ℕ = 8 * k + j in
      eqb→eq _ _ (place (λ (a b : ℕ). T (mask_right a b)) (both_right (weight_right (i / 8) (i % 8)) _ pair))

-- ---- a bit set or cleared, as a test
set_test : (e : Bool) (x : ℕ) → x < 2 → eqb (max x (cond e 1 0)) 1 ≡ (e || eqb x 1)
set_test true x h = eq-eqb (max x 1) 1 (omega arith)
set_test false x h = let m : max x 0 ≡ x = omega arith in ap (λ (y : ℕ). eqb y 1) m

clear_test : (e : Bool) (x : ℕ) → x < 2 → eqb (min x (cond e 0 1)) 1 ≡ (not e && eqb x 1)
clear_test true x h = ne_eqb (min x 0) 1 (λ z. omega arith)
clear_test false x h = let m : min x 1 ≡ x = omega arith in ap (λ (y : ℕ). eqb y 1) m

-- ---- days
module _ (cal : List ℕ) (day n : ℕ) (inside : day / 8 < length cal) where
  -- two days of one byte are the same where their bits are
  same-day : n / 8 ≡ day / 8 → eqb (n % 8) (day % 8) ≡ eqb n day
  same-day e =
      by_bool (eqb n day) (λ t. eq-eqb _ _ (ap (λ (x : ℕ). x % 8) (eqb-true n day t)) ∙ sym t)
      (λ f. ne_eqb _ _ (λ (z : n % 8 ≡ day % 8). let d : n ≡ day = omega arith in eqb-false n day f d) ∙ sym f)

  other-day : (n / 8 ≡ day / 8 → ⊥) → eqb n day ≡ false
  other-day h = ne_eqb n day (λ e. h (ap (λ (x : ℕ). x / 8) e))

  pub set-session : session (with_session cal day) n ≡ (eqb n day || session cal n)
  unfolding session with_session
  set-session = by_bool (eqb (n / 8) (day / 8)) (λ t. here (eqb-true _ _ t)) (λ f. there (eqb-false _ _ f))
    where
      b : ℕ
      b = get_or cal (day / 8) 0

      here : n / 8 ≡ day / 8 → session (with_session cal day) n ≡ (eqb n day || session cal n)
      here e =
          let byte = get_or-set_same cal (day / 8) (bit_or b (2 ^ (day % 8))) 0 inside in
          let bit = weight_bit (day % 8) (n % 8) (omega arith) (omega arith) in
          rw (e, byte, or_bit (n % 8) b (2 ^ (day % 8)), bit, same-day e)
          (set_test (eqb n day) (b / 2 ^ (n % 8) % 2) (omega arith))

      there : (n / 8 ≡ day / 8 → ⊥) → session (with_session cal day) n ≡ (eqb n day || session cal n)
      there h = rw (get_or-set_other cal (day / 8) (n / 8) (bit_or (get_or cal (day / 8) 0) (2 ^ (day % 8))) 0 h, other-day h)

  pub unset-session : session (without_session cal day) n ≡ (not (eqb n day) && session cal n)
  unfolding session without_session
  unset-session = by_bool (eqb (n / 8) (day / 8)) (λ t. here (eqb-true _ _ t)) (λ f. there (eqb-false _ _ f))
    where
      b : ℕ
      b = get_or cal (day / 8) 0

      here : n / 8 ≡ day / 8 → session (without_session cal day) n ≡ (not (eqb n day) && session cal n)
      here e =
          let byte = get_or-set_same cal (day / 8) (bit_and b (255 - 2 ^ (day % 8))) 0 inside in
          let bit = mask_bit (day % 8) (n % 8) (omega arith) (omega arith) in
          rw (e, byte, and_bit (n % 8) b (255 - 2 ^ (day % 8)), bit, same-day e)
          (clear_test (eqb n day) (b / 2 ^ (n % 8) % 2) (omega arith))

      there : (n / 8 ≡ day / 8 → ⊥) → session (without_session cal day) n ≡ (not (eqb n day) && session cal n)
      there h = rw (get_or-set_other cal (day / 8) (n / 8) (bit_and (get_or cal (day / 8) 0) (255 - 2 ^ (day % 8))) 0 h, other-day h)

-- ---- the weekdays given their sessions one after the other
pub none_yet : (k n : ℕ) → session (replicate k 0) n ≡ (ltb n 0 && weekday n)
unfolding session
none_yet k n = let z : ltb n 0 ≡ false = le-ltb n 0 (omega arith) in rw (zeros k (n / 8), zero-div (2 ^ (n % 8)), z)
  where
    zeros : (k i : ℕ) → ◌≡◌ {A = ℕ} (get_or (replicate k 0) i 0) 0
    zeros zero i = refl
    zeros (suc k) zero = refl
    zeros (suc k) (suc i) = zeros k i

module _ (w : ℕ → Bool) (n day : ℕ) where
  past : (n ≡ day → ⊥) → ltb n day ≡ ltb n (day + 1)
  past h =
      by_le day n (λ l. let m : day + 1 ≤ n = by_le (day + 1) n (λ u. u) (λ v. absurd (h (omega arith))) in le-ltb n day l ∙ sym (le-ltb n (day + 1) m))
      (λ l. lt-ltb n day l ∙ sym (lt-ltb n (day + 1) (omega arith)))

  pub stayed : w day ≡ false → (ltb n day && w n) ≡ (ltb n (day + 1) && w n)
  stayed f = by_bool (eqb n day) today (λ e. ap (λ (x : Bool). x && w n) (past (eqb-false n day e)))
    where
      today : eqb n day ≡ true → (ltb n day && w n) ≡ (ltb n (day + 1) && w n)
      today e =
          let d : w n ≡ false = ap w (eqb-true n day e) ∙ f in
          and_no (ltb n day) (w n) d ∙ sym (and_no (ltb n (day + 1)) (w n) d)

  pub grown : w day ≡ true → (eqb n day || (ltb n day && w n)) ≡ (ltb n (day + 1) && w n)
  grown t = by_bool (eqb n day) today later
    where
      today : eqb n day ≡ true → (eqb n day || (ltb n day && w n)) ≡ (ltb n (day + 1) && w n)
      today e =
          let d : n ≡ day = eqb-true n day e in
          let l : ltb n (day + 1) ≡ true = lt-ltb n (day + 1) (omega arith) in
          rw (e, l) (sym (ap w d ∙ t))

      later : eqb n day ≡ false → (eqb n day || (ltb n day && w n)) ≡ (ltb n (day + 1) && w n)
      later f = rw f (ap (λ (x : Bool). x && w n) (past (eqb-false n day f)))
