-- Laws of decimal digits: what is written reads back, what is read is written back.
-- Assumes nothing.
use mathlib.Core.Path.{◌≡◌, refl, ap, ◌∙◌}
use mathlib.Core.Bool.{true}
use mathlib.Core.List.{List, [], ◌∷◌, ◌++◌, append-nil}
use Prim.Native.Nat.{ℕ, zero, suc, ◌+◌, ◌-◌, ◌*◌, ◌/◌, ◌%◌, ◌^◌, ◌<◌}
use native.Mathlib.Nat.{pow-suc, div-lt_iff_lt-mul, add-zero, zero-add, add-suc, suc-add}
use native.Mathlib.Numerals.{add-one}
use native.Mathlib.Omega.{arith}
use lib.ListN.{length, get_or, length-append}
use lib.Seq.{append_snoc}
use Rattle.base.specs.Lists.{within}
use Rattle.base.proofs.ListLaws.{within_i, within_l, within_r}
use Rattle.names.specs.Names.{digits, value_from}

pub digits-length : (n v : ℕ) → length (digits n v) ≡ n
unfolding digits
digits-length zero v = refl
digits-length (suc n) v = rw (length-append, digits-length n, add-one)

-- a digit that is written is one
pub digit-within : (v : ℕ) → within 48 57 (48 + v % 10) ≡ true
digit-within v = within_i (omega arith) (omega arith)

value-more : (v b : ℕ) (bs : List ℕ) → value_from v (bs ++ (b ∷ [])) ≡ 10 * value_from v bs + (b - 48)
unfolding value_from
value-more v b [] = refl
value-more v b (x ∷ bs) = value-more (10 * v + (x - 48)) b bs

pub value-digits : (n v : ℕ) → v < 10 ^ n → value_from 0 (digits n v) ≡ v
unfolding digits value_from
value-digits zero v h = omega arith
value-digits (suc n) v h =
    let l : v / 10 < 10 ^ n = (div-lt_iff_lt-mul {k = 10} (omega arith)).1 (rw (← pow-suc) h) in
    let e : value_from 0 (digits n (v / 10)) ≡ v / 10 = value-digits n (v / 10) l in
    value-more 0 (48 + v % 10) (digits n (v / 10)) ∙ omega arith

digits_more : (n v b : ℕ) → within 48 57 b ≡ true → digits (suc n) (10 * v + (b - 48)) ≡ digits n v ++ (b ∷ [])
unfolding digits
digits_more n v b h =
    let lo = within_l 48 57 b h in
    let hi = within_r 48 57 b h in
    let front : (10 * v + (b - 48)) / 10 ≡ v = omega arith in
    let last : 48 + (10 * v + (b - 48)) % 10 ≡ b = omega arith in
    rw (front, last)

digits_from :
    (bs : List ℕ) (n v : ℕ) →
    ((i : ℕ) → i < length bs → within 48 57 (get_or bs i 0) ≡ true) →
    digits (length bs + n) (value_from v bs) ≡ digits n v ++ bs
unfolding value_from
digits_from [] n v h = rw (zero-add, append-nil)
digits_from (b ∷ bs) n v h =
    rw (suc-add, ← add-suc)
    (digits_from bs (suc n) (10 * v + (b - 48)) (λ i l. h (suc i) (omega arith))
    ∙ ap (λ (front : List ℕ). front ++ bs) (digits_more n v b (h 0 (omega arith)))
    ∙ append_snoc (digits n v) b bs)

pub digits_value :
    (n : ℕ) (bs : List ℕ) →
    length bs ≡ n →
    ((i : ℕ) → i < n → within 48 57 (get_or bs i 0) ≡ true) →
    digits n (value_from 0 bs) ≡ bs
unfolding digits
digits_value n bs e h = rw (← e, ← add-zero (length bs)) (digits_from bs 0 0 (rw (← e) at h))
