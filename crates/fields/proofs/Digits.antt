-- Decimal digits of one length ascend as their numbers do.
-- Assumes nothing.
use mathlib.Core.Path.{◌≡◌, refl, sym, ◌∙◌}
use mathlib.Core.Bool.{true, false, ◌&&◌, ◌||◌}
use mathlib.Core.List.{List, [], ◌∷◌, ◌++◌}
use Prim.Native.Nat.{ℕ, zero, suc, ◌+◌, ◌/◌, ◌%◌, ◌<◌, ◌^◌}
use native.Mathlib.Omega.{arith}
use native.Mathlib.Nat.{div-lt_iff_lt-mul, pow-suc}
use lib.Dec.{ltb, eqb}
use lib.ListN.{length}
use Rattle.names.specs.Names.{digits}
use Rattle.names.proofs.DigitLaws.{digits-length}
use Rattle.fields.specs.Fields.{below}
use borrow.Author.Tests.{lt-ltb, le-ltb, eq-eqb, ne_eqb}
use Rattle.base.proofs.Tests.{by_three}
use Rattle.fields.proofs.Order.{same, below_less, below_more, below_equal, same_less, same_more}

same_equal : (x : ℕ) (xs ys : List ℕ) → same (x ∷ xs) (x ∷ ys) ≡ same xs ys
unfolding same
same_equal x xs ys = rw (below_equal x xs ys, below_equal x ys xs)

-- names in two parts: the first decides, or is the same and the second decides
abbrev Parted : List ℕ → List ℕ → List ℕ → List ℕ → Type 0
Parted xs ys us vs = (below (xs ++ us) (ys ++ vs) ≡ (below xs ys || (same xs ys && below us vs))) × (same (xs ++ us) (ys ++ vs) ≡ (same xs ys && same us vs))

parted_none : (us vs : List ℕ) → Parted [] [] us vs
unfolding same below
parted_none us vs = (refl, refl)

parted-more : (x y : ℕ) (xs ys us vs : List ℕ) → Parted xs ys us vs → Parted (x ∷ xs) (y ∷ ys) us vs
parted-more x y xs ys us vs p =
    by_three x y
    (λ l. let a = below_less x y xs ys l in
    let b = below_less x y (xs ++ us) (ys ++ vs) l in
    rw (a, b, same_less (x ∷ xs) (y ∷ ys) a, same_less (x ∷ xs ++ us) (y ∷ ys ++ vs) b) (refl, refl))
    (λ e. rw (e, below_equal y (xs ++ us) (ys ++ vs), below_equal y xs ys, same_equal y xs ys, same_equal y (xs ++ us) (ys ++ vs)) p)
    (λ l. let a = below_less y x ys xs l in
    let b = below_less y x (ys ++ vs) (xs ++ us) l in
    rw (below_more x y xs ys l, below_more x y (xs ++ us) (ys ++ vs) l, same_more (x ∷ xs) (y ∷ ys) a, same_more (x ∷ xs ++ us) (y ∷ ys ++ vs) b) (refl, refl))

pub parted : (xs ys us vs : List ℕ) → length xs ≡ length ys → Parted xs ys us vs
parted [] [] us vs e = parted_none us vs
parted [] (y ∷ ys) us vs e = absurd (omega (arith, e))
parted (x ∷ xs) [] us vs e = absurd (omega (arith, e))
parted (x ∷ xs) (y ∷ ys) us vs e = parted-more x y xs ys us vs (parted xs ys us vs (omega (arith, e)))

-- ---- digits
nothing_less : (below [] [] ≡ false) × (same [] [] ≡ true)
unfolding same below
nothing_less = (refl, refl)

pub one_byte : (a b : ℕ) → (below (a ∷ []) (b ∷ []) ≡ ltb a b) × (same (a ∷ []) (b ∷ []) ≡ eqb a b)
one_byte a b =
    by_three a b
    (λ l. let h = below_less a b [] [] l in rw (h, lt-ltb a b l, same_less (a ∷ []) (b ∷ []) h, ne_eqb a b (λ e. omega (arith, e, l))) (refl, refl))
    (λ e. rw (e, below_equal b [] [], same_equal b [] [], le-ltb b b (omega arith), eq-eqb b b refl) nothing_less)
    (λ l. let h = below_less b a [] [] l in rw (below_more a b [] [] l, le-ltb a b (omega (arith, l)), same_more (a ∷ []) (b ∷ []) h, ne_eqb a b (λ e. omega (arith, e, l))) (refl, refl))

-- the number decides by its tens, and where they are the same by its ones
abbrev Tens : ℕ → ℕ → Type 0
Tens v w = ((ltb (v / 10) (w / 10) || (eqb (v / 10) (w / 10) && ltb (48 + v % 10) (48 + w % 10))) ≡ ltb v w) × ((eqb (v / 10) (w / 10) && eqb (48 + v % 10) (48 + w % 10)) ≡ eqb v w)

tens : (v w : ℕ) → Tens v w
tens v w =
    by_three (v / 10) (w / 10)
    (λ l. rw (lt-ltb (v / 10) (w / 10) l, lt-ltb v w (omega (arith, l)), ne_eqb (v / 10) (w / 10) (λ e. omega (arith, e, l)), ne_eqb v w (λ e. omega (arith, e, l))) (refl, refl))
    (λ q. rw (le-ltb (v / 10) (w / 10) (omega (arith, q)), eq-eqb (v / 10) (w / 10) q)
    (by_three v w
    (λ l. rw (lt-ltb v w l, lt-ltb (48 + v % 10) (48 + w % 10) (omega (arith, q, l)), ne_eqb v w (λ e. omega (arith, e, l)), ne_eqb (48 + v % 10) (48 + w % 10) (λ e. omega (arith, e, q, l))) (refl, refl))
    (λ e. rw (le-ltb v w (omega (arith, e)), le-ltb (48 + v % 10) (48 + w % 10) (omega (arith, e)), eq-eqb v w e, eq-eqb (48 + v % 10) (48 + w % 10) (omega (arith, e))) (refl, refl))
    (λ l. rw (le-ltb v w (omega (arith, l)), le-ltb (48 + v % 10) (48 + w % 10) (omega (arith, q, l)), ne_eqb v w (λ e. omega (arith, e, l)), ne_eqb (48 + v % 10) (48 + w % 10) (λ e. omega (arith, e, q, l))) (refl, refl))))
    (λ l. rw (le-ltb (v / 10) (w / 10) (omega (arith, l)), le-ltb v w (omega (arith, l)), ne_eqb (v / 10) (w / 10) (λ e. omega (arith, e, l)), ne_eqb v w (λ e. omega (arith, e, l))) (refl, refl))

abbrev Ordered : ℕ → ℕ → ℕ → Type 0
Ordered n v w = (below (digits n v) (digits n w) ≡ ltb v w) × (same (digits n v) (digits n w) ≡ eqb v w)

ordered_none : (v w : ℕ) → v ≡ 0 → w ≡ 0 → Ordered 0 v w
unfolding digits
ordered_none v w a b = rw (a, b, le-ltb 0 0 (omega arith), eq-eqb 0 0 refl) nothing_less

ordered-more : (n v w : ℕ) → Ordered n (v / 10) (w / 10) → Ordered (suc n) v w
unfolding digits
ordered-more n v w i =
    let p = parted (digits n (v / 10)) (digits n (w / 10)) ((48 + v % 10) ∷ []) ((48 + w % 10) ∷ []) (digits-length n (v / 10) ∙ sym (digits-length n (w / 10))) in
    let o = one_byte (48 + v % 10) (48 + w % 10) in
    let t = tens v w in
    rw (p.0, p.1, i.0, i.1, o.0, o.1) t

pub ordered : (n v w : ℕ) → v < 10 ^ n → w < 10 ^ n → Ordered n v w
ordered zero v w h g = ordered_none v w (omega (arith, h)) (omega (arith, g))
ordered (suc n) v w h g =
    let a : v / 10 < 10 ^ n = (div-lt_iff_lt-mul {k = 10} (omega arith)).1 (rw (← pow-suc) h) in
    let b : w / 10 < 10 ^ n = (div-lt_iff_lt-mul {k = 10} (omega arith)).1 (rw (← pow-suc) g) in
    ordered-more n v w (ordered n (v / 10) (w / 10) a b)
