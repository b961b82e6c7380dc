-- Names by byte value: a strict order in which any two are comparable.
-- Assumes nothing.
use mathlib.Core.Path.{◌≡◌, refl, sym, ap, ◌∙◌}
use mathlib.Core.Bool.{Bool, true, false, not, ◌&&◌}
use mathlib.Core.List.{List, [], ◌∷◌}
use Prim.Native.Nat.{ℕ, ◌<◌}
use native.Mathlib.Omega.{arith}
use borrow.Author.Tests.{lt-ltb, le-ltb, eq-eqb, ne_eqb}
use Rattle.base.proofs.Tests.{by_bool, by_three, clash, and_l, and_r, and_i}
use Rattle.fields.specs.Fields.{Field, name_in, below, rising}

-- one byte decides, or is the same and the rest decides
pub below_less : (x y : ℕ) (xs ys : List ℕ) → x < y → below (x ∷ xs) (y ∷ ys) ≡ true
unfolding below
below_less x y xs ys h = rw (lt-ltb x y h)

pub below_more : (x y : ℕ) (xs ys : List ℕ) → y < x → below (x ∷ xs) (y ∷ ys) ≡ false
unfolding below
below_more x y xs ys h = rw (le-ltb x y (omega (arith, h)), ne_eqb x y (λ e. omega (arith, e, h)))

pub below_equal : (x : ℕ) (xs ys : List ℕ) → below (x ∷ xs) (x ∷ ys) ≡ below xs ys
unfolding below
below_equal x xs ys = rw (le-ltb x x (omega arith), eq-eqb x x refl)

pub asym : (xs ys : List ℕ) → below xs ys ≡ true → below ys xs ≡ false
unfolding below
asym xs [] h = clash false h refl
asym [] (y ∷ ys) h = refl
asym (x ∷ xs) (y ∷ ys) h =
    by_three x y
    (λ l. below_more y x ys xs l)
    (λ e. rw e (below_equal y ys xs ∙ asym xs ys (sym (below_equal y xs ys) ∙ rw e at h)))
    (λ l. clash (below (x ∷ xs) (y ∷ ys)) h (below_more x y xs ys l))

none_below : (xs : List ℕ) → below xs [] ≡ false
unfolding below
none_below [] = refl
none_below (x ∷ xs) = refl

below_some : (y : ℕ) (ys : List ℕ) → below [] (y ∷ ys) ≡ true
unfolding below
below_some y ys = refl

pub trans : (xs ys zs : List ℕ) → below xs ys ≡ true → below ys zs ≡ true → below xs zs ≡ true
trans xs [] zs h g = clash (below xs []) h (none_below xs)
trans xs (y ∷ ys) [] h g = clash (below (y ∷ ys) []) g (none_below (y ∷ ys))
trans [] (y ∷ ys) (z ∷ zs) h g = below_some z zs
trans (x ∷ xs) (y ∷ ys) (z ∷ zs) h g =
    by_three x y
    (λ l. by_three y z
    (λ m. below_less x z xs zs (omega (arith, l, m)))
    (λ e. below_less x z xs zs (omega (arith, l, e)))
    (λ m. clash (below (y ∷ ys) (z ∷ zs)) g (below_more y z ys zs m)))
    (λ d. by_three y z
    (λ m. below_less x z xs zs (omega (arith, d, m)))
    (λ e. rw (d, e) (below_equal z xs zs ∙ trans xs ys zs (sym (below_equal z xs ys) ∙ rw (d, e) at h) (sym (below_equal z ys zs) ∙ rw e at g)))
    (λ m. clash (below (y ∷ ys) (z ∷ zs)) g (below_more y z ys zs m)))
    (λ l. clash (below (x ∷ xs) (y ∷ ys)) h (below_more x y xs ys l))

pub level : (xs ys : List ℕ) → below xs ys ≡ false → below ys xs ≡ false → xs ≡ ys
level [] [] h g = refl
level [] (y ∷ ys) h g = clash (below [] (y ∷ ys)) (below_some y ys) h
level (x ∷ xs) [] h g = clash (below [] (x ∷ xs)) (below_some x xs) g
level (x ∷ xs) (y ∷ ys) h g =
    by_three x y
    (λ l. clash (below (x ∷ xs) (y ∷ ys)) (below_less x y xs ys l) h)
    (λ e. rw e (ap (λ (r : List ℕ). y ∷ r) (level xs ys (sym (below_equal y xs ys) ∙ rw e at h) (sym (below_equal y ys xs) ∙ rw e at g))))
    (λ l. clash (below (y ∷ ys) (x ∷ xs)) (below_less y x ys xs l) g)

pub irrefl : (xs : List ℕ) → below xs xs ≡ false
irrefl xs = by_bool (below xs xs) (λ e. asym xs xs e) (λ e. e)

-- ---- the same name: neither is below the other
unfoldable pub same : List ℕ → List ℕ → Bool
same xs ys = not (below xs ys) && not (below ys xs)

pub same_self : (xs : List ℕ) → same xs xs ≡ true
unfolding same
same_self xs = rw (irrefl xs)

pub same_is : (xs ys : List ℕ) → same xs ys ≡ true → xs ≡ ys
unfolding same
same_is xs ys e =
    by_bool (below xs ys)
    (λ a. clash false (rw a at e) refl)
    (λ a. by_bool (below ys xs) (λ b. clash false (rw (a, b) at e) refl) (λ b. level xs ys a b))

pub same_less : (xs ys : List ℕ) → below xs ys ≡ true → same xs ys ≡ false
unfolding same
same_less xs ys h = rw h

pub same_more : (xs ys : List ℕ) → below ys xs ≡ true → same xs ys ≡ false
unfolding same
same_more xs ys h = rw (asym ys xs h, h)

-- ---- lists whose names ascend
pub rises_head : (last : List ℕ) (f : Field) (fs : List Field) → rising last (f ∷ fs) ≡ true → below last (name_in f) ≡ true
unfolding rising
rises_head last f fs h = and_l (below last (name_in f)) (rising (name_in f) fs) h

pub rises_tail : (last : List ℕ) (f : Field) (fs : List Field) → rising last (f ∷ fs) ≡ true → rising (name_in f) fs ≡ true
unfolding rising
rises_tail last f fs h = and_r (below last (name_in f)) (rising (name_in f) fs) h

pub rises-on : (last : List ℕ) (f : Field) (fs : List Field) → below last (name_in f) ≡ true → rising (name_in f) fs ≡ true → rising last (f ∷ fs) ≡ true
unfolding rising
rises-on last f fs h g = and_i h g

pub rises_none : (last : List ℕ) → rising last [] ≡ true
unfolding rising
rises_none last = refl

pub rises_lower : (low last : List ℕ) (fs : List Field) → below low last ≡ true → rising last fs ≡ true → rising low fs ≡ true
rises_lower low last [] h r = rises_none low
rises_lower low last (f ∷ fs) h r = rises-on low f fs (trans low last (name_in f) h (rises_head last f fs r)) (rises_tail last f fs r)
