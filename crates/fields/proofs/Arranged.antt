-- A list whose names ascend is determined by which field each name has; so a list in ascending parts is its parts arranged.
-- Assumes nothing.
use mathlib.Core.Path.{◌≡◌, refl, sym, ap, ◌∙◌}
use mathlib.Core.Bool.{Bool, true, false, cond, ◌&&◌}
use mathlib.Core.List.{List, [], ◌∷◌, ◌++◌}
use mathlib.Core.Option.{Option, none, some}
use Prim.Native.Nat.{ℕ}
use Rattle.base.proofs.Tests.{by_bool, clash, and_l, and_r, and_i}
use Rattle.names.specs.Names.{read_cause}
use Rattle.fields.specs.Fields.{Field, name_in, is_series, all_series, below, rising}
use Rattle.fields.specs.Arranged.{put_in, arranged}
use Rattle.fields.proofs.Order.{asym, level, irrefl, same, same_self, same_is, same_less, rises_head, rises_tail, rises-on, rises_none, rises_lower}
use Rattle.fields.proofs.Shape.{is-series}

-- the field that has a name
unfoldable pub lookup : List ℕ → List Field → Option Field
lookup n [] = none
lookup n (f ∷ fs) = cond (same n (name_in f)) (some f) (lookup n fs)

unfoldable pub or_else : Option Field → Option Field → Option Field
or_else none b = b
or_else (some f) b = some f

-- ---- one field put in
put-before : (f g : Field) (gs : List Field) → below (name_in f) (name_in g) ≡ true → put_in f (g ∷ gs) ≡ f ∷ g ∷ gs
unfolding put_in
put-before f g gs h = rw h

put-behind : (f g : Field) (gs : List Field) → below (name_in g) (name_in f) ≡ true → put_in f (g ∷ gs) ≡ g ∷ put_in f gs
unfolding put_in
put-behind f g gs h = rw (asym (name_in g) (name_in f) h, h)

put_over : (f g : Field) (gs : List Field) → name_in f ≡ name_in g → put_in f (g ∷ gs) ≡ f ∷ gs
unfolding put_in
put_over f g gs e = rw (e, irrefl (name_in g))

put_none : (f : Field) → put_in f [] ≡ f ∷ []
unfolding put_in
put_none f = refl

-- which of the three, for two names
pub by_names {ℓ} : {X : Type ℓ} (a b : List ℕ) → (below a b ≡ true → X) → (a ≡ b → X) → (below b a ≡ true → X) → X
by_names a b x y z = by_bool (below a b) x (λ h. by_bool (below b a) z (λ g. y (level a b h g)))

pub put_rises : (last : List ℕ) (f : Field) (gs : List Field) → below last (name_in f) ≡ true → rising last gs ≡ true → rising last (put_in f gs) ≡ true
put_rises last f [] h r = rw (put_none f) (rises-on last f [] h (rises_none (name_in f)))
put_rises last f (g ∷ gs) h r =
    by_names (name_in f) (name_in g)
    (λ l. rw (put-before f g gs l) (rises-on last f (g ∷ gs) h (rises-on (name_in f) g gs l (rises_tail last g gs r))))
    (λ e. rw (put_over f g gs e) (rises-on last f gs h (rw e (rises_tail last g gs r))))
    (λ l. rw (put-behind f g gs l) (rises-on last g (put_in f gs) (rises_head last g gs r) (put_rises (name_in g) f gs l (rises_tail last g gs r))))

-- ---- which field a name has
pub find-here : (n : List ℕ) (f : Field) (fs : List Field) → same n (name_in f) ≡ true → lookup n (f ∷ fs) ≡ some f
unfolding lookup
find-here n f fs e = rw e

pub find-on : (n : List ℕ) (f : Field) (fs : List Field) → same n (name_in f) ≡ false → lookup n (f ∷ fs) ≡ lookup n fs
unfolding lookup
find-on n f fs e = rw e

pub put_found : (n : List ℕ) (f : Field) (gs : List Field) → lookup n (put_in f gs) ≡ cond (same n (name_in f)) (some f) (lookup n gs)
unfolding lookup
put_found n f [] = ap (lookup n) (put_none f)
put_found n f (g ∷ gs) =
    by_names (name_in f) (name_in g)
    (λ l. ap (lookup n) (put-before f g gs l))
    (λ e. ap (lookup n) (put_over f g gs e) ∙ by_bool (same n (name_in f)) (λ a. rw a) (λ a. let b : same n (name_in g) ≡ false = rw e at a in rw (a, b)))
    (λ l. ap (lookup n) (put-behind f g gs l) ∙ by_bool (same n (name_in g))
    (λ a. let b : same n (name_in f) ≡ false = rw (← same_is n (name_in g) a) at (same_less (name_in g) (name_in f) l) in rw (a, b))
    (λ a. rw (a, put_found n f gs)))

-- ---- arranged: ascending, and each name has the field that it had first
arrange_none : arranged [] ≡ []
unfolding arranged
arrange_none = refl

arrange-more : (f : Field) (fs : List Field) → arranged (f ∷ fs) ≡ put_in f (arranged fs)
unfolding arranged
arrange-more f fs = refl

pub arranged_found : (n : List ℕ) (fs : List Field) → lookup n (arranged fs) ≡ lookup n fs
unfolding lookup
arranged_found n [] = ap (lookup n) arrange_none
arranged_found n (f ∷ fs) = ap (lookup n) (arrange-more f fs) ∙ put_found n f (arranged fs) ∙ by_bool (same n (name_in f)) (λ a. rw a) (λ a. rw (a, arranged_found n fs))

-- ---- determined by its names' fields
absent : (n : List ℕ) (fs : List Field) → rising n fs ≡ true → lookup n fs ≡ none
unfolding lookup
absent n [] r = refl
absent n (f ∷ fs) r =
    let h = rises_head n f fs r in
    rw (same_less n (name_in f) h, absent n fs (rises_lower n (name_in f) fs h (rises_tail n f fs r)))

unfoldable is_some : Option Field → Bool
is_some none = false
is_some (some f) = true

unfoldable field_in : Field → Option Field → Field
field_in d none = d
field_in d (some f) = f

not_some : {X : Type 0} (f : Field) → some f ≡ none → X
unfolding is_some
not_some f e = clash (is_some (some f)) refl (ap is_some e)

some_same : (f g : Field) → some f ≡ some g → f ≡ g
unfolding field_in
some_same f g e = ap (field_in f) e

here : (f : Field) (fs : List Field) → lookup (name_in f) (f ∷ fs) ≡ some f
here f fs = find-here (name_in f) f fs (same_self (name_in f))

tails : (f g : Field) (fs gs : List Field) → name_in f ≡ name_in g → rising (name_in f) fs ≡ true → rising (name_in g) gs ≡ true → ((n : List ℕ) → lookup n (f ∷ fs) ≡ lookup n (g ∷ gs)) → (n : List ℕ) → lookup n fs ≡ lookup n gs
tails f g fs gs e r s h n =
    by_bool (same n (name_in f))
    (λ a. let q = same_is n (name_in f) a in rw q (absent (name_in f) fs r ∙ sym (absent (name_in f) gs (rw e s))))
    (λ a. sym (find-on n f fs a) ∙ h n ∙ find-on n g gs (rw e at a))

pub only_one : (low : List ℕ) (fs gs : List Field) → rising low fs ≡ true → rising low gs ≡ true → ((n : List ℕ) → lookup n fs ≡ lookup n gs) → fs ≡ gs
only_one low [] [] r s h = refl
only_one low [] (g ∷ gs) r s h = not_some g (sym (here g gs) ∙ sym (h (name_in g)) ∙ absent (name_in g) [] (rises_none (name_in g)))
only_one low (f ∷ fs) [] r s h = not_some f (sym (here f fs) ∙ h (name_in f) ∙ absent (name_in f) [] (rises_none (name_in f)))
only_one low (f ∷ fs) (g ∷ gs) r s h =
    let rt = rises_tail low f fs r in
    let st = rises_tail low g gs s in
    by_names (name_in f) (name_in g)
    (λ l. not_some f (sym (here f fs) ∙ h (name_in f) ∙ absent (name_in f) (g ∷ gs) (rises-on (name_in f) g gs l st)))
    (λ e. let q : f ≡ g = some_same f g (sym (here f fs) ∙ h (name_in f) ∙ find-here (name_in f) g gs (rw e (same_self (name_in g)))) in
    rw (q, only_one (name_in g) fs gs (rw (← e) rt) st (tails f g fs gs e rt st h)))
    (λ l. not_some g (sym (here g gs) ∙ sym (h (name_in g)) ∙ absent (name_in g) (f ∷ fs) (rises-on (name_in g) f fs l rt)))

-- ---- parts of an ascending list may change places in what is arranged
pub found-append : (n : List ℕ) (fs gs : List Field) → lookup n (fs ++ gs) ≡ or_else (lookup n fs) (lookup n gs)
unfolding lookup or_else
found-append n [] gs = refl
found-append n (f ∷ fs) gs = by_bool (same n (name_in f)) (λ a. rw a) (λ a. rw (a, found-append n fs gs))

absent-behind : (n : List ℕ) (fs gs : List Field) → rising n (fs ++ gs) ≡ true → lookup n gs ≡ none
absent-behind n [] gs r = absent n gs r
absent-behind n (f ∷ fs) gs r = absent-behind n fs gs (rises_lower n (name_in f) (fs ++ gs) (rises_head n f (fs ++ gs) r) (rises_tail n f (fs ++ gs) r))

pub or_none : (a : Option Field) → a ≡ or_else a none
unfolding or_else
or_none none = refl
or_none (some f) = refl

-- of an ascending list in two parts, at most one has a name
apart : (low n : List ℕ) (fs gs : List Field) → rising low (fs ++ gs) ≡ true → or_else (lookup n fs) (lookup n gs) ≡ or_else (lookup n gs) (lookup n fs)
unfolding lookup or_else
apart low n [] gs r = or_none (lookup n gs)
apart low n (f ∷ fs) gs r =
    let t = rises_tail low f (fs ++ gs) r in
    by_bool (same n (name_in f))
    (λ a. let q = same_is n (name_in f) a in rw (a, absent-behind n fs gs (rw q t)))
    (λ a. rw a (apart (name_in f) n fs gs t))

-- ---- so it is what its parts are when arranged, whichever comes first
unfoldable pub above : List ℕ → List Field → Bool
above low [] = true
above low (f ∷ fs) = below low (name_in f) && above low fs

above-here : (low : List ℕ) (f : Field) (fs : List Field) → above low (f ∷ fs) ≡ true → (below low (name_in f) ≡ true) × (above low fs ≡ true)
unfolding above
above-here low f fs a = (and_l (below low (name_in f)) (above low fs) a, and_r (below low (name_in f)) (above low fs) a)

pub arranged_rises : (low : List ℕ) (fs : List Field) → above low fs ≡ true → rising low (arranged fs) ≡ true
arranged_rises low [] a = rw arrange_none (rises_none low)
arranged_rises low (f ∷ fs) a = let h = above-here low f fs a in rw (arrange-more f fs) (put_rises low f (arranged fs) h.0 (arranged_rises low fs h.1))

pub arranged_is : (low : List ℕ) (fs gs : List Field) → above low fs ≡ true → rising low gs ≡ true → ((n : List ℕ) → lookup n fs ≡ lookup n gs) → arranged fs ≡ gs
arranged_is low fs gs a r h = only_one low (arranged fs) gs (arranged_rises low fs a) r (λ n. arranged_found n fs ∙ h n)

pub swapped : (low n : List ℕ) (fs gs : List Field) → rising low (fs ++ gs) ≡ true → lookup n (gs ++ fs) ≡ lookup n (fs ++ gs)
swapped low n fs gs r = found-append n gs fs ∙ sym (apart low n fs gs r) ∙ sym (found-append n fs gs)

-- ---- fields of series alone stay so when they are arranged
put-series : (f : Field) (gs : List Field) → is_series f ≡ true → all_series gs ≡ true → all_series (put_in f gs) ≡ true
unfolding all_series put_in
put-series f [] h a = and_i h a
put-series f (g ∷ gs) h a =
    by_bool (below (name_in f) (name_in g))
    (λ e. rw e (and_i h a))
    (λ e. by_bool (below (name_in g) (name_in f))
    (λ d. rw (e, d) (and_i (and_l (is_series g) (all_series gs) a) (put-series f gs h (and_r (is_series g) (all_series gs) a))))
    (λ d. rw (e, d) (and_i h (and_r (is_series g) (all_series gs) a))))

pub arranged-series : (fs : List Field) → all_series fs ≡ true → all_series (arranged fs) ≡ true
unfolding all_series arranged
arranged-series [] a = refl
arranged-series (f ∷ fs) a = put-series f (arranged fs) (and_l (is_series f) (all_series fs) a) (arranged-series fs (and_r (is_series f) (all_series fs) a))

-- bytes that are no series' name have no field among such
pub found_none : (n : List ℕ) (fs : List Field) → (read_cause n ≡ 0 → ⊥) → all_series fs ≡ true → lookup n fs ≡ none
unfolding lookup all_series
found_none n [] h a = refl
found_none n (f ∷ fs) h a =
    by_bool (same n (name_in f))
    (λ e. absurd (h (ap read_cause (same_is n (name_in f) e) ∙ (is-series f (and_l (is_series f) (all_series fs) a)).reads)))
    (λ e. rw e (found_none n fs h (and_r (is_series f) (all_series fs) a)))
