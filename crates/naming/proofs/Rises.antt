-- The sequence in which the series are written ascends by name: letters decide between its parts, months and prices within each.
-- Assumes nothing.
use mathlib.Core.Path.{◌≡◌, refl, ◌∙◌}
use mathlib.Core.Bool.{true}
use mathlib.Core.List.{List, [], ◌∷◌, ◌++◌}
use Prim.Native.Nat.{ℕ, suc, ◌+◌, ◌*◌, ◌/◌, ◌%◌, ◌≤◌, ◌<◌}
use native.Mathlib.Omega.{arith}
use lib.Seq.{take_at}
use borrow.Author.Tests.{lt-ltb}
use Rattle.base.proofs.Tests.{by_three}
use Rattle.names.specs.Names.{name_length, digits, letter, prefix, name_of}
use Rattle.names.proofs.NameLaws.{name-length}
use Rattle.layout.specs.Rows.{Row}
use Rattle.fields.specs.Fields.{Field, series_field, name_in, below, rising}
use Rattle.fields.proofs.Order.{irrefl, same_self, below_less, below_equal, rises_head, rises_tail, rises-on, rises_none, rises_lower}
use Rattle.fields.proofs.Digits.{parted, ordered}
use Rattle.naming.specs.DayFile.{series_of}
use Rattle.naming.proofs.Climbing.{Each, key_of, Climbs}

-- ---- names
pub name-in : (m k p origin : ℕ) → name_in (series_field (name_of m k p) origin) ≡ name_of m k p
unfolding name_in series_field
name-in m k p origin = take_at (name_of m k p) (origin ∷ []) name_length (name-length m k p)

behind : (xs ys : List ℕ) → below (prefix ++ xs) (prefix ++ ys) ≡ below xs ys
behind xs ys = below_equal 79 (87 ∷ 50 ∷ 48 ∷ xs) (87 ∷ 50 ∷ 48 ∷ ys) ∙ below_equal 87 (50 ∷ 48 ∷ xs) (50 ∷ 48 ∷ ys) ∙ below_equal 50 (48 ∷ xs) (48 ∷ ys) ∙ below_equal 48 xs ys

by-letter : (m k p m' p' : ℕ) → letter m k < letter m' k → below (name_of m k p) (name_of m' k p') ≡ true
unfolding name_of
by-letter m k p m' p' h = behind _ _ ∙ below_less (letter m k) (letter m' k) _ _ h

by-price : (m k p p' : ℕ) → p < p' → p' < 10000 → below (name_of m k p) (name_of m k p') ≡ true
unfolding name_of
by-price m k p p' h l =
    let d : List ℕ = digits 2 (m / 12) in
    let q = parted d d (digits 4 p) (digits 4 p') refl in
    let o = ordered 4 p p' (omega arith) (omega arith) in
    behind _ _ ∙ below_equal (letter m k) _ _ ∙ q.0 ∙ rw (irrefl d, same_self d, o.0, lt-ltb p p' h)

-- of one year and one type, the row that is lower has the lower name
next-name : (k : ℕ) (r s : Row) → r.month / 12 ≡ s.month / 12 → r.price < 10000 → s.price < 10000 → key_of r < key_of s
    → below (name_of r.month k r.price) (name_of s.month k s.price) ≡ true
unfolding letter
next-name k r s y a b h =
    by_three r.month s.month
    (λ l. by-letter r.month k r.price s.month s.price (omega arith))
    (λ e. rw e (by-price s.month k r.price s.price (omega arith) b))
    (λ l. absurd (omega arith))

-- ---- a cut below all names of a letter, and above all of an earlier one
abbrev cut : ℕ → List ℕ
cut l = prefix ++ (l ∷ [])

digits_some : (v p : ℕ) → below [] (digits 2 v ++ digits 4 p) ≡ true
unfolding digits below
digits_some v p = refl

over_cut : (l m k p : ℕ) → l ≤ letter m k → below (cut l) (name_of m k p) ≡ true
unfolding name_of
over_cut l m k p h =
    behind _ _
    ∙ by_three l (letter m k)
    (λ g. below_less l (letter m k) [] _ g)
    (λ e. rw e (below_equal (letter m k) [] (digits 2 (m / 12) ++ digits 4 p) ∙ digits_some (m / 12) p))
    (λ g. absurd (omega arith))

under_cut : (l m k p : ℕ) → letter m k < l → below (name_of m k p) (cut l) ≡ true
unfolding name_of
under_cut l m k p h = behind _ _ ∙ below_less (letter m k) l _ _ h

first_cut : (l : ℕ) → below [] (cut l) ≡ true
unfolding below
first_cut l = refl

-- ---- two parts with a cut between them
abbrev Under : List ℕ → List Field → Type 0
Under c [] = Unit {0}
Under c (f ∷ fs) = (below (name_in f) c ≡ true) × Under c fs

under_join : (c : List ℕ) (xs ys : List Field) → Under c xs → Under c ys → Under c (xs ++ ys)
under_join c [] ys a b = b
under_join c (x ∷ xs) ys a b = (a.0, under_join c xs ys a.1 b)

joined_rise : (last c : List ℕ) (xs ys : List Field) → rising last xs ≡ true → Under c xs → rising c ys ≡ true → rising last ys ≡ true → rising last (xs ++ ys) ≡ true
joined_rise last c [] ys r u q h = h
joined_rise last c (x ∷ xs) ys r u q h =
    rises-on last x (xs ++ ys) (rises_head last x xs r) (joined_rise (name_in x) c xs ys (rises_tail last x xs r) u.1 q (rises_lower (name_in x) c ys u.0 q))

-- ---- the series of rows of one year, from one of its months on and before another
pub record InPart (year from to : ℕ) (r : Row) : Type 0 where
  pub in_year : r.month / 12 ≡ year
  pub not-before : from ≤ r.month % 12
  pub before : r.month % 12 < to
  pub four-digits : r.price < 10000

module _ (k y a b : ℕ) where
  rows_rise : (r : Row) (rs : List Row) → InPart y a b r → Each (InPart y a b) rs → Climbs (suc (key_of r)) rs → rising (name_of r.month k r.price) (series_of k rs) ≡ true
  unfolding series_of
  rows_rise r [] i e c = rises_none (name_of r.month k r.price)
  rows_rise r (s ∷ ss) i e c =
      let n = name-in s.month k s.price s.entry.origin in
      let j = e.0 in
      let l = c.0 in
      rises-on (name_of r.month k r.price) (series_field (name_of s.month k s.price) s.entry.origin) (series_of k ss)
      (rw n (next-name k r s (omega arith) i.four-digits j.four-digits (omega arith)))
      (rw n (rows_rise s ss j e.1 c.1))

  part_rises : (l : ℕ) → l ≤ 65 + 12 * k + a → (rs : List Row) → Each (InPart y a b) rs → Climbs 0 rs → rising (cut l) (series_of k rs) ≡ true
  unfolding series_of letter
  part_rises l h [] e c = rises_none (cut l)
  part_rises l h (s ∷ ss) e c =
      let n = name-in s.month k s.price s.entry.origin in
      let j = e.0 in
      rises-on (cut l) (series_field (name_of s.month k s.price) s.entry.origin) (series_of k ss)
      (rw n (over_cut l s.month k s.price (omega arith)))
      (rw n (rows_rise s ss j e.1 c.1))

  part_under : (l : ℕ) → 65 + 12 * k + b ≤ l → (rs : List Row) → Each (InPart y a b) rs → Under (cut l) (series_of k rs)
  unfolding series_of letter
  part_under l h [] e = tt
  part_under l h (s ∷ ss) e =
      let j = e.0 in
      (rw (name-in s.month k s.price s.entry.origin) (under_cut l s.month k s.price (omega arith)), part_under l h ss e.1)

-- ---- all series of a type: the later year's, then the earlier year's
abbrev pub both : List Row → List Row → ℕ → List Field
both earlier later k = series_of k later ++ series_of k earlier

-- rows of year y from its month c on, and rows of the year after before its month c
pub record TwoYears (y c : ℕ) (earlier later : List Row) : Type 0 where
  pub in_twelve : c ≤ 12
  pub earlier_part : Each (InPart y c 12) earlier
  pub later_part : Each (InPart (y + 1) 0 c) later
  pub earlier_climbs : Climbs 0 earlier
  pub later_climbs : Climbs 0 later

module _ (y c : ℕ) (earlier later : List Row) (w : TwoYears y c earlier later) where
  both_rise : (k : ℕ) → rising (cut (65 + 12 * k)) (both earlier later k) ≡ true
  both_rise k =
      let low : ℕ = 65 + 12 * k in
      joined_rise (cut low) (cut (low + c)) (series_of k later) (series_of k earlier)
      (part_rises k (y + 1) 0 c low (omega arith) later w.later_part w.later_climbs)
      (part_under k (y + 1) 0 c (low + c) (omega arith) later w.later_part)
      (part_rises k y c 12 (low + c) (omega arith) earlier w.earlier_part w.earlier_climbs)
      (part_rises k y c 12 low (omega arith) earlier w.earlier_part w.earlier_climbs)

  pub type_rises : (k : ℕ) → rising [] (both earlier later k) ≡ true
  type_rises k = rises_lower [] (cut (65 + 12 * k)) (both earlier later k) (first_cut (65 + 12 * k)) (both_rise k)

  -- letters of calls lie below those of puts
  pub all_rise : rising [] (both earlier later 0 ++ both earlier later 1) ≡ true
  all_rise =
      joined_rise [] (cut 77) (both earlier later 0) (both earlier later 1) (type_rises 0)
      (under_join (cut 77) (series_of 0 later) (series_of 0 earlier)
      (part_under 0 (y + 1) 0 c 77 (omega (arith, w.in_twelve)) later w.later_part)
      (part_under 0 y c 12 77 (omega arith) earlier w.earlier_part))
      (both_rise 1) (type_rises 1)
