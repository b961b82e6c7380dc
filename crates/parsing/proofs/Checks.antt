-- What the check tells: a place of a field, the day, and one series more.
-- Assumes nothing.
use mathlib.Core.Path.{◌≡◌, refl, sym, ap, ◌∙◌}
use mathlib.Core.Bool.{Bool, true, false, cond, not, ◌&&◌, ◌||◌}
use mathlib.Core.List.{List, [], ◌∷◌, ◌++◌, append-nil}
use Prim.Native.Nat.{ℕ, zero, suc, min, ◌+◌, ◌-◌, ◌*◌, ◌%◌, ◌≤◌, ◌<◌}
use native.Mathlib.Nat.{add-zero, zero-add}
use native.Mathlib.Omega.{arith}
use lib.Dec.{T, eqb, ltb, leb}
use lib.ListN.{length, get_or, take, drop, length-append, length-take, length-drop, drop_of_length-le}
use Rattle.std.proofs.lemmas.List.{drop-take, nil_from_length}
use lib.Seq.{get_or-take, drop-drop, drop_at, take_all, take_at, take-take, length-take-le}
use borrow.Author.Count.{below_more}
use borrow.Author.Tests.{lt-ltb, le-ltb, le-leb, ltb-true, leb-true, eqb-true, not-true, not-false}
use Rattle.std.specs.Prelude.{None}
use Rattle.base.specs.Search.{first_from, first_in, found_in, some_in}
use Rattle.base.specs.Lists.{elem, within}
use Rattle.base.specs.Causes.{cause}
use Rattle.base.specs.Words.{at16}
use Rattle.base.specs.declared.Tier.TheVariants.{N}
use Rattle.base.proofs.Tests.{by_bool, by_le, clash, iff, and_r, or_none}
use Rattle.base.proofs.Table.{every, at as entry}
use Rattle.base.proofs.SearchLaws.{first_end, first_skip, first_hit, first-high, first-before, first_found, found-none, none-at, none_in, some_split, some_first, some-empty}
use Rattle.dates.specs.Months.{day_count}
use Rattle.grid.specs.Grid.{grid_of}
use Rattle.names.specs.Names.{name_length, can_stand}
use Rattle.names.proofs.RefusalLaws.{Formed}
use Rattle.fields.specs.Fields.{Field, name_in, below}
use Rattle.fields.specs.Reading.{tag_stands, content_size, field_size, content_stands, byte_stands, wrong, front_field, taken, Rest, good, bad, behind, series_from, faulty, of_day, file_read, is_faulty, place_in, day_in, series_in, checked_of}
use Rattle.fields.specs.declared.Contents.{Contents}
use Rattle.fields.proofs.Shape.{Shaped, front-room, front_shaped, series-tag, named}
use Rattle.fields.proofs.Steps.{step-wrong, step_unfit, step-taken, none-good, file-wrong, file_late, file-series, day-room}
use Rattle.parsing.specs.Keys.{key_of}
use Rattle.parsing.specs.Sorts.{is_day, tag_of, length_of}
use Rattle.parsing.specs.declared.Field.{Field as Sort}
use Rattle.parsing.specs.declared.Field.TheVariants.{Day, Series}
use Rattle.parsing.proofs.KeyLaws.{key_bound, key-price, below_key}

-- ---- a place of the field at the front of some bytes
module _ (first : Bool) (rest : List ℕ) (j : ℕ) where
  pub wrong_end : length rest ≤ j → wrong first rest j ≡ true
  unfolding wrong
  wrong_end h = rw (le-ltb j (length rest) h)

  pub wrong-at : j < length rest → wrong first rest j ≡ not (byte_stands first (get_or rest 0 0) j (get_or rest j 0))
  unfolding wrong
  wrong-at h = rw (lt-ltb j (length rest) h)

-- ---- the two sorts of fields
pub tag_byte : (field : Sort) (b : ℕ) → eqb b (tag_of field) ≡ tag_stands (is_day field) b
unfolding tag_stands
tag_byte Day b = refl
tag_byte Series b = refl

pub length_byte : (field : Sort) (b : ℕ) → eqb b (length_of field) ≡ eqb b (content_size (tag_of field))
unfolding content_size
length_byte Day b = refl
length_byte Series b = refl

-- behind the first place a tag decides, at the first none does
pub same_stands : (first : Bool) (t u j b : ℕ) → (0 < j → t ≡ u) → byte_stands first t j b ≡ byte_stands first u j b
unfolding byte_stands
same_stands first t u zero b e = refl
same_stands first t u (suc j) b e = ap (λ (t : ℕ). byte_stands first t (suc j) b) (e (omega arith))

pub tag_told : (field : Sort) (rest : List ℕ) (place : ℕ) → (0 < place → get_or rest 0 0 ≡ tag_of field)
    → byte_stands (is_day field) (tag_of field) place (get_or rest place 0) ≡ true → get_or rest 0 0 ≡ tag_of field
unfolding byte_stands
tag_told field rest zero told e = eqb-true (get_or rest 0 0) (tag_of field) (tag_byte field (get_or rest 0 0) ∙ e)
tag_told field rest (suc place) told e = told (omega arith)

-- ---- a series' field by a table: the least and the greatest byte that can stand at each place
abbrev least : List ℕ
least = 2 ∷ 12 ∷ 0 ∷ 79 ∷ 87 ∷ 50 ∷ 48 ∷ 65 ∷ 48 ∷ 48 ∷ 48 ∷ 48 ∷ 48 ∷ 48 ∷ 1 ∷ []

abbrev greatest : List ℕ
greatest = 2 ∷ 12 ∷ 0 ∷ 79 ∷ 87 ∷ 50 ∷ 48 ∷ 88 ∷ 57 ∷ 57 ∷ 57 ∷ 57 ∷ 57 ∷ 57 ∷ 5 ∷ []

abbrev between : ℕ → ℕ → Bool
between j b = within (get_or least j 0) (get_or greatest j 0) b

-- a byte that lies between them and cannot stand there, or one that can and does not
abbrev astray : ℕ → ℕ → Bool
astray j b = cond (between j b) (not (byte_stands false 2 j b)) (byte_stands false 2 j b)

none_astray : T (every (λ j low. not (some_in (astray j) 0 256)) 0 least)
unfolding first_from within byte_stands tag_stands content_size content_stands can_stand
none_astray = tt

between_is : (j b : ℕ) → j < 15 → b < 256 → between j b ≡ byte_stands false 2 j b
between_is j b h l =
    let t : T (not (some_in (astray j) 0 256)) = entry (λ j low. not (some_in (astray j) 0 256)) least none_astray j h in
    by_bool (some_in (astray j) 0 256)
    (λ e. absurd (rw e at t))
    (λ e. let n : astray j b ≡ false = none-at (astray j) 256 e b l in
    by_bool (between j b)
    (λ w. w ∙ sym (not-false (byte_stands false 2 j b) (rw w at n)))
    (λ w. w ∙ sym (rw w at n)))

-- the byte at place j of the field lies outside them
abbrev outside : List ℕ → ℕ → Bool
outside field j = not (between j (get_or field j 0))

-- the first n bytes of the field were tested
abbrev pub Tested : List ℕ → ℕ → Bool → Type 0
Tested field n right = ((j : ℕ) → j < n → get_or field j 0 < 256) × (right ≡ not (some_in (outside field) 0 n))

one_more : (right some low high : Bool) → right ≡ not some → ((right && low) && high) ≡ not (not (low && high) || some)
one_more right false true true e = rw e refl
one_more right false true false e = rw e refl
one_more right false false high e = rw e refl
one_more right true true true e = rw e refl
one_more right true true false e = rw e refl
one_more right true false high e = rw e refl

pub tested-more : (field : List ℕ) (n : ℕ) (right : Bool) → Tested field n right → get_or field n 0 < 256
    → Tested field (n + 1) ((right && leb (get_or least n 0) (get_or field n 0)) && leb (get_or field n 0) (get_or greatest n 0))
unfolding within
tested-more field n right t b =
    let p = outside field in
    let last : some_in p 0 (n + 1) ≡ (p n || some_in p 0 n) =
    some_split p 0 n (n + 1) (omega arith) (omega arith)
    ∙ ap (λ (x : Bool). x || some_in p 0 n) (some_first p n (n + 1) (omega arith) ∙ sym (or_none (p n) _ (some-empty p (n + 1) (n + 1) (omega arith)))) in
    (below_more _ _ t.0 b, one_more right (some_in p 0 n) _ _ t.1 ∙ ap not (sym last))

-- all fifteen: the table says no exactly where some place is wrong
pub tested_all : (field : List ℕ) (right : Bool) → length field ≡ 15 → Tested field 15 right → right ≡ not (some_in (wrong false field) 0 15)
unfolding tag_stands byte_stands
tested_all field right inside t =
    let w = wrong false field in
    let p = outside field in
    let room : (j : ℕ) → j < 15 → j < length field = λ j h. omega arith in
    t.1 ∙ ap not (iff (some_in p 0 15) (some_in w 0 15)
    (λ s. by_bool (some_in w 0 15)
    (λ e. e)
    (λ e. let stands : (j : ℕ) → j < 15 → byte_stands false (get_or field 0 0) j (get_or field j 0) ≡ true =
    λ j h. not-false _ (sym (wrong-at false field j (room j h)) ∙ none-at w 15 e j h) in
    let tag : get_or field 0 0 ≡ 2 = eqb-true (get_or field 0 0) 2 (stands 0 (omega arith)) in
    clash (some_in p 0 15) s (none_in p 15 (λ j h. ap not (between_is j _ h (t.0 j h) ∙ (rw tag at (stands j h)))))))
    (λ s. by_bool (some_in p 0 15)
    (λ e. e)
    (λ e. let stands : (j : ℕ) → j < 15 → byte_stands false 2 j (get_or field j 0) ≡ true =
    λ j h. sym (between_is j _ h (t.0 j h)) ∙ not-false _ (none-at p 15 e j h) in
    let tag : get_or field 0 0 ≡ 2 = eqb-true (get_or field 0 0) 2 (stands 0 (omega arith)) in
    clash (some_in w 0 15) s (none_in w 15 (λ j h. wrong-at false field j (room j h) ∙ rw (tag, stands j h) refl)))))

-- where no place of the first fifteen bytes is wrong, none is of all
pub right_none : (rest : List ℕ) → 15 ≤ length rest → not (some_in (wrong false (take 15 rest)) 0 15) ≡ true → found_in (wrong false rest) 0 15 ≡ None
right_none rest room e =
    let p = wrong false rest in
    let long : length (take 15 rest) ≡ 15 = length-take-le 15 rest room in
    let none = not-true (some_in (wrong false (take 15 rest)) 0 15) e in
    let same : (j : ℕ) → j < 15 → p j ≡ false = λ j l.
    wrong-at false rest j (omega arith) ∙ rw (← get_or-take 15 rest 0 0 (omega arith), ← get_or-take 15 rest j 0 l) (sym (wrong-at false (take 15 rest) j (omega arith)) ∙ none-at (wrong false (take 15 rest)) 15 none j l) in
    found-none p 0 15 (omega (arith, first_skip p 0 15 15 (omega arith) (omega arith) (λ j l u. same j (omega arith)), first_end p 15 15 (omega arith)))

-- ---- the front of some bytes, up to fifteen
module _ (rest field left : List ℕ) (parts : rest ≡ field ++ left) (size : length field ≡ min 15 (length rest)) where
  pub front_is : field ≡ take 15 rest
  front_is =
      by_le 15 (length rest)
      (λ l. sym (ap (take 15) parts ∙ take_at field left 15 (omega (arith, size))))
      (λ l. let none : left ≡ [] = nil_from_length left (omega (arith, ap length parts, length-append field left, size)) in
      sym (take_all 15 rest (omega arith) ∙ parts ∙ rw none (append-nil field)))

  pub left_is : 15 ≤ length rest → left ≡ drop 15 rest
  left_is l = sym (ap (drop 15) parts ∙ drop_at field left 15 (omega (arith, size)))

module _ (rest : List ℕ) where
  front-long : length (take 15 rest) ≡ min 15 (length rest)
  front-long = length-take 15 rest

  front-wrong : (j : ℕ) → j < 15 → wrong false (take 15 rest) j ≡ wrong false rest j
  front-wrong j h =
      by_le (length rest) j
      (λ l. wrong_end false (take 15 rest) j (omega (arith, front-long)) ∙ sym (wrong_end false rest j l))
      (λ l. wrong-at false (take 15 rest) j (omega (arith, front-long))
      ∙ rw (get_or-take 15 rest 0 0 (omega arith), get_or-take 15 rest j 0 h) (sym (wrong-at false rest j l)))

  pub front_first : first_in (wrong false (take 15 rest)) 0 15 ≡ first_in (wrong false rest) 0 15
  front_first =
      let p = wrong false (take 15 rest) in
      let q = wrong false rest in
      let k = first_in q 0 15 in
      let high = first-high q 0 15 (omega arith) in
      first_skip p 0 k 15 (omega arith) high (λ j l u. front-wrong j (omega (arith, high, u)) ∙ first-before q 0 15 j l u)
      ∙ by_le 15 k (λ l. first_end p k 15 l) (λ l. first_hit p k 15 l (front-wrong k l ∙ first_found q 0 15 l))

  pub front_name : take name_length (drop 3 (take 15 rest)) ≡ take name_length (drop 3 rest)
  front_name = rw (drop-take 3 12 rest, take-take name_length 12 (drop 3 rest) (omega arith))

  -- the fifteen tell what the field's size does: a tag that is not a series' is wrong, whatever size it tells
  module _ (some : 0 < length rest) where
    series_tag : wrong false rest 0 ≡ false → get_or rest 0 0 ≡ 2
    unfolding byte_stands tag_stands
    series_tag e = eqb-true (get_or rest 0 0) 2 (not-false _ (sym (wrong-at false rest 0 some) ∙ e))

    fifteen : wrong false rest 0 ≡ false → field_size (get_or rest 0 0) ≡ 15
    unfolding field_size content_size
    fifteen e = rw (series_tag e)

    pub sized_first : first_in (wrong false rest) 0 (field_size (get_or rest 0 0)) ≡ first_in (wrong false rest) 0 15
    unfolding field_size
    sized_first =
        let w = wrong false rest in
        by_bool (w 0)
        (λ t. first_hit w 0 (field_size (get_or rest 0 0)) (omega arith) t ∙ sym (first_hit w 0 15 (omega arith) t))
        (λ f. ap (λ (n : ℕ). first_in w 0 n) (fifteen f))

    pub size_first : some_in (wrong false rest) 0 (field_size (get_or rest 0 0)) ≡ some_in (wrong false rest) 0 15
    unfolding field_size
    size_first =
        let w = wrong false rest in
        by_bool (w 0)
        (λ t. rw (first_hit w 0 (field_size (get_or rest 0 0)) (omega arith) t, first_hit w 0 15 (omega arith) t) (lt-ltb 0 (field_size (get_or rest 0 0)) (omega arith)))
        (λ f. ap (λ (n : ℕ). some_in w 0 n) (fifteen f))

-- ---- what is told: a fault, or the day and so many series before those that are left
abbrev pub fault_at : ℕ → Contents
fault_at place = record { number = 31; day = place; series = 0 }

unfoldable pub tell : ℕ → ℕ → Rest → Contents
tell day n (good fs) = record { number = 0; day = day; series = n + length fs }
tell day n (bad place) = fault_at place

tell-faulty : (place : ℕ) → checked_of (faulty place) ≡ fault_at place
unfolding checked_of is_faulty place_in series_in cause
tell-faulty place = refl

tell_none : (day : ℕ) (t : Rest) → checked_of (of_day day t) ≡ tell day 0 t
unfolding checked_of of_day is_faulty place_in day_in series_in cause tell
tell_none day (good fs) = rw zero-add
tell_none day (bad place) = refl

tell-behind : (day n : ℕ) (f : Field) (t : Rest) → tell day n (behind f t) ≡ tell day (n + 1) t
unfolding behind tell
tell-behind day n f (good fs) = let e : n + suc (length fs) ≡ n + 1 + length fs = omega arith in rw e
tell-behind day n f (bad place) = refl

-- ---- the day
module _ (file : List ℕ) where
  pub day-wrong : first_in (wrong true file) 0 5 < 5 → checked_of (file_read file) ≡ fault_at (first_in (wrong true file) 0 5)
  day-wrong h = ap checked_of (file-wrong file (lt-ltb (first_in (wrong true file) 0 5) 5 h)) ∙ tell-faulty (first_in (wrong true file) 0 5)

  module _ (whole : 5 ≤ first_in (wrong true file) 0 5) where
    right : some_in (wrong true file) 0 5 ≡ false
    right = le-ltb (first_in (wrong true file) 0 5) 5 whole

    pub day_inside : 5 ≤ length file
    day_inside = day-room file right

    pub day_late : day_count ≤ at16 file 3 → checked_of (file_read file) ≡ fault_at 3
    day_late h = ap checked_of (file_late file right (le-ltb (at16 file 3) day_count h)) ∙ tell-faulty 3

    day-told : at16 file 3 < day_count → checked_of (file_read file) ≡ tell (at16 file 3) 0 (series_from (length file) 5 [] (drop 5 file))
    day-told h =
        ap checked_of (file-series file right (lt-ltb (at16 file 3) day_count h))
        ∙ tell_none (at16 file 3) (series_from (length file) 5 [] (drop 5 file))

-- ---- the series

-- what the loop keeps: the name before lies below exactly those whose keys are `least` or above, and what is told of the rest,
-- behind the series so far, is what is told of the file
pub record Walked (file : List ℕ) (day at least series : ℕ) : Type 0 where
  pub last : List ℕ
  pub above : (name : List ℕ) → Formed name → below last name ≡ leb least (key_of name)
  pub least-most : least ≤ 24000000
  pub series-most : series ≤ least
  pub at_is : at ≡ 5 + 15 * series
  pub at_inside : at ≤ length file
  pub told : checked_of (file_read file) ≡ tell day series (series_from (length file - series) at last (drop at file))

-- every name is above none
above_none : (name : List ℕ) → Formed name → below [] name ≡ leb 0 (key_of name)
unfolding below
above_none [] formed = absurd (omega (arith, formed.long))
above_none (b ∷ name) formed = sym (le-leb 0 (key_of (b ∷ name)) (omega arith))

above-name : (last : List ℕ) → Formed last → (name : List ℕ) → Formed name → below last name ≡ leb (key_of last + 1) (key_of name)
above-name last f name g =
    below_key last name f g
    ∙ iff (ltb (key_of last) (key_of name)) (leb (key_of last + 1) (key_of name))
    (λ h. let l = ltb-true (key_of last) (key_of name) h in le-leb (key_of last + 1) (key_of name) (omega arith))
    (λ h. let l = leb-true (key_of last + 1) (key_of name) h in lt-ltb (key_of last) (key_of name) (omega arith))

pub walk_begins : (file : List ℕ) (day : ℕ) → 5 ≤ first_in (wrong true file) 0 5 → day ≡ at16 file 3 → day < day_count → Walked file day 5 0 0
walk_begins file day whole e h =
    let all : length file - 0 ≡ length file = omega arith in
    record {
      last = [];
      above = above_none;
      least-most = omega arith;
      series-most = omega arith;
      at_is = refl;
      at_inside = day_inside file whole;
      told = rw (all, e) (day-told file whole (rw e at h));
    }

module _ {file : List ℕ} {day at least series : ℕ} (walked : Walked file day at least series) where
  pub walk_ends : length file ≤ at → checked_of (file_read file) ≡ record { number = 0; day = day; series = series }
  unfolding tell
  walk_ends h = walked.told ∙ rw (drop_of_length-le file h, none-good (length file - series) at walked.last, add-zero series)

  module _ (inside : at < length file) where
    abbrev rest : List ℕ
    rest = drop at file

    some : 0 < length rest
    some = simp length-drop (omega arith)

    told-next : checked_of (file_read file) ≡ tell day series (series_from (suc (length file - (series + 1))) at walked.last rest)
    told-next = let fuel : suc (length file - (series + 1)) ≡ length file - series = omega (arith, walked.at_is) in rw fuel walked.told

    pub walk-wrong : (place : ℕ) → first_in (wrong false rest) 0 15 ≡ place → place < 15 → checked_of (file_read file) ≡ fault_at (at + place)
    unfolding tell
    walk-wrong place first h =
        let e : some_in (wrong false rest) 0 (field_size (get_or rest 0 0)) ≡ true = size_first rest some ∙ rw first (lt-ltb place 15 h) in
        told-next ∙ rw (step-wrong (length file - (series + 1)) at walked.last rest some e, sized_first rest some, first)

    module _ (whole : 15 ≤ first_in (wrong false rest) 0 15) where
      abbrev name_here : List ℕ
      name_here = take name_length (drop 3 rest)

      none : some_in (wrong false rest) 0 (field_size (get_or rest 0 0)) ≡ false
      none = size_first rest some ∙ le-ltb (first_in (wrong false rest) 0 15) 15 whole

      shaped : Shaped false (front_field rest)
      shaped = front_shaped false rest none

      two : get_or rest 0 0 ≡ 2
      unfolding front_field
      two = series-tag (front_field rest) shaped

      size_is : field_size (get_or rest 0 0) ≡ 15
      unfolding field_size content_size
      size_is = rw two

      pub field_inside : at + 15 ≤ length file
      field_inside = omega (arith, front-room false rest none, size_is, length-drop at file)

      name_is : name_in (front_field rest) ≡ name_here
      unfolding name_in front_field content_size
      name_is = rw (two, take-take name_length 12 (drop 3 rest) (omega arith))

      pub name_formed : Formed name_here
      name_formed = rw name_is at (named (front_field rest) shaped)

      taken_is : taken walked.last (front_field rest) ≡ (elem (key_of name_here % 10000) (grid_of N) && leb least (key_of name_here))
      unfolding taken
      taken_is = rw (name_is, walked.above name_here name_formed, key-price name_here name_formed)

      module _ {key : ℕ} (key-is : key ≡ key_of name_here) where
        pub walk_unfit : (elem (key % 10000) (grid_of N) && leb least key) ≡ false → checked_of (file_read file) ≡ fault_at (at + 3)
        unfolding tell
        walk_unfit h = told-next ∙ rw (step_unfit (length file - (series + 1)) at walked.last rest some none (taken_is ∙ rw (← key-is) h))

        pub walk-on : (elem (key % 10000) (grid_of N) && leb least key) ≡ true → Walked file day (at + 15) (key + 1) (series + 1)
        walk-on h =
            let l : least ≤ key = leb-true least key (and_r (elem (key % 10000) (grid_of N)) (leb least key) h) in
            let b : key < 24000000 = rw key-is (key_bound name_here name_formed) in
            record {
              last = name_here;
              above = rw key-is (above-name name_here name_formed);
              least-most = omega arith;
              series-most = omega (arith, walked.series-most);
              at_is = omega (arith, walked.at_is);
              at_inside = field_inside;
              told =
                  told-next ∙ ap (tell day series) (step-taken (length file - (series + 1)) at walked.last rest some none (taken_is ∙ rw (← key-is) h))
                  ∙ tell-behind day series _ _ ∙ rw (name_is, size_is, drop-drop 15 at file);
            }
