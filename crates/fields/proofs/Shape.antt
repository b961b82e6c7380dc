-- The field at the front of some bytes: none of its places is wrong exactly where each of its bytes can stand, and then its price
-- decides whether it is a series.
-- Assumes nothing.
use mathlib.Core.Path.{◌≡◌, refl, sym, ap, ◌∙◌}
use mathlib.Core.Bool.{Bool, true, false, not, ◌&&◌, ◌||◌}
use mathlib.Core.List.{List, [], ◌∷◌, ◌++◌}
use Prim.Native.Nat.{ℕ, zero, suc, ◌+◌, ◌-◌, ◌/◌, ◌%◌, ◌≤◌, ◌<◌}
use native.Mathlib.Omega.{arith}
use lib.Dec.{eqb, ltb}
use lib.ListN.{length, get_or, take, drop, length-append, length-drop, take-append-drop, get_or-append}
use lib.Seq.{take_at, drop_at, drop-drop, get_or-take, get_or-drop, length-take-le}
use borrow.Author.Tests.{lt-ltb, le-ltb, ltb-true, ltb-false, eqb-true, eq-eqb, ne_eqb, not-false}
use Rattle.base.specs.Search.{some_in}
use Rattle.base.specs.Lists.{elem, within}
use Rattle.base.specs.Words.{two}
use Rattle.base.specs.declared.Tier.TheVariants.{N}
use Rattle.base.proofs.Tests.{by_bool, by_le, and_l, and_r, and_i, or_fl, or_fr}
use Rattle.base.proofs.SearchLaws.{none-at, none_in}
use Rattle.base.proofs.ListLaws.{within_r}
use Rattle.base.proofs.CauseLaws.{none_of, not-cause}
use Rattle.grid.specs.Grid.{grid_of}
use Rattle.names.specs.Names.{name_length, value_from, no_series, can_stand, misplaced, month_read, kind_read, price_read, read_cause}
use Rattle.names.proofs.RefusalLaws.{Formed, read_0, read_formed}
use Rattle.names.proofs.ReadLaws.{is-letter, is_digit, month_pair}
use Rattle.fields.specs.Fields.{Field, field, name_in, origin_in, is_series}
use Rattle.fields.specs.Reading.{tag_stands, content_size, field_size, content_stands, byte_stands, wrong, front_field}

-- ---- a place that is not wrong
pub right : (first : Bool) (bs : List ℕ) (j : ℕ) → wrong first bs j ≡ false → (j < length bs) × (byte_stands first (get_or bs 0 0) j (get_or bs j 0) ≡ true)
unfolding wrong
right first bs j e =
    let a : Bool = ltb j (length bs) in
    let b : Bool = byte_stands first (get_or bs 0 0) j (get_or bs j 0) in
    (ltb-true j (length bs) (not-false a (or_fl (not a) (not b) e)), not-false b (or_fr (not a) (not b) e))

pub right_back : (first : Bool) (bs : List ℕ) (j : ℕ) → j < length bs → byte_stands first (get_or bs 0 0) j (get_or bs j 0) ≡ true → wrong first bs j ≡ false
unfolding wrong
right_back first bs j h e = rw (lt-ltb j (length bs) h, e)

-- what can stand at each of a field's places
tag_place : (first : Bool) (tag b : ℕ) → byte_stands first tag 0 b ≡ tag_stands first b
unfolding byte_stands
tag_place first tag b = refl

low_place : (first : Bool) (tag b : ℕ) → byte_stands first tag 1 b ≡ eqb b (content_size tag)
unfolding byte_stands
low_place first tag b = refl

high_place : (first : Bool) (tag b : ℕ) → byte_stands first tag 2 b ≡ eqb b 0
unfolding byte_stands
high_place first tag b = refl

content_place : (first : Bool) (tag i b : ℕ) → byte_stands first tag (3 + i) b ≡ content_stands tag i b
unfolding byte_stands
content_place first tag i b =
    let e : 3 + i - 3 ≡ i = omega arith in
    rw (ne_eqb (3 + i) 0 (omega arith), ne_eqb (3 + i) 1 (omega arith), ne_eqb (3 + i) 2 (omega arith), e)

content-most : (tag : ℕ) → content_size tag ≤ 12
unfolding content_size
content-most tag = by_bool (eqb tag 1) (λ e. rw e (omega arith)) (λ e. rw e (by_bool (eqb tag 2) (λ g. rw g (omega arith)) (λ g. rw g (omega arith))))

-- ---- fields each of whose bytes can stand where it stands
pub record Shaped (first : Bool) (f : Field) : Type 0 where
  pub tagged : tag_stands first f.tag ≡ true
  pub long : length f.content ≡ content_size f.tag
  pub each : (i : ℕ) → i < content_size f.tag → content_stands f.tag i (get_or f.content i 0) ≡ true

-- a field before what stands behind it
abbrev pub ahead : Field → List ℕ → List ℕ
ahead f rest = f.tag ∷ two (length f.content) (f.content ++ rest)

three_bytes : (bs : List ℕ) → 3 ≤ length bs → bs ≡ get_or bs 0 0 ∷ get_or bs 1 0 ∷ get_or bs 2 0 ∷ drop 3 bs
three_bytes [] h = absurd (omega arith)
three_bytes (a ∷ []) h = absurd (omega arith)
three_bytes (a ∷ b ∷ []) h = absurd (omega arith)
three_bytes (a ∷ b ∷ c ∷ rest) h = refl

-- no place at the front is wrong: some bytes begin with such a field
module _ (first : Bool) (bs : List ℕ) (e : some_in (wrong first bs) 0 (field_size (get_or bs 0 0)) ≡ false) where
  placed : (j : ℕ) → j < 3 + content_size (get_or bs 0 0) → (j < length bs) × (byte_stands first (get_or bs 0 0) j (get_or bs j 0) ≡ true)
  unfolding field_size
  placed j h = right first bs j (none-at (wrong first bs) (3 + content_size (get_or bs 0 0)) e j h)

  pub front-room : field_size (get_or bs 0 0) ≤ length bs
  unfolding field_size
  front-room = omega (arith, (placed (2 + content_size (get_or bs 0 0)) (omega arith)).0)

  front_tagged : tag_stands first (get_or bs 0 0) ≡ true
  front_tagged = sym (tag_place first (get_or bs 0 0) (get_or bs 0 0)) ∙ (placed 0 (omega arith)).1

  front_long : length (take (content_size (get_or bs 0 0)) (drop 3 bs)) ≡ content_size (get_or bs 0 0)
  unfolding field_size
  front_long = length-take-le (content_size (get_or bs 0 0)) (drop 3 bs) (omega (arith, length-drop 3 bs, front-room))

  front-each : (i : ℕ) → i < content_size (get_or bs 0 0) → content_stands (get_or bs 0 0) i (get_or (take (content_size (get_or bs 0 0)) (drop 3 bs)) i 0) ≡ true
  front-each i h =
      rw (get_or-take (content_size (get_or bs 0 0)) (drop 3 bs) i 0 h, get_or-drop 3 bs i 0)
      (sym (content_place first (get_or bs 0 0) i (get_or bs (3 + i) 0)) ∙ (placed (3 + i) (omega (arith, h))).1)

  pub front_shaped : Shaped first (front_field bs)
  unfolding front_field
  front_shaped = record { tagged = front_tagged; long = front_long; each = front-each }

  pub front_bytes : bs ≡ ahead (front_field bs) (drop (field_size (get_or bs 0 0)) bs)
  unfolding front_field field_size two
  front_bytes =
      let k : ℕ = content_size (get_or bs 0 0) in
      let most = content-most (get_or bs 0 0) in
      let room = front-room in
      let low : get_or bs 1 0 ≡ k = eqb-true (get_or bs 1 0) k (sym (low_place first (get_or bs 0 0) (get_or bs 1 0)) ∙ (placed 1 (omega arith)).1) in
      let high : get_or bs 2 0 ≡ 0 = eqb-true (get_or bs 2 0) 0 (sym (high_place first (get_or bs 0 0) (get_or bs 2 0)) ∙ (placed 2 (omega arith)).1) in
      let byte : k % 256 ≡ k = omega arith in
      let none : k / 256 ≡ 0 = omega arith in
      let rest : take k (drop 3 bs) ++ drop (3 + k) bs ≡ drop 3 bs = rw (← drop-drop k 3 bs) (take-append-drop k (drop 3 bs)) in
      three_bytes bs (omega arith) ∙ rw (front_long, rest, byte, none, low, high)

-- and so do the bytes in which one stands before others
module _ (first : Bool) (f : Field) (rest : List ℕ) (s : Shaped first f) where
  ahead-length : field_size f.tag ≤ length (ahead f rest)
  unfolding field_size two
  ahead-length = omega (arith, length-append f.content rest, s.long)

  ahead-stands : (j : ℕ) → j < field_size f.tag → byte_stands first f.tag j (get_or (ahead f rest) j 0) ≡ true
  unfolding field_size two
  ahead-stands zero h = tag_place first f.tag f.tag ∙ s.tagged
  ahead-stands (suc zero) h =
      let most = content-most f.tag in
      low_place first f.tag (length f.content % 256) ∙ eq-eqb (length f.content % 256) (content_size f.tag) (omega (arith, s.long))
  ahead-stands (suc (suc zero)) h =
      let most = content-most f.tag in
      high_place first f.tag (length f.content / 256) ∙ eq-eqb (length f.content / 256) 0 (omega (arith, s.long))
  ahead-stands (suc (suc (suc i))) h =
      let l : i < content_size f.tag = omega (arith, h) in
      let three : suc (suc (suc i)) ≡ 3 + i = omega arith in
      rw (get_or-append f.content rest 0 i (omega (arith, l, s.long)), three) (content_place first f.tag i (get_or f.content i 0) ∙ s.each i l)

  pub ahead_right : some_in (wrong first (ahead f rest)) 0 (field_size f.tag) ≡ false
  ahead_right = none_in (wrong first (ahead f rest)) (field_size f.tag) (λ j h. right_back first (ahead f rest) j (omega (arith, h, ahead-length)) (ahead-stands j h))

  pub ahead_front : front_field (ahead f rest) ≡ f
  unfolding front_field two
  ahead_front = ap (field f.tag) (take_at f.content rest (content_size f.tag) s.long)

  pub ahead_rest : drop (field_size f.tag) (ahead f rest) ≡ rest
  unfolding field_size two
  ahead_rest = let e : 3 + content_size f.tag ≡ suc (suc (suc (content_size f.tag))) = omega arith in rw e (drop_at f.content rest (content_size f.tag) s.long)

-- ---- the fields of series are those whose price is on grid N

-- letters from A to X and two digits tell a month and a type that there are, so the price alone decides
module _ (name : List ℕ) (formed : Formed name) where
  month-below : month_read name < 1200
  unfolding value_from
  month-below =
      let tens = within_r 48 57 (get_or name 5 0) (is_digit name formed.placed 5 (omega arith) (omega arith)) in
      let ones = within_r 48 57 (get_or name 6 0) (is_digit name formed.placed 6 (omega arith) (omega arith)) in
      omega (arith, month_pair name formed.long, tens, ones)

  kind-most : kind_read name ≤ 1
  unfolding kind_read
  kind-most = omega (arith, within_r 65 88 (get_or name 4 0) (is-letter name formed.placed))

  price_decides : elem (price_read name) (grid_of N) ≡ true → read_cause name ≡ 0
  unfolding no_series
  price_decides h = read_0 name formed.long formed.placed (rw (lt-ltb (month_read name) 1200 month-below, le-ltb 1 (kind_read name) kind-most, h))

price-on : (name : List ℕ) → read_cause name ≡ 0 → elem (price_read name) (grid_of N) ≡ true
unfolding read_cause no_series
price-on name e =
    let third = none_of _ _ (none_of _ _ (none_of _ _ e).1).1 in
    let a : Bool = not (ltb (month_read name) 1200) in
    let b : Bool = ltb 1 (kind_read name) in
    let c : Bool = elem (price_read name) (grid_of N) in
    not-false c (or_fr b (not c) (or_fr a (b || not c) (not-cause (a || (b || not c)) 27 third.0)))

-- what can stand in the content of a series
name_place : (i b : ℕ) → i < name_length → content_stands 2 i b ≡ can_stand i b
unfolding content_stands
name_place i b h = rw (lt-ltb i name_length h)

origin_place : (b : ℕ) → content_stands 2 name_length b ≡ within 1 5 b
unfolding content_stands
origin_place b = refl

series-content : content_size 2 ≡ 12
unfolding content_size
series-content = refl

module _ (f : Field) (s : Shaped false f) where
  pub series-tag : f.tag ≡ 2
  unfolding tag_stands
  series-tag = eqb-true f.tag 2 s.tagged

  series_long : length f.content ≡ 12
  series_long = s.long ∙ ap content_size series-tag ∙ series-content

  series-each : (i : ℕ) → i < 12 → content_stands 2 i (get_or f.content i 0) ≡ true
  series-each i h =
      let l : i < content_size f.tag = rw (series-tag, series-content) h in
      rw series-tag at (s.each i l)

  name_right : (i : ℕ) → i < name_length → misplaced (name_in f) i ≡ false
  unfolding misplaced name_in
  name_right i h =
      rw (get_or-take name_length f.content i 0 h)
      (ap not (sym (name_place i (get_or f.content i 0) h) ∙ series-each i (omega arith)))

  pub named : Formed (name_in f)
  unfolding name_in
  named = record {
    long = length-take-le name_length f.content (omega (arith, series_long));
    placed = ltb-false _ name_length (none_in (misplaced (name_in f)) name_length name_right);
  }

  pub shaped-series : elem (price_read (name_in f)) (grid_of N) ≡ true → is_series f ≡ true
  unfolding is_series origin_in
  shaped-series h =
      and_i (eq-eqb f.tag 2 series-tag)
      (and_i (eq-eqb (length f.content) 12 series_long)
      (and_i (eq-eqb (read_cause (name_in f)) 0 (price_decides (name_in f) named h))
      (sym (origin_place (get_or f.content name_length 0)) ∙ series-each name_length (omega arith))))

-- what is known of a series, sentence by sentence
pub record IsSeries (f : Field) : Type 0 where
  pub tagged : f.tag ≡ 2
  pub long : length f.content ≡ 12
  pub reads : read_cause (name_in f) ≡ 0
  pub origin : within 1 5 (origin_in f) ≡ true

pub is-series : (f : Field) → is_series f ≡ true → IsSeries f
unfolding is_series
is-series f e =
    let a : Bool = eqb f.tag 2 in
    let b : Bool = eqb (length f.content) 12 in
    let c : Bool = eqb (read_cause (name_in f)) 0 in
    let d : Bool = within 1 5 (origin_in f) in
    let second = and_r a (b && (c && d)) e in
    let third = and_r b (c && d) second in
    record {
      tagged = eqb-true f.tag 2 (and_l a (b && (c && d)) e);
      long = eqb-true (length f.content) 12 (and_l b (c && d) second);
      reads = eqb-true (read_cause (name_in f)) 0 (and_l c d third);
      origin = and_r c d third;
    }

series-stands : (f : Field) → IsSeries f → (i : ℕ) → i < 12 → content_stands 2 i (get_or f.content i 0) ≡ true
unfolding misplaced name_in origin_in
series-stands f s i h =
    by_le name_length i
    (λ l. let e : i ≡ name_length = omega arith in rw e (origin_place (get_or f.content name_length 0) ∙ s.origin))
    (λ l. name_place i (get_or f.content i 0) l
    ∙ rw (← get_or-take name_length f.content i 0 l)
    (not-false _ (none-at (misplaced (name_in f)) name_length (le-ltb _ name_length (read_formed (name_in f) s.reads).placed) i l)))

pub series_shaped : (f : Field) → is_series f ≡ true → Shaped false f
unfolding tag_stands
series_shaped f e =
    let s = is-series f e in
    record {
      tagged = eq-eqb f.tag 2 s.tagged;
      long = s.long ∙ sym (ap content_size s.tagged ∙ series-content);
      each = λ i h. rw s.tagged (series-stands f s i (rw (s.tagged, series-content) at h));
    }

pub series-price : (f : Field) → is_series f ≡ true → elem (price_read (name_in f)) (grid_of N) ≡ true
series-price f e = price-on (name_in f) (is-series f e).reads
