-- File and list determine each other, and what is written is accepted by the reader.
-- Assumes nothing.
use mathlib.Core.Path.{◌≡◌, refl, sym, ap, ◌∙◌}
use mathlib.Core.Bool.{Bool, true, false}
use mathlib.Core.List.{List, [], ◌∷◌, ◌++◌, append_assoc}
use Prim.Native.Nat.{ℕ, zero, suc, ◌+◌, ◌*◌, ◌≤◌, ◌<◌}
use native.Mathlib.Omega.{arith}
use lib.Dec.{ltb}
use lib.ListN.{length, get_or, take, drop, length-append}
use lib.Seq.{take_at, drop_at}
use borrow.Author.Tests.{lt-ltb, le-ltb, ltb-true, ne_eqb}
use Rattle.base.specs.Search.{some_in}
use Rattle.base.specs.Lists.{elem}
use Rattle.base.specs.Causes.{cause, first_cause}
use Rattle.base.specs.Words.{two, at16}
use Rattle.base.specs.declared.Tier.TheVariants.{N}
use Rattle.base.proofs.Tests.{by_bool, and_l, and_r, and_i}
use Rattle.base.proofs.WordLaws.{word_back, two_at}
use Rattle.dates.specs.Months.{day_count}
use Rattle.grid.specs.Grid.{grid_of}
use Rattle.names.specs.Names.{price_read}
use Rattle.fields.specs.Fields.{Field, field, fields_bytes, day_field, file_of, name_in, is_series, all_series, below, rising}
use Rattle.fields.specs.Reading.{tag_stands, content_size, field_size, content_stands, wrong, front_field, taken, Rest, good, behind, series_from, dated, of_day, file_read, is_faulty, day_in, series_in, series_bytes, read_number, read_at, read_after}
use Rattle.fields.proofs.Order.{rises_head, rises_tail, rises-on, rises_none}
use Rattle.fields.proofs.Shape.{Shaped, ahead, front_shaped, front_bytes, ahead_right, ahead_rest, shaped-series, is-series, series_shaped, series-price}
use Rattle.fields.proofs.Steps.{spent, step-good, shorter, day-tag, day-room, day_right, file-wrong, file_late, file-series, not-bad, behind-on, behind-good, not-faulty, dated-good}
pub use Rattle.fields.proofs.Shape.{right}
pub use Rattle.fields.proofs.Steps.{step-wrong, step_unfit, step-taken, none-good}
pub use Rattle.fields.proofs.Places.{told-within, place-lowest, place_none}

-- ---- lists that a file can have, taken apart and put together
taken_is : (last : List ℕ) (f : Field) → taken last f ≡ true → (elem (price_read (name_in f)) (grid_of N) ≡ true) × (below last (name_in f) ≡ true)
unfolding taken
taken_is last f t =
    let on : Bool = elem (price_read (name_in f)) (grid_of N) in
    let above : Bool = below last (name_in f) in
    (and_l on above t, and_r on above t)

series-taken : (last : List ℕ) (f : Field) → is_series f ≡ true → below last (name_in f) ≡ true → taken last f ≡ true
unfolding taken
series-taken last f s b = and_i (series-price f s) b

pub all_head : (f : Field) (fs : List Field) → all_series (f ∷ fs) ≡ true → is_series f ≡ true
unfolding all_series
all_head f fs a = and_l (is_series f) (all_series fs) a

pub all_tail : (f : Field) (fs : List Field) → all_series (f ∷ fs) ≡ true → all_series fs ≡ true
unfolding all_series
all_tail f fs a = and_r (is_series f) (all_series fs) a

pub all-on : (f : Field) (fs : List Field) → is_series f ≡ true → all_series fs ≡ true → all_series (f ∷ fs) ≡ true
unfolding all_series
all-on f fs s a = and_i s a

all_none : all_series [] ≡ true
unfolding all_series
all_none = refl

pub fields-append : (fs gs : List Field) → fields_bytes (fs ++ gs) ≡ fields_bytes fs ++ fields_bytes gs
unfolding fields_bytes two
fields-append [] gs = refl
fields-append (f ∷ fs) gs = rw (fields-append fs gs, append_assoc)

bytes_none : fields_bytes [] ≡ []
unfolding fields_bytes
bytes_none = refl

pub bytes_on : (f : Field) (fs : List Field) → fields_bytes (f ∷ fs) ≡ ahead f (fields_bytes fs)
unfolding fields_bytes
bytes_on f fs = refl

-- ---- writing what was read
abbrev Back : List ℕ → List ℕ → List Field → Type 0
Back last bs fs = (bs ≡ fields_bytes fs) × (all_series fs ≡ true) × (rising last fs ≡ true)

back_none : (last : List ℕ) (t : Rest) (fs : List Field) → t ≡ good [] → t ≡ good fs → Back last [] fs
back_none last t fs e g = let n : fs ≡ [] = cc in rw n (sym bytes_none, all_none, rises_none last)

-- what is read without fault is the bytes of what was read, and a list that a file can have
pub series_back : (n at : ℕ) (last bs : List ℕ) (fs : List Field) → series_from n at last bs ≡ good fs
    → (bs ≡ fields_bytes fs) × (all_series fs ≡ true) × (rising last fs ≡ true)
series_back zero at last [] fs e = back_none last _ fs (none-good 0 at last) e
series_back zero at last (b ∷ bs) fs e = not-bad at _ fs (spent at last b bs) e
series_back (suc n) at last [] fs e = back_none last _ fs (none-good (suc n) at last) e
series_back (suc n) at last (b ∷ bs) fs e =
    let f : Field = front_field (b ∷ bs) in
    let size : ℕ = field_size b in
    by_bool (some_in (wrong false (b ∷ bs)) 0 size)
    (λ w. not-bad _ _ fs (step-wrong n at last (b ∷ bs) (omega arith) w) e)
    (λ w. by_bool (taken last f)
    (λ t. let r = behind-good f _ fs (sym (step-taken n at last (b ∷ bs) (omega arith) w t) ∙ e) in
    let gs : List Field = r.0 in
    let i = series_back n (at + size) (name_in f) (drop size (b ∷ bs)) gs r.1 in
    let k = taken_is last f t in
    rw (← r.2) (
      front_bytes false (b ∷ bs) w ∙ ap (ahead f) i.0 ∙ sym (bytes_on f gs),
      all-on f gs (shaped-series f (front_shaped false (b ∷ bs) w) k.0) i.1,
      rises-on last f gs k.1 i.2,
    ))
    (λ t. not-bad _ _ fs (step_unfit n at last (b ∷ bs) (omega arith) w t) e))

-- ---- reading what was written
series_read : (n at : ℕ) (last : List ℕ) (fs : List Field) → all_series fs ≡ true → rising last fs ≡ true → length (fields_bytes fs) ≤ n
    → series_from n at last (fields_bytes fs) ≡ good fs
series_read n at last [] a r l = ap (series_from n at last) bytes_none ∙ none-good n at last
series_read zero at last (f ∷ fs) a r l = absurd (omega (arith, ap length (bytes_on f fs)))
series_read (suc n) at last (f ∷ fs) a r l =
    let s = all_head f fs a in
    ap (series_from (suc n) at last) (bytes_on f fs)
    ∙ step-good n at last f (fields_bytes fs) (series_shaped f s) (series-taken last f s (rises_head last f fs r))
    ∙ ap (behind f) (series_read n (at + field_size f.tag) (name_in f) fs (all_tail f fs a) (rises_tail last f fs r) (shorter f (fields_bytes fs) n (rw (bytes_on f fs) at l)))
    ∙ behind-on f fs

-- ---- the whole file
module _ (bs : List ℕ) (bytes : (i : ℕ) → get_or bs i 0 < 256) (w : some_in (wrong true bs) 0 5 ≡ false) where
  day_front : front_field bs ≡ day_field (at16 bs 3)
  unfolding front_field content_size day_field two
  day_front = rw (day-tag bs w, ← two_at bs bytes 3 5 refl (day-room bs w))

  day_bytes : (fs : List Field) → drop 5 bs ≡ fields_bytes fs → bs ≡ file_of (at16 bs 3) fs
  unfolding file_of field_size content_size
  day_bytes fs e =
      let rest : drop (field_size (get_or bs 0 0)) bs ≡ fields_bytes fs = rw (day-tag bs w) e in
      front_bytes true bs (day_right bs w) ∙ rw (day_front, rest, bytes_on (day_field (at16 bs 3)) fs)

pub writes_back : (bs : List ℕ) → ((i : ℕ) → get_or bs i 0 < 256) → (day : ℕ) (fs : List Field) → file_read bs ≡ dated day fs
    → (bs ≡ file_of day fs) × (day ≤ 36524) × (all_series fs ≡ true) × (rising [] fs ≡ true)
writes_back bs bytes day fs e =
    by_bool (some_in (wrong true bs) 0 5)
    (λ w. not-faulty _ day _ fs (file-wrong bs w) e)
    (λ w. by_bool (ltb (at16 bs 3) day_count)
    (λ d. let r = dated-good (at16 bs 3) _ day fs (sym (file-series bs w d) ∙ e) in
    let i = series_back (length bs) 5 [] (drop 5 bs) fs r.1 in
    rw (← r.0) (day_bytes bs bytes w fs i.0, omega (arith, ltb-true (at16 bs 3) day_count d), i.1, i.2))
    (λ d. not-faulty 3 day _ fs (file_late bs w d) e))

day_shaped : (day : ℕ) → Shaped true (day_field day)
unfolding tag_stands content_size content_stands day_field two
day_shaped day = record { tagged = refl; long = refl; each = λ i h. refl }

day_read : (day : ℕ) (rest : List ℕ) → day ≤ 36524 → at16 (ahead (day_field day) rest) 3 ≡ day
unfolding at16 day_field two
day_read day rest h = word_back day (omega arith)

pub reads_back : (day : ℕ) (fs : List Field) → day ≤ 36524 → all_series fs ≡ true → rising [] fs ≡ true → file_read (file_of day fs) ≡ dated day fs
unfolding file_of day_field field_size content_size of_day
reads_back day fs h a r =
    let f : Field = day_field day in
    let rest : List ℕ = fields_bytes fs in
    let bs : List ℕ = ahead f rest in
    let d = day_read day rest h in
    let t = series_read (length bs) 5 [] fs a r (shorter f rest (length bs) (omega arith)) in
    ap file_read (bytes_on f fs)
    ∙ file-series bs (ahead_right true f rest (day_shaped day)) (rw d (lt-ltb day day_count (omega arith)))
    ∙ rw (d, ahead_rest true f rest (day_shaped day), t)

-- ---- when a read is accepted
pub series-bytes : (fs : List Field) → all_series fs ≡ true → length (series_bytes fs) ≡ 12 * length fs
unfolding series_bytes
series-bytes [] a = refl
series-bytes (f ∷ fs) a = omega (arith, length-append f.content (series_bytes fs), (is-series f (all_head f fs a)).long, series-bytes fs (all_tail f fs a))

-- the bytes that a reader hands out determine the list
pub lists_differ : (fs gs : List Field) → all_series fs ≡ true → all_series gs ≡ true → series_bytes fs ≡ series_bytes gs → fs ≡ gs
unfolding series_bytes
lists_differ [] [] a b e = refl
lists_differ [] (g ∷ gs) a b e = absurd (omega (arith, ap length e, series-bytes (g ∷ gs) b))
lists_differ (f ∷ fs) [] a b e = absurd (omega (arith, ap length e, series-bytes (f ∷ fs) a))
lists_differ (f ∷ fs) (g ∷ gs) a b e =
    let s = is-series f (all_head f fs a) in
    let t = is-series g (all_head g gs b) in
    let front : f.content ≡ g.content = sym (take_at f.content (series_bytes fs) 12 s.long) ∙ ap (take 12) e ∙ take_at g.content (series_bytes gs) 12 t.long in
    let rest : series_bytes fs ≡ series_bytes gs = sym (drop_at f.content (series_bytes fs) 12 s.long) ∙ ap (drop 12) e ∙ drop_at g.content (series_bytes gs) 12 t.long in
    let same : f ≡ g = ap (λ (n : ℕ). field n f.content) (s.tagged ∙ sym t.tagged) ∙ ap (field g.tag) front in
    rw (same, lists_differ fs gs (all_tail f fs a) (all_tail g gs b) rest)

pub read-accepted : (day : ℕ) (fs : List Field) (out : List ℕ) → day ≤ 36524 → all_series fs ≡ true → rising [] fs ≡ true → 12 * length fs ≤ length out
    → (read_at (file_of day fs) out ≡ record { number = 0; day = day; series = length fs }) × (read_after (file_of day fs) out ≡ series_bytes fs ++ drop (12 * length fs) out)
unfolding read_at read_after read_number is_faulty day_in series_in cause first_cause
read-accepted day fs out h a r room = rw (reads_back day fs h a r, series-bytes fs a, le-ltb (length out) (12 * length fs) room) (refl, refl)

-- ---- what a refused read tells and leaves, by document 01: zeros but for the place of 31, and the buffer as it was
pub read-refused : (bs out : List ℕ) → (read_number bs out ≡ 0 → ⊥) → (read_after bs out ≡ out) × ((read_at bs out).series ≡ 0)
unfolding read_after read_at
read-refused bs out h = rw (ne_eqb (read_number bs out) 0 h) (refl, refl)

pub short_zeros : (bs out : List ℕ) → read_number bs out ≡ 30 → read_at bs out ≡ record { number = 30; day = 0; series = 0 }
unfolding read_at
short_zeros bs out h = rw h
