-- Reading, one step at a time: a field of the walk, and what a file is behind its day.
-- Assumes nothing.
use mathlib.Core.Path.{◌≡◌, refl, ◌∙◌}
use mathlib.Core.Bool.{true, false}
use mathlib.Core.List.{List, [], ◌∷◌}
use Prim.Native.Nat.{ℕ, zero, suc, ◌+◌, ◌≤◌, ◌<◌}
use native.Mathlib.Omega.{arith}
use lib.Dec.{ltb}
use lib.ListN.{length, get_or, drop, length-append}
use borrow.Author.Tests.{eqb-true}
use Rattle.base.specs.Search.{first_in, some_in}
use Rattle.base.specs.Words.{two, at16}
use Rattle.base.proofs.SearchLaws.{none-at}
use Rattle.dates.specs.Months.{day_count}
use Rattle.fields.specs.Fields.{Field, name_in}
use Rattle.fields.specs.Reading.{tag_stands, content_size, field_size, byte_stands, wrong, front_field, taken, Rest, good, bad, behind, series_from, File, dated, faulty, of_day, file_read}
use Rattle.fields.proofs.Shape.{right, Shaped, ahead, ahead_right, ahead_front, ahead_rest}

-- ---- steps of the walk: a wrong place, a field that is not taken, one that is, and the end
pub step-wrong : (n at : ℕ) (last bs : List ℕ) → 0 < length bs → some_in (wrong false bs) 0 (field_size (get_or bs 0 0)) ≡ true
    → series_from (suc n) at last bs ≡ bad (at + first_in (wrong false bs) 0 (field_size (get_or bs 0 0)))
unfolding series_from
step-wrong n at last [] h e = absurd (omega arith)
step-wrong n at last (b ∷ bs) h e = rw e

pub step_unfit : (n at : ℕ) (last bs : List ℕ) → 0 < length bs → some_in (wrong false bs) 0 (field_size (get_or bs 0 0)) ≡ false → taken last (front_field bs) ≡ false
    → series_from (suc n) at last bs ≡ bad (at + 3)
unfolding series_from
step_unfit n at last [] h e t = absurd (omega arith)
step_unfit n at last (b ∷ bs) h e t = rw (e, t)

pub step-taken : (n at : ℕ) (last bs : List ℕ) → 0 < length bs → some_in (wrong false bs) 0 (field_size (get_or bs 0 0)) ≡ false → taken last (front_field bs) ≡ true
    → series_from (suc n) at last bs ≡ behind (front_field bs) (series_from n (at + field_size (get_or bs 0 0)) (name_in (front_field bs)) (drop (field_size (get_or bs 0 0)) bs))
unfolding series_from
step-taken n at last [] h e t = absurd (omega arith)
step-taken n at last (b ∷ bs) h e t = rw (e, t)

pub none-good : (n at : ℕ) (last : List ℕ) → series_from n at last [] ≡ good []
unfolding series_from
none-good zero at last = refl
none-good (suc n) at last = refl

pub spent : (at : ℕ) (last : List ℕ) (b : ℕ) (bs : List ℕ) → series_from 0 at last (b ∷ bs) ≡ bad at
unfolding series_from
spent at last b bs = refl

-- a field that is taken, written before others
pub step-good : (n at : ℕ) (last : List ℕ) (f : Field) (rest : List ℕ) → Shaped false f → taken last f ≡ true
    → series_from (suc n) at last (ahead f rest) ≡ behind f (series_from n (at + field_size f.tag) (name_in f) rest)
step-good n at last f rest s t =
    step-taken n at last (ahead f rest) (omega arith) (ahead_right false f rest s) (rw (ahead_front false f rest s) t)
    ∙ rw (ahead_front false f rest s, ahead_rest false f rest s)

pub shorter : (f : Field) (rest : List ℕ) (n : ℕ) → length (ahead f rest) ≤ suc n → length rest ≤ n
unfolding two
shorter f rest n h = omega (arith, length-append f.content rest)

-- ---- the whole file: a wrong place in the day's field, a day that there is not, and series behind one that there is
pub file-wrong : (bs : List ℕ) → some_in (wrong true bs) 0 5 ≡ true → file_read bs ≡ faulty (first_in (wrong true bs) 0 5)
unfolding file_read field_size content_size
file-wrong bs e = rw e

pub file_late : (bs : List ℕ) → some_in (wrong true bs) 0 5 ≡ false → ltb (at16 bs 3) day_count ≡ false → file_read bs ≡ faulty 3
unfolding file_read field_size content_size
file_late bs e d = rw (e, d)

pub file-series : (bs : List ℕ) → some_in (wrong true bs) 0 5 ≡ false → ltb (at16 bs 3) day_count ≡ true
    → file_read bs ≡ of_day (at16 bs 3) (series_from (length bs) 5 [] (drop 5 bs))
unfolding file_read field_size content_size
file-series bs e d = rw (e, d)

-- a day's field without a wrong place
module _ (bs : List ℕ) (w : some_in (wrong true bs) 0 5 ≡ false) where
  pub day-room : 5 ≤ length bs
  day-room = (right true bs 4 (none-at (wrong true bs) 5 w 4 (omega arith))).0

  pub day-tag : get_or bs 0 0 ≡ 1
  unfolding tag_stands byte_stands
  day-tag = eqb-true (get_or bs 0 0) 1 (right true bs 0 (none-at (wrong true bs) 5 w 0 (omega arith))).1

  pub day_right : some_in (wrong true bs) 0 (field_size (get_or bs 0 0)) ≡ false
  unfolding field_size content_size
  day_right = rw day-tag w

-- ---- a list is no place; what stands behind a field, and behind the day
pub not-bad : {X : Type 0} (place : ℕ) (t : Rest) (fs : List Field) → t ≡ bad place → t ≡ good fs → X
not-bad place t fs e g = let z : ◌≡◌ {A = ℕ} 0 1 = cc in absurd (omega arith)

pub not-faulty : {X : Type 0} (place day : ℕ) (t : File) (fs : List Field) → t ≡ faulty place → t ≡ dated day fs → X
not-faulty place day t fs e g = let z : ◌≡◌ {A = ℕ} 0 1 = cc in absurd (omega arith)

pub behind-on : (f : Field) (fs : List Field) → behind f (good fs) ≡ good (f ∷ fs)
unfolding behind
behind-on f fs = refl

pub behind-good : (f : Field) (t : Rest) (fs : List Field) → behind f t ≡ good fs → (gs : List Field) × (t ≡ good gs) × (f ∷ gs ≡ fs)
unfolding behind
behind-good f (good gs) fs e = (gs, refl, cc)
behind-good f (bad place) fs e = not-bad place (bad place) fs refl e

pub dated-good : (d : ℕ) (t : Rest) (day : ℕ) (fs : List Field) → of_day d t ≡ dated day fs → (d ≡ day) × (t ≡ good fs)
unfolding of_day
dated-good d (good gs) day fs e = (cc, cc)
dated-good d (bad place) day fs e = not-faulty place day (faulty place) fs refl e
