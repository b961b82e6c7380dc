-- Document 02, C-11: a file of series, read: the day, the number of series and the list, with the causes 31 and 30.
-- Assumes nothing.
use Rattle.std.specs.Prelude.{Bool, true, false, cond, not, ◌&&◌, ◌||◌, List, [], ◌∷◌, ◌++◌, ℕ, zero, suc, ◌+◌, ◌-◌, eqb, ltb, length, get_or, take, drop, Result, Ok, Err}
use Rattle.base.specs.Search.{first_in, some_in}
use Rattle.base.specs.Lists.{elem, within}
use Rattle.base.specs.Causes.{cause, first_cause}
use Rattle.base.specs.Words.{at16}
use Rattle.base.specs.Numbers.{number_of, beside_of}
use Rattle.base.specs.declared.causes.Cause.{Cause}
use Rattle.base.specs.declared.Tier.TheVariants.{N}
use Rattle.dates.specs.Months.{day_count}
use Rattle.grid.specs.Grid.{grid_of}
use Rattle.names.specs.Names.{name_length, can_stand, price_read}
use Rattle.fields.specs.Fields.{Field, field, name_in, below}
use Rattle.fields.specs.declared.Contents.{Contents}
use Rattle.fields.specs.declared.Filed.{Filed}

-- ---- which bytes can stand where

-- the first field holds the day, the others series
unfoldable pub tag_stands : Bool → ℕ → Bool
tag_stands first tag = eqb tag (cond first 1 2)

-- how many bytes of content a tag has; a tag that is not known has none
unfoldable pub content_size : ℕ → ℕ
content_size tag = cond (eqb tag 1) 2 (cond (eqb tag 2) 12 0)

-- tag, length and content
unfoldable pub field_size : ℕ → ℕ
field_size tag = 3 + content_size tag

-- byte b can stand at place i of a tag's content: in a day any, in a series those of a name and then an origin from 1 to 5
unfoldable pub content_stands : ℕ → ℕ → ℕ → Bool
content_stands tag i b = cond (eqb tag 1) true (cond (ltb i name_length) (can_stand i b) (within 1 5 b))

-- byte b can stand at place j of a field with this tag
unfoldable pub byte_stands : Bool → ℕ → ℕ → ℕ → Bool
byte_stands first tag j b =
    cond (eqb j 0) (tag_stands first b)
    (cond (eqb j 1) (eqb b (content_size tag))
    (cond (eqb j 2) (eqb b 0)
    (content_stands tag (j - 3) b)))

-- at place j of the field at the front of some bytes these have ended, or have a byte that cannot stand there
unfoldable pub wrong : Bool → List ℕ → ℕ → Bool
wrong first bs j = not (ltb j (length bs)) || not (byte_stands first (get_or bs 0 0) j (get_or bs j 0))

-- ---- fields one behind the other

-- the field at the front of some bytes
unfoldable pub front_field : List ℕ → Field
front_field bs = field (get_or bs 0 0) (take (content_size (get_or bs 0 0)) (drop 3 bs))

-- the price is on grid N and the name above the one before
unfoldable pub taken : List ℕ → Field → Bool
taken last f = elem (price_read (name_in f)) (grid_of N) && below last (name_in f)

-- a list of fields, or the place told
pub data Rest : Type 0 where
  good : List Field → Rest
  bad : ℕ → Rest

unfoldable pub behind : Field → Rest → Rest
behind f (good fs) = good (f ∷ fs)
behind f (bad place) = bad place

-- the series in the bytes from a place of the file on, behind a name, at most n of them. In each field the first place that
-- is wrong is told; a whole field without such a place is judged by its content, and told by that content's first byte
unfoldable pub series_from : ℕ → ℕ → List ℕ → List ℕ → Rest
series_from zero at last [] = good []
series_from zero at last (b ∷ bs) = bad at
series_from (suc n) at last [] = good []
series_from (suc n) at last (b ∷ bs) =
    let f : Field = front_field (b ∷ bs) in
    let size : ℕ = field_size b in
    cond (some_in (wrong false (b ∷ bs)) 0 size) (bad (at + first_in (wrong false (b ∷ bs)) 0 size))
    (cond (taken last f) (behind f (series_from n (at + size) (name_in f) (drop size (b ∷ bs)))) (bad (at + 3)))

-- ---- a file

-- a day and its series, or the place told
pub data File : Type 0 where
  dated : ℕ → List Field → File
  faulty : ℕ → File

unfoldable pub of_day : ℕ → Rest → File
of_day day (good fs) = dated day fs
of_day day (bad place) = faulty place

-- the day's field, and behind it the series: no more of them than bytes
unfoldable pub file_read : List ℕ → File
file_read bs =
    cond (some_in (wrong true bs) 0 (field_size 1)) (faulty (first_in (wrong true bs) 0 (field_size 1)))
    (cond (ltb (at16 bs 3) day_count) (of_day (at16 bs 3) (series_from (length bs) (field_size 1) [] (drop (field_size 1) bs))) (faulty 3))

-- ---- what a reader answers

unfoldable pub is_faulty : File → Bool
is_faulty (dated day fs) = false
is_faulty (faulty place) = true

unfoldable pub place_in : File → ℕ
place_in (dated day fs) = 0
place_in (faulty place) = place

unfoldable pub day_in : File → ℕ
day_in (dated day fs) = day
day_in (faulty place) = 0

unfoldable pub series_in : File → List Field
series_in (dated day fs) = fs
series_in (faulty place) = []

-- the series at 12 bytes each
unfoldable pub series_bytes : List Field → List ℕ
series_bytes [] = []
series_bytes (f ∷ fs) = f.content ++ series_bytes fs

-- what a file alone answers: day and number of series, or 31 and the place
unfoldable pub checked_of : File → Contents
checked_of file = record {
  number = cause (is_faulty file) 31;
  day = cond (is_faulty file) (place_in file) (day_in file);
  series = length (series_in file);
}

unfoldable pub read_number : List ℕ → List ℕ → ℕ
read_number bs out =
    first_cause
    (cause (is_faulty (file_read bs)) 31
    ∷ cause (ltb (length out) (length (series_bytes (series_in (file_read bs))))) 30
    ∷ [])

-- beside 0 the day and the number of series, beside 31 the place, beside 30 zeros
unfoldable pub read_at : List ℕ → List ℕ → Contents
read_at bs out =
    let n : ℕ = read_number bs out in
    let file : File = file_read bs in
    record {
      number = n;
      day = cond (eqb n 0) (day_in file) (cond (eqb n 31) (place_in file) 0);
      series = cond (eqb n 0) (length (series_in file)) 0;
    }

-- the same of a result: the day and the number of series, or a cause's number and what is told beside it
abbrev pub contents_of : Result Filed Cause → Contents
contents_of (Ok filed) = record { number = 0; day = filed.day; series = filed.series }
contents_of (Err c) = record { number = number_of c; day = beside_of c; series = 0 }

-- the output buffer after a read: the series before its other bytes, or what it was
unfoldable pub read_after : List ℕ → List ℕ → List ℕ
read_after bs out =
    let list : List ℕ = series_bytes (series_in (file_read bs)) in
    cond (eqb (read_number bs out) 0) (list ++ drop (length list) out) out
