-- Document 02, C-11: a file of series, written: tagged fields, each a one-byte tag, a two-byte length, the content.
-- Assumes nothing.
use Rattle.std.specs.Prelude.{Bool, true, false, ◌&&◌, ◌||◌, List, [], ◌∷◌, ◌++◌, ℕ, eqb, ltb, length, get_or, take}
use Rattle.base.specs.Words.{two}
use Rattle.base.specs.Lists.{within}
use Rattle.names.specs.Names.{name_length, read_cause}

pub record Field : Type 0 where
  pub tag : ℕ
  pub content : List ℕ

abbrev pub field : ℕ → List ℕ → Field
field tag content = record { tag = tag; content = content }

-- fields one behind the other
unfoldable pub fields_bytes : List Field → List ℕ
fields_bytes [] = []
fields_bytes (f ∷ fs) = f.tag ∷ two (length f.content) (f.content ++ fields_bytes fs)

-- tag 1 holds a day, two bytes
unfoldable pub day_field : ℕ → Field
day_field day = field 1 (two day [])

-- tag 2 holds a series: the 11-byte name and the origin
unfoldable pub series_field : List ℕ → ℕ → Field
series_field name origin = field 2 (name ++ (origin ∷ []))

-- the file of a day and a list of series
unfoldable pub file_of : ℕ → List Field → List ℕ
file_of day fs = fields_bytes (day_field day ∷ fs)

-- ---- which lists a file is written of

-- the name and the origin that a series' field has
unfoldable pub name_in : Field → List ℕ
name_in f = take name_length f.content

unfoldable pub origin_in : Field → ℕ
origin_in f = get_or f.content name_length 0

-- the field of a series: 12 bytes, a name that document 01 reads as a series, an origin from 1 to 5
unfoldable pub is_series : Field → Bool
is_series f = eqb f.tag 2 && (eqb (length f.content) 12 && (eqb (read_cause (name_in f)) 0 && within 1 5 (origin_in f)))

unfoldable pub all_series : List Field → Bool
all_series [] = true
all_series (f ∷ fs) = is_series f && all_series fs

-- xs lies below ys by byte value: the first byte that differs decides, and what ends lies below what goes on
unfoldable pub below : List ℕ → List ℕ → Bool
below xs [] = false
below [] (y ∷ ys) = true
below (x ∷ xs) (y ∷ ys) = ltb x y || (eqb x y && below xs ys)

-- names ascend strictly, the first above a name; every name is above []
unfoldable pub rising : List ℕ → List Field → Bool
rising last [] = true
rising last (f ∷ fs) = below last (name_in f) && rising (name_in f) fs
