-- The series of some rows: how many they are, and how many bytes. Those of two years are arranged by name in the sequence in which they
-- are written.
-- Assumes nothing.
use mathlib.Core.Path.{◌≡◌, refl, sym, ap, ◌∙◌}
use mathlib.Core.Bool.{true}
use mathlib.Core.List.{List, [], ◌∷◌, ◌++◌, append-nil}
use Prim.Native.Nat.{ℕ, suc, ◌+◌, ◌*◌}
use native.Mathlib.Omega.{arith}
use lib.ListN.{length, length-append}
use Rattle.base.specs.Words.{two}
use Rattle.names.specs.Names.{name_of}
use Rattle.names.proofs.NameLaws.{name-length}
use Rattle.layout.specs.Rows.{Row}
use Rattle.fields.specs.Fields.{Field, series_field, below, fields_bytes, day_field, file_of}
use Rattle.fields.specs.Arranged.{arranged}
use Rattle.fields.proofs.Arranged.{lookup, above, arranged_is, swapped, found-append}
use Rattle.naming.specs.DayFile.{new_rows, series_of}
use Rattle.naming.specs.Parts.{sequence}
use Rattle.naming.proofs.Rises.{name-in, both, TwoYears, type_rises, all_rise}

-- ---- series of rows
pub series-append : (k : ℕ) (xs ys : List Row) → series_of k (xs ++ ys) ≡ series_of k xs ++ series_of k ys
unfolding series_of
series-append k [] ys = refl
series-append k (x ∷ xs) ys = rw (series-append k xs ys)

name_some : (m k p : ℕ) → below [] (name_of m k p) ≡ true
unfolding below name_of
name_some m k p = refl

series_above : (k : ℕ) (rs : List Row) (rest : List Field) → above [] rest ≡ true → above [] (series_of k rs ++ rest) ≡ true
unfolding series_of above
series_above k [] rest h = h
series_above k (r ∷ rs) rest h = rw (name-in r.month k r.price r.entry.origin, name_some r.month k r.price) (series_above k rs rest h)

pub all_above : (rs : List Row) → above [] (series_of 0 rs ++ series_of 1 rs) ≡ true
unfolding above
all_above rs = series_above 0 rs (series_of 1 rs) (rw append-nil at (series_above 1 rs [] refl))

pub series-count : (k : ℕ) (rs : List Row) → length (series_of k rs) ≡ length rs
unfolding series_of
series-count k [] = refl
series-count k (r ∷ rs) = ap suc (series-count k rs)

pub series-bytes : (k : ℕ) (rs : List Row) (rest : List Field) → length (fields_bytes (series_of k rs ++ rest)) ≡ 15 * length rs + length (fields_bytes rest)
unfolding series_of fields_bytes series_field two
series-bytes k [] rest = omega arith
series-bytes k (r ∷ rs) rest = simp (length-append, name-length, series-bytes k rs rest) (omega arith)

pub file_bytes : (day : ℕ) (fs : List Field) → length (file_of day fs) ≡ 5 + length (fields_bytes fs)
unfolding file_of fields_bytes day_field two
file_bytes day fs = omega arith

pub sequence_bytes : (day : ℕ) (earlier later : List Row) → length (fields_bytes (sequence day earlier later)) ≡ 30 * (length (new_rows day earlier) + length (new_rows day later))
unfolding sequence fields_bytes
sequence_bytes day earlier later =
    let e : List Row = new_rows day earlier in
    let l : List Row = new_rows day later in
    let last = series-bytes 1 e [] in
    series-bytes 0 l (series_of 0 e ++ (series_of 1 l ++ series_of 1 e)) ∙ rw (series-bytes 0 e (series_of 1 l ++ series_of 1 e), series-bytes 1 l (series_of 1 e)) (omega (arith, rw append-nil at last))

-- ---- rows of two years
module _ (y c : ℕ) (earlier later : List Row) (w : TwoYears y c earlier later) where
  abbrev rows : List Row
  rows = earlier ++ later

  -- each name has the same field, whichever year comes first
  same_type : (k : ℕ) (n : List ℕ) → lookup n (series_of k rows) ≡ lookup n (both earlier later k)
  same_type k n = rw (series-append k earlier later) (swapped [] n (series_of k later) (series_of k earlier) (type_rises y c earlier later w k))

  same_fields : (n : List ℕ) → lookup n (series_of 0 rows ++ series_of 1 rows) ≡ lookup n (both earlier later 0 ++ both earlier later 1)
  same_fields n = found-append n (series_of 0 rows) (series_of 1 rows) ∙ rw (same_type 0 n, same_type 1 n) (sym (found-append n (both earlier later 0) (both earlier later 1)))

  pub arranged_years : arranged (series_of 0 rows ++ series_of 1 rows) ≡ both earlier later 0 ++ both earlier later 1
  arranged_years = arranged_is [] (series_of 0 rows ++ series_of 1 rows) (both earlier later 0 ++ both earlier later 1) (all_above rows) (all_rise y c earlier later w) same_fields
