-- The bytes of a file as they are put: part behind part, a series, a row more, a type, the whole.
-- Assumes nothing.
use mathlib.Core.Path.{◌≡◌, refl, sym, ap, ◌∙◌}
use mathlib.Core.Bool.{true}
use mathlib.Core.List.{List, [], ◌∷◌, ◌++◌, append_assoc, append-nil}
use Prim.Native.Nat.{ℕ, ◌+◌, ◌-◌, ◌*◌, ◌≤◌, ◌<◌}
use native.Mathlib.Omega.{arith}
use lib.Dec.{eqb}
use lib.ListN.{length, get_or, take, drop, set, length-append}
use lib.Seq.{sets-eq, set_at, take_at, drop_at, drop-cons, drop-drop}
use borrow.Rule.Slice.PartMut.{put_mid}
use Rattle.base.specs.Words.{two, at16}
use Rattle.base.proofs.Parts.{whole_part, put_rest}
use Rattle.layout.specs.Rows.{Row}
use Rattle.layout.specs.Bytes.{row_of}
use Rattle.fields.specs.Fields.{Field, fields_bytes, day_field, series_field, file_of}
use Rattle.fields.proofs.Laws.{fields-append}
use Rattle.naming.specs.DayFile.{new_rows, series_of}
use Rattle.naming.specs.Parts.{sequence}
use Rattle.naming.proofs.Rises.{both}
use Rattle.naming.proofs.Sequence.{series-append, series-bytes}
use Rattle.naming.proofs.NewRows.{new_in, new_split, new-here, one_more}

-- what is put into the rest of a buffer whose front is written, said of the whole
pub put-behind : (start front bytes : List ℕ) (n : ℕ) → bytes ≡ front ++ drop n start → length front ≡ n
    → (new last : List ℕ) (m : ℕ) → last ≡ new ++ drop m (take (length bytes - n) (drop n bytes))
    → put_mid n (length bytes - n) bytes last ≡ (front ++ new) ++ drop (n + m) start
put-behind start front bytes n e l new last m w =
    put_rest n bytes last
    ∙ rw (w, whole_part n bytes, e, take_at front (drop n start) n l, drop_at front (drop n start) n l, drop-drop m n start, append_assoc)

-- ---- a series: tag, length, name and origin
module _ (name : List ℕ) (origin : ℕ) (eleven : length name ≡ 11) where
  abbrev head : List ℕ
  head = 2 ∷ 12 ∷ 0 ∷ name

  one_bytes : fields_bytes (series_field name origin ∷ []) ≡ head ++ (origin ∷ [])
  unfolding fields_bytes series_field two
  one_bytes =
      let e : length (name ++ (origin ∷ [])) ≡ 12 = omega (arith, length-append name (origin ∷ []), eleven) in
      rw (append-nil, e)

  -- as it is stored: tag and length, the name behind them, the origin
  pub stored : (part : List ℕ) → 15 ≤ length part
      → set (put_mid 3 11 (set (set (set part 0 2) 1 12) 2 0) name) 14 origin ≡ fields_bytes (series_field name origin ∷ []) ++ drop 15 part
  stored part h =
      let front : set (set (set part 0 2) 1 12) 2 0 ≡ (2 ∷ 12 ∷ 0 ∷ []) ++ drop 3 part = sets-eq (2 ∷ 12 ∷ 0 ∷ []) part 0 (omega arith) in
      let named : put_mid 3 11 (set (set (set part 0 2) 1 12) 2 0) name ≡ head ++ (get_or part 14 0 ∷ drop 15 part) = rw (front, drop-drop 11 3 part, drop-cons part 14 0 h) in
      ap (λ (z : List ℕ). set z 14 origin) named
      ∙ set_at head (get_or part 14 0) (drop 15 part) origin 14 (omega (arith, eleven))
      ∙ sym (ap (λ (z : List ℕ). z ++ drop 15 part) one_bytes ∙ append_assoc head (origin ∷ []) (drop 15 part))

-- ---- the series of some rows
abbrev pub series_bytes : ℕ → List Row → List ℕ
series_bytes kind rs = fields_bytes (series_of kind rs)

pub series-length : (kind : ℕ) (rs : List Row) → length (series_bytes kind rs) ≡ 15 * length rs
unfolding fields_bytes
series-length kind rs = omega (arith, rw append-nil at (series-bytes kind rs []))

-- one row more
module _ (kind day : ℕ) (xs : List (List ℕ)) (i : ℕ) (h : i < length xs) (e : eqb (at16 (get_or xs i []) 4) day ≡ true) where
  pub series-here : series_bytes kind (new_in day (take (i + 1) xs)) ≡ series_bytes kind (new_in day (take i xs)) ++ series_bytes kind (row_of (get_or xs i []) ∷ [])
  series-here =
      let r : Row = row_of (get_or xs i []) in
      ap (series_bytes kind) (new-here day xs i h e)
      ∙ ap fields_bytes (series-append kind (new_in day (take i xs)) (r ∷ []))
      ∙ fields-append (series_of kind (new_in day (take i xs))) (series_of kind (r ∷ []))

  -- it has room where all have
  pub here_in : 15 * length (new_in day (take i xs)) + 15 ≤ 15 * length (new_in day xs)
  here_in = omega (arith, one_more day xs i h e, new_split day xs (i + 1))

-- ---- a whole file: its day, calls and puts, each of the later rows and then of the others
abbrev pub type_bytes : ℕ → List Row → List Row → List ℕ
type_bytes kind earlier later = fields_bytes (both earlier later kind)

pub type_parts : (kind : ℕ) (earlier later : List Row) → type_bytes kind earlier later ≡ series_bytes kind later ++ series_bytes kind earlier
type_parts kind earlier later = fields-append (series_of kind later) (series_of kind earlier)

pub type-length : (kind : ℕ) (earlier later : List Row) → length (type_bytes kind earlier later) ≡ 15 * (length earlier + length later)
type-length kind earlier later = omega (arith, series-bytes kind later (series_of kind earlier), series-length kind earlier)

pub day-length : (day : ℕ) → length (fields_bytes (day_field day ∷ [])) ≡ 5
unfolding fields_bytes day_field two
day-length day = refl

pub file_parts : (day : ℕ) (earlier later : List Row)
    → file_of day (sequence day earlier later)
    ≡ (fields_bytes (day_field day ∷ []) ++ type_bytes 0 (new_rows day earlier) (new_rows day later)) ++ type_bytes 1 (new_rows day earlier) (new_rows day later)
unfolding file_of sequence
file_parts day earlier later =
    let calls : List Field = both (new_rows day earlier) (new_rows day later) 0 in
    let puts : List Field = both (new_rows day earlier) (new_rows day later) 1 in
    ap (λ (fs : List Field). fields_bytes (day_field day ∷ fs)) (sym (append_assoc (series_of 0 (new_rows day later)) (series_of 0 (new_rows day earlier)) puts))
    ∙ fields-append (day_field day ∷ calls) puts
    ∙ ap (λ (z : List ℕ). z ++ fields_bytes puts) (fields-append (day_field day ∷ []) calls)
