-- Document 02, C-11, the places of cause 31 as its sentence words them: "the lowest of these places: a byte that cannot stand there (in
-- a day any can); the first content byte of a whole field without such a byte whose day is above 36,524, price off grid N or name not
-- above the one before; the length where the bytes end early". The place that a reader tells is the lowest of them, by the law
-- place-lowest; no contract cites this file.
-- Assumes nothing.
use Rattle.std.specs.Prelude.{Bool, cond, not, ◌&&◌, ◌||◌, List, [], ℕ, zero, suc, ◌+◌, ◌-◌, eqb, ltb, leb, length, get_or, drop}
use Rattle.base.specs.Search.{some_in}
use Rattle.base.specs.Words.{at16}
use Rattle.fields.specs.Fields.{name_in}
use Rattle.fields.specs.Reading.{field_size, byte_stands, front_field, taken}

-- ---- the fields of some bytes, counted from 0: each begins where the one before ends, by the size that its tag tells

-- the size of the k-th field, which stands at the front of some bytes; the first is the day's
unfoldable pub size_of : ℕ → List ℕ → ℕ
size_of k bs = field_size (cond (eqb k 0) 1 (get_or bs 0 0))

unfoldable pub start_of : List ℕ → ℕ → ℕ
start_of bs zero = 0
start_of bs (suc k) = start_of bs k + size_of k (drop (start_of bs k) bs)

abbrev pub end_of : List ℕ → ℕ → ℕ
end_of bs k = start_of bs (suc k)

-- there is a k-th field, whole or not; the day's there must be
unfoldable pub has_field : List ℕ → ℕ → Bool
has_field bs k = eqb k 0 || ltb (start_of bs k) (length bs)

-- the name before the k-th field; before the first series there is none
unfoldable pub name_before : List ℕ → ℕ → List ℕ
name_before bs zero = []
name_before bs (suc zero) = []
name_before bs (suc (suc k)) = name_in (front_field (drop (start_of bs (suc k)) bs))

-- ---- the three sorts of places

-- a byte that cannot stand there: at place q, in the k-th field
unfoldable pub cannot_stand : List ℕ → ℕ → ℕ → Bool
cannot_stand bs k q =
    leb (start_of bs k) q
    && (ltb q (end_of bs k)
    && (ltb q (length bs)
    && not (byte_stands (eqb k 0) (get_or bs (start_of bs k) 0) (q - start_of bs k) (get_or bs q 0))))

-- a whole field without such a byte
unfoldable pub clean_field : List ℕ → ℕ → Bool
clean_field bs k = leb (end_of bs k) (length bs) && not (some_in (cannot_stand bs k) 0 (end_of bs k))

-- its day is up to 36,524, or its price on grid N and its name above the one before
unfoldable pub content_fits : List ℕ → ℕ → Bool
content_fits bs k = cond (eqb k 0) (leb (at16 bs 3) 36524) (taken (name_before bs k) (front_field (drop (start_of bs k) bs)))

-- place q is one of these, of the k-th field
unfoldable pub field_place : List ℕ → ℕ → ℕ → Bool
field_place bs k q =
    has_field bs k
    && (cannot_stand bs k q
    || ((eqb q (start_of bs k + 3) && (clean_field bs k && not (content_fits bs k)))
    || (eqb q (length bs) && ltb (length bs) (end_of bs k))))

-- a place of any of the fields; there are no more of them than bytes, but for the day's
unfoldable pub is_place : List ℕ → ℕ → Bool
is_place bs q = some_in (λ k. field_place bs k q) 0 (suc (length bs))
