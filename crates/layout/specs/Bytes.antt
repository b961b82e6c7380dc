-- Document 01, "The register": its 11,264 bytes, written and read. Two-byte numbers have their low byte first.
-- Assumes nothing.
use Rattle.std.specs.Prelude.{Bool, true, false, cond, ◌&&◌, List, [], ◌∷◌, ◌++◌, ℕ, zero, suc, ◌-◌, eqb, length, get_or, drop, replicate}
use Rattle.rules.specs.Rules.{Moment}
use Rattle.layout.specs.Rows.{Row, row}
use Rattle.layout.specs.Register.{Body, Reg, empty, running}
use Rattle.base.specs.Words.{at16, two}

-- its length, and how many rows may stand
abbrev pub register_length : ℕ
register_length = 11264

abbrev pub most_rows : ℕ
most_rows = 1391

-- where the announcements begin, and how many bytes their 32 places of 4 take
abbrev pub places_from : ℕ
places_from = 8

abbrev pub places_length : ℕ
places_length = 128

-- where the rows begin, and how many bytes 1,391 places of 8 take
abbrev pub rows_from : ℕ
rows_from = 136

abbrev pub rows_length : ℕ
rows_length = 11128

-- ---- written

-- announcements: month, then price
unfoldable pub places_bytes : List (ℕ × ℕ) → List ℕ
places_bytes [] = []
places_bytes (w ∷ ws) = two w.0 (two w.1 (places_bytes ws))

-- rows of 8 bytes: month, price, first day, origin, zero
unfoldable pub rows_bytes : List Row → List ℕ
rows_bytes [] = []
rows_bytes (r ∷ rs) = two r.month (two r.price (two r.entry.first (r.entry.origin ∷ 0 ∷ rows_bytes rs)))

-- n bytes: the list, and zeros in the unused places behind it
unfoldable pub padded : ℕ → List ℕ → List ℕ
padded n xs = xs ++ replicate (n - length xs) 0

-- byte 0 status, byte 1 announcements waiting, bytes 2–3 day, bytes 4–5 row count, bytes 6–7 zero, bytes 8–135 32 places
-- of 4 bytes, from byte 136 rows
unfoldable pub body_bytes : Body → List ℕ
body_bytes b =
    1
    ∷ length b.waiting
    ∷ two b.at.day (two (length b.rows) (0 ∷ 0 ∷ (padded places_length (places_bytes b.waiting) ++ padded rows_length (rows_bytes b.rows))))

unfoldable pub bytes_of : Reg → List ℕ
bytes_of empty = replicate register_length 0
bytes_of (running b) = body_bytes b

-- ---- read

-- an announcement in its four bytes, a row in its eight
abbrev pub place_of : List ℕ → ℕ × ℕ
place_of bs = (at16 bs 0, at16 bs 2)

abbrev pub row_of : List ℕ → Row
row_of bs = row (at16 bs 0) (at16 bs 2) (record { first = at16 bs 4; origin = get_or bs 6 0 })

unfoldable pub read_places : ℕ → List ℕ → List (ℕ × ℕ)
read_places zero bs = []
read_places (suc n) bs = place_of bs ∷ read_places n (drop 4 bs)

unfoldable pub read_rows : ℕ → List ℕ → List Row
read_rows zero bs = []
read_rows (suc n) bs = row_of bs ∷ read_rows n (drop 8 bs)

-- a moment is read here alone
unfoldable pub moment_of : List ℕ → Moment
moment_of bs = record { day = at16 bs 2 }

unfoldable pub body_of : List ℕ → Body
body_of bs = record {
  at = moment_of bs;
  waiting = read_places (get_or bs 1 0) (drop places_from bs);
  rows = read_rows (at16 bs 4) (drop rows_from bs);
}

unfoldable pub all_zero : List ℕ → Bool
all_zero [] = true
all_zero (x ∷ xs) = eqb x 0 && all_zero xs

unfoldable pub reg_of : List ℕ → Reg
reg_of bs = cond (all_zero bs) empty (running (body_of bs))

unfoldable pub same_bytes : List ℕ → List ℕ → Bool
same_bytes [] [] = true
same_bytes [] (y ∷ ys) = false
same_bytes (x ∷ xs) [] = false
same_bytes (x ∷ xs) (y ∷ ys) = eqb x y && same_bytes xs ys

-- the bytes keep the layout: they are what is written of what is read
unfoldable pub in_layout : List ℕ → Bool
in_layout bs = same_bytes bs (bytes_of (reg_of bs))
