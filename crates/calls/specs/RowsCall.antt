-- Document 01, "Calls" and "Causes and what they yield": the rows call, a pair over the same inputs.
-- Assumes nothing.
use Rattle.std.specs.Prelude.{cond, not, List, [], ◌∷◌, ℕ, ◌+◌, ◌*◌, eqb, ltb, length}
use Rattle.std.specs.Borrow.{Bor}
use Rattle.base.specs.Lists.{elem}
use Rattle.base.specs.Causes.{cause, first_cause}
use Rattle.rules.specs.Rules.{Rules}
use Rattle.layout.specs.Rows.{Row}
use Rattle.layout.specs.Register.{Reg, empty, running}
use Rattle.layout.specs.Bytes.{rows_from, rows_bytes, body_of, reg_of}
use Rattle.layout.specs.Opening.{opened}
use Rattle.calls.specs.declared.Place.{Place}

-- the rows of a month
unfoldable pub month_rows : ℕ → List Row → List Row
month_rows m [] = []
month_rows m (r ∷ rs) = cond (eqb r.month m) (r ∷ month_rows m rs) (month_rows m rs)

-- the rows of the months before a month
unfoldable pub earlier_rows : ℕ → List Row → List Row
earlier_rows m [] = []
earlier_rows m (r ∷ rs) = cond (ltb r.month m) (r ∷ earlier_rows m rs) (earlier_rows m rs)

module _ (R : Rules) where
  unfoldable pub rows_cause : ℕ → Reg → ℕ
  rows_cause m empty = 17
  rows_cause m (running b) = first_cause (cause (not (elem m (R.live b.at))) 26 ∷ [])

  unfoldable pub rows_number : List ℕ → ℕ → ℕ
  rows_number bs m = opened R bs (rows_cause m (reg_of bs))

  -- the part: the bytes of the month's rows; for every refusal none
  unfoldable pub rows_part : List ℕ → ℕ → List ℕ
  rows_part bs m = cond (eqb (rows_number bs m) 0) (rows_bytes (month_rows m (body_of bs).rows)) []

  -- the call in one: the number, and where the part lies. Rows ascend by month, so the month's rows stand
  -- behind those of the months before it; for every refusal the part is the empty one at byte 0
  unfoldable pub rows_place : List ℕ → ℕ → Place
  rows_place bs m =
      let n : ℕ = rows_number bs m in
      let rows : List Row = (body_of bs).rows in
      record {
        number = n;
        at = cond (eqb n 0) (rows_from + 8 * length (earlier_rows m rows)) 0;
        size = cond (eqb n 0) (8 * length (month_rows m rows)) 0;
      }

-- the pointer to the byte of a slice at a place: the slice's block, and so many bytes behind its start
abbrev pub pointer_to : Bor (List ℕ) → ℕ → ℕ × ℕ
pointer_to bytes at = (bytes.ref_ptr.0, bytes.ref_ptr.1 + at)
