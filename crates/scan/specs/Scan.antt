-- How the code goes along a register's rows, ladder behind ladder. Contracts of leaves cite this file.
-- Assumes nothing.
use Rattle.std.specs.Prelude.{Bool, cond, Option, Some, None, ◌&&◌, List, [], ◌∷◌, ◌++◌, ℕ, zero, suc, ◌+◌, ◌-◌, ◌*◌, eqb, ltb, drop}
use Rattle.base.specs.Lists.{elem}
use Rattle.base.specs.declared.Tier.{Tier}
use Rattle.calendar.specs.Live.{tier_of}
use Rattle.grid.specs.Grid.{grid_of}
use Rattle.grid.specs.Numbers.{stride, band_step}
use Rattle.layout.specs.Rows.{Row, row, entry_ok}
use Rattle.base.specs.Words.{at16}

-- a row as it is scanned. The byte behind the origin is taken with it: where it is not zero, the origin is not one of the five
abbrev pub scanned : List ℕ → Row
scanned bs = row (at16 bs 0) (at16 bs 2) (record { first = at16 bs 4; origin = at16 bs 6 })

-- the first n rows of some bytes
unfoldable pub rows_at : ℕ → List ℕ → List Row
rows_at zero bs = []
rows_at (suc n) bs = scanned bs ∷ rows_at n (drop 8 bs)

-- the row of a month at a price, with an entry that can stand on a day
unfoldable pub fitting : ℕ → ℕ → ℕ → Row → Bool
fitting day m p r = eqb r.month m && (eqb r.price p && entry_ok day r.entry)

-- how many rows go up a month's ladder from price p on, at a stride
unfoldable pub climbed : ℕ → ℕ → ℕ → ℕ → List Row → ℕ
climbed day m s p [] = 0
climbed day m s p (r ∷ rs) = cond (ltb p 10000 && fitting day m p r) (suc (climbed day m s (p + s * band_step p) rs)) 0

-- the price of the first row, 0 where there is none
unfoldable pub head_price : List Row → ℕ
head_price [] = 0
head_price (r ∷ rs) = r.price

-- how many rows stand first that are a month's ladder on its tier's grid
unfoldable pub ladder_rows : ℕ → ℕ → Tier → List Row → ℕ
ladder_rows day m t rs = cond (elem (head_price rs) (grid_of t)) (climbed day m (stride t) (head_price rs) rs) 0

-- that many rows; none where it is 0
abbrev pub some_rows : ℕ → Option ℕ
some_rows n = cond (eqb n 0) None (Some n)

-- the spans found before, and those of some months whose ladders are the rows; none where they are not
unfoldable pub ladder_spans : ℕ → ℕ → List (List ℕ) → List ℕ → List Row → Option (List (List ℕ))
ladder_spans day f done [] [] = Some done
ladder_spans day f done [] (r ∷ rs) = None
ladder_spans day f done (m ∷ ms) rs =
    let n : ℕ = ladder_rows day m (tier_of f m) rs in
    cond (eqb n 0) None
    (ladder_spans day f (done ++ ((head_price rs ∷ head_price (drop (n - 1) rs) ∷ []) ∷ [])) ms (drop n rs))
