-- How ladders are written: at each price of a month's ladder the old row, where it is the next one, else a new row. Contracts of leaves
-- cite this file.
-- Assumes nothing.
use Rattle.std.specs.Prelude.{◌≡◌, Bool, true, false, cond, ◌&&◌, Option, Some, None, List, [], ◌∷◌, ◌++◌, ℕ, zero, suc, ◌+◌, ◌*◌, ◌/◌, ◌≤◌, ◌<◌, eqb, length, get_or}
use Rattle.base.specs.Lists.{elem, select, within}
use Rattle.dates.specs.Months.{month_count}
use Rattle.calendar.specs.Live.{tier_of}
use Rattle.grid.specs.Grid.{grid_of}
use Rattle.grid.specs.Numbers.{stride, band_step}
use Rattle.grid.specs.declared.Strikes.{Strikes}
use Rattle.layout.specs.Rows.{Entry, new_entry, Row, row}
use Rattle.base.specs.Words.{two}
use Rattle.layout.specs.Bytes.{most_rows, read_rows}
use Rattle.ladders.specs.declared.Plan.{Plan}
use Rattle.ladders.specs.declared.Stretch.{Stretch}

-- the rows in some bytes
unfoldable pub rows_in : List ℕ → List Row
rows_in bs = read_rows (length bs / 8) bs

-- a row's eight bytes
unfoldable pub row_bytes : ℕ → ℕ → ℕ → ℕ → List ℕ
row_bytes month price first origin = two month (two price (two first (origin ∷ 0 ∷ [])))

-- ---- one month

-- the prices that a plan lists
unfoldable pub prices_in : Plan → List ℕ
prices_in m = select (within m.span.low m.span.high) (grid_of m.tier)

-- the origin of a row at a price beside the span that its month held, where it held one
abbrev pub origin_beside : ℕ → Strikes → Option Strikes → ℕ → ℕ
origin_beside origin wide None p = origin
origin_beside origin wide (Some held) p = cond (within held.low held.high p) 2 (cond (within wide.low wide.high p) 3 4)

-- the origin of a row that is added; a month that held no span has one origin for all its rows
unfoldable pub added_origin : Plan → ℕ → ℕ
added_origin m p = origin_beside m.origin m.wide m.held p

-- the first of some rows is that of a plan's month and a price
unfoldable pub is_next : Plan → ℕ → List Row → Bool
is_next m p [] = false
is_next m p (r ∷ rs) = eqb m.month r.month && eqb p r.price

-- what the row at a price has: what the old row has where that is next, else a new entry
unfoldable pub entry_at : Plan → ℕ → List Row → Entry
entry_at m p [] = new_entry m.day (added_origin m p)
entry_at m p (r ∷ rs) = cond (is_next m p (r ∷ rs)) r.entry (new_entry m.day (added_origin m p))

-- the old rows that are left behind it
unfoldable pub left_at : Plan → ℕ → List Row → List Row
left_at m p [] = []
left_at m p (r ∷ rs) = cond (is_next m p (r ∷ rs)) rs (r ∷ rs)

-- a plan's rows at some prices, and the old rows that are left behind them
unfoldable pub ladder_by : Plan → List ℕ → List Row → List Row
ladder_by m [] old = []
ladder_by m (p ∷ ps) old = row m.month p (entry_at m p old) ∷ ladder_by m ps (left_at m p old)

unfoldable pub left_by : Plan → List ℕ → List Row → List Row
left_by m [] old = old
left_by m (p ∷ ps) old = left_by m ps (left_at m p old)

-- what the row at a price has, and the old rows that are left behind it
pub record Entered (m : Plan) (old : List Row) (p first origin : ℕ) (left : List Row) : Type 0 where
  pub first_is : first ≡ (entry_at m p old).first
  pub origin_is : origin ≡ (entry_at m p old).origin
  pub left_is : left ≡ left_at m p old

-- a stretch of rows from a price on: that price's row, and below the end the same for each price behind it, which takes up no old row
pub record Alike (m : Plan) (old : List Row) (p : ℕ) (s : Stretch) (left : List Row) : Type 0 where
  pub here : Entered m old p s.first s.origin left
  pub step : s.step ≡ stride m.tier * band_step p
  pub more : (q : ℕ) → p < q → q < s.end → Entered m left q s.first s.origin left × (s.step ≡ stride m.tier * band_step q)

-- the price of the first of some rows, where that is of a plan's month
unfoldable pub next_price : Plan → List Row → Option ℕ
next_price m [] = None
next_price m (r ∷ rs) = cond (eqb m.month r.month) (Some r.price) None

-- below r no price behind p is the next one, and a row at each has the origin of one at p
pub record Ends (m : Plan) (next : Option ℕ) (end p r : ℕ) : Type 0 where
  pub most : r ≤ end
  pub before : (n : ℕ) → next ≡ Some n → p < n → r ≤ n
  pub same : (q : ℕ) → p ≤ q → q < r → added_origin m q ≡ added_origin m p

-- what a ladder's writer asks of its span: both ends on the grid
pub record Spanned (m : Plan) : Type 0 where
  pub low-on : elem m.span.low (grid_of m.tier) ≡ true
  pub high-on : elem m.span.high (grid_of m.tier) ≡ true

-- ---- some months, one behind the other

unfoldable pub ladders_from : (ℕ → Plan) → ℕ → ℕ → List Row → List Row
ladders_from plans i zero old = []
ladders_from plans i (suc n) old =
    ladder_by (plans i) (prices_in (plans i)) old ++ ladders_from plans (suc i) n (left_by (plans i) (prices_in (plans i)) old)

-- how many rows they have
unfoldable pub count_from : (ℕ → Plan) → ℕ → ℕ → ℕ
count_from plans i zero = 0
count_from plans i (suc n) = length (prices_in (plans i)) + count_from plans (suc i) n

-- a pair as prices; zeros are no span
abbrev pub strikes : List ℕ → Strikes
strikes pair = record { low = get_or pair 0 0; high = get_or pair 1 0 }

abbrev pub some_strikes : List ℕ → Option Strikes
some_strikes pair = cond (eqb (get_or pair 0 0) 0) None (Some (strikes pair))

-- the plan of the month at a position
abbrev pub plan_at : ℕ → ℕ → List ℕ → List (List ℕ) → List (List ℕ) → List (List ℕ) → ℕ → Plan
plan_at day origin months held wide spans i = record {
  month = get_or months i 0;
  tier = tier_of (get_or months 0 0) (get_or months i 0);
  day = day;
  origin = origin;
  span = strikes (get_or spans i []);
  held = some_strikes (get_or held i []);
  wide = strikes (get_or wide i []);
}

-- what the writer of all six asks
pub record Ready (first : ℕ) (plans : ℕ → Plan) : Type 0 where
  pub first-in : first ≤ month_count
  pub spanned : (i : ℕ) → i < 6 → Spanned (plans i)
  pub room : count_from plans 0 6 ≤ most_rows
