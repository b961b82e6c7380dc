-- Document 01, "The register": a running register, and when it is well formed.
-- Assumes nothing.
use Rattle.std.specs.Prelude.{Bool, true, false, cond, not, ◌&&◌, ◌||◌, List, [], ◌∷◌, ◌++◌, ℕ, leb, eqb, ltb, length}
use Rattle.base.specs.Lists.{elem, select, within, least, greatest}
use Rattle.base.specs.Causes.{cause, first_cause}
use Rattle.rules.specs.Rules.{Moment, Rules, next, last_first_month}
use Rattle.layout.specs.Rows.{new_entry, entry_ok, Row, rows_of, prices_of}

-- how many announcements may wait
abbrev pub most_waiting : ℕ
most_waiting = 32

-- a running register: its moment, the announcements waiting in the order received (month, price), its rows
pub record Body : Type 0 where
  pub at : Moment
  pub waiting : List (ℕ × ℕ)
  pub rows : List Row

pub data Reg : Type 0 where
  empty : Reg
  running : Body → Reg

-- the prices that wait for a month
unfoldable pub waiting_of : ℕ → List (ℕ × ℕ) → List ℕ
waiting_of m [] = []
waiting_of m (w ∷ ws) = cond (eqb m w.0) (w.1 ∷ waiting_of m ws) (waiting_of m ws)

-- the lowest and the highest price of a month's rows: its span, since every required price stands (DECISIONS 19)
unfoldable pub span_low : Body → ℕ → ℕ
span_low b m = least (prices_of m b.rows)

unfoldable pub span_high : Body → ℕ → ℕ
span_high b m = greatest (prices_of m b.rows)

-- two lists of rows have the same months and prices
unfoldable pub same_keys : List Row → List Row → Bool
same_keys [] [] = true
same_keys [] (s ∷ ss) = false
same_keys (r ∷ rs) [] = false
same_keys (r ∷ rs) (s ∷ ss) = eqb r.month s.month && (eqb r.price s.price && same_keys rs ss)

-- each of some months has a row
unfoldable pub non_empty : Body → List ℕ → Bool
non_empty b [] = true
non_empty b (m ∷ ms) = ltb 0 (length (prices_of m b.rows)) && non_empty b ms

unfoldable pub entries_ok : ℕ → List Row → Bool
entries_ok day [] = true
entries_ok day (r ∷ rs) = entry_ok day r.entry && entries_ok day rs

module _ (R : Rules) where
  -- every price of a month's grid from a lowest to a highest
  unfoldable pub listed : Moment → (ℕ → ℕ) → (ℕ → ℕ) → ℕ → List ℕ
  listed x low high m = select (within (low m) (high m)) (R.grid x m)

  -- causes 20 and 22 to 24 of an announcement, beside others that wait
  unfoldable pub announce_causes : Body → List (ℕ × ℕ) → ℕ → ℕ → List ℕ
  announce_causes b others m p =
      cause (ltb last_first_month (R.first_live (next R b.at))) 20
      ∷ cause (not (elem m (R.live b.at)) || leb (R.expiry b.at m) b.at.day) 22
      ∷ cause (not (elem p (R.grid (next R b.at) m))) 23
      ∷ cause (within (span_low b m) (span_high b m) p || elem p (waiting_of m others)) 24
      ∷ []

  -- each waiting announcement of the second list has none of these causes beside the others; the first list is those passed
  unfoldable pub waiting_ok : Body → List (ℕ × ℕ) → List (ℕ × ℕ) → Bool
  waiting_ok b past [] = true
  waiting_ok b past (w ∷ ws) = eqb (first_cause (announce_causes b (past ++ ws) w.0 w.1)) 0 && waiting_ok b (past ++ (w ∷ [])) ws

  -- well formed: its day is a session, its first live month is at most 1,190, the rows are the live months' ladders, each
  -- without gaps on its grid and none empty, first days and origins are in range, and no waiting announcement would be refused
  unfoldable pub well_formed : Body → Bool
  well_formed b =
      R.is_session b.at.day
      && (R.good b.at
      && (leb (R.first_live b.at) last_first_month
      && (same_keys b.rows (rows_of (R.live b.at) (listed b.at (span_low b) (span_high b)) (λ m p. new_entry 0 0))
      && (non_empty b (R.live b.at)
      && (entries_ok b.at.day b.rows
      && (leb (length b.waiting) most_waiting && waiting_ok b [] b.waiting))))))
