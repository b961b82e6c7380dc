-- A start or a session that is not refused: what its leaves ask and answer. Contracts of leaves cite this file.
-- Assumes nothing.
use Rattle.std.specs.Prelude.{◌≡◌, true, cond, List, ◌∷◌, ◌++◌, ℕ, suc, ◌-◌, ◌≤◌, eqb, length, get_or, replicate}
use Rattle.calendar.specs.Calendar.{Passes}
use Rattle.grid.specs.Grid.{close_taken}
use Rattle.grid.specs.Numbers.{number_of}
use Rattle.rules.specs.Rules.{Moment, Rules, last_first_month}
use Rattle.rules.specs.Rulebook.{moved, first_at, rules}
use Rattle.layout.specs.Rows.{Row}
use Rattle.layout.specs.Register.{Body, Reg}
use Rattle.layout.specs.Bytes.{places_length, rows_length, rows_bytes, padded, moment_of, body_of}
use Rattle.base.specs.Words.{two}
use Rattle.calls.specs.Listing.{session_body}
use Rattle.calls.specs.Answers.{rows_held, added, removed}
use Rattle.calls.specs.declared.Totals.{Totals}

-- what it answers, from the register before and after
abbrev pub answer : Rules → Reg → Reg → Totals
answer R old new = record { added = added new; removed = removed R old new; rows = length (rows_held new) }

-- the head of a register in which nothing waits: status, none waiting, day, row count, two zeros, and no announcement
unfoldable pub head_bytes : ℕ → ℕ → List ℕ
head_bytes day count = 1 ∷ 0 ∷ two day (two count (0 ∷ 0 ∷ replicate places_length 0))

-- and behind it its rows
abbrev pub quiet_bytes : ℕ → List Row → List ℕ
quiet_bytes day rows = head_bytes day (length rows) ++ padded rows_length (rows_bytes rows)

-- a moment and a close that are taken
pub record Taken (calendar : List ℕ) (x : Moment) (close : ℕ) : Type 0 where
  pub passes : Passes calendar
  pub live : first_at calendar x ≤ last_first_month
  pub close-taken : close_taken close ≡ true

-- the body that a session leaves
abbrev pub session_of : List ℕ → List ℕ → ℕ → ℕ → Body
session_of calendar bs day close = session_body (rules calendar) (body_of bs) (moved (moment_of bs) day) close

-- how many rows the first live month of the session before had, if it is no longer live
unfoldable pub dropped_rows : ℕ → ℕ → List ℕ → ℕ
dropped_rows before first span = cond (eqb before first) 0 (suc (number_of (get_or span 1 0)) - number_of (get_or span 0 0))
