-- What the engine and the history are both judged by: the calendar, the live months, their grids and what a close requires.
-- Another text or calendar rule is another value of this record.
-- Assumes nothing.
use Rattle.std.specs.Prelude.{Bool, List, ℕ}

-- all that the live months, their grids and what a close requires depend on, beside the calendar
pub record Moment : Type 0 where
  pub day : ℕ

pub record Rules : Type 0 where
  -- 11, 12 or 13 where the calendar has that cause, else 0
  pub calendar_cause : ℕ
  pub is_session : ℕ → Bool
  -- the next session day after a moment; the moment of a start on a day; that of a session on a day after a moment
  pub next_day : Moment → ℕ
  pub begin : ℕ → Moment
  pub move : Moment → ℕ → Moment
  -- what a register's moment must keep beyond its day being a session
  pub good : Moment → Bool
  pub expiry : Moment → ℕ → ℕ
  pub first_live : Moment → ℕ
  pub live : Moment → List ℕ
  -- the prices of a month's grid, ascending
  pub grid : Moment → ℕ → List ℕ
  -- the lowest and the highest price that a close requires: whether the month is newly live, month, close
  pub need_low : Moment → Bool → ℕ → ℕ → ℕ
  pub need_high : Moment → Bool → ℕ → ℕ → ℕ

-- the moment of the next session
abbrev pub next : Rules → Moment → Moment
next R x = R.move x (R.next_day x)

-- the last month that may be the first live one: March 2099
abbrev pub last_first_month : ℕ
last_first_month = 1190
