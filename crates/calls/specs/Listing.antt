-- Document 01, "Nearest price, neighbours, span" and "Calls": the register that start, session and announce leave, and the number that
-- each returns, on a register's rows.
-- Assumes nothing.
use Rattle.std.specs.Prelude.{true, false, cond, not, ◌&&◌, [], ◌∷◌, ◌++◌, ℕ, min, max, leb, eqb, ltb, length}
use Rattle.std.proofs.Math.Option.{Option, none, some}
use Rattle.base.specs.Lists.{elem, within, least_of, greatest_of}
use Rattle.base.specs.Causes.{cause, first_cause}
use Rattle.dates.specs.Months.{day_count}
use Rattle.grid.specs.Grid.{close_taken}
use Rattle.rules.specs.Rules.{Moment, Rules, last_first_month}
use Rattle.calls.specs.declared.Call.{Call}
use Rattle.calls.specs.declared.Call.TheVariants.{Start, Session, Announce}
use Rattle.layout.specs.Rows.{Entry, new_entry, rows_of, find}
use Rattle.layout.specs.Register.{most_waiting, Body, Reg, empty, running, waiting_of, span_low, span_high, listed, announce_causes}

-- a row once listed keeps first day and origin
unfoldable pub kept : Option Entry → Entry → Entry
kept none e = e
kept (some r) e = r

-- an announcement joins those waiting
unfoldable pub announce_body : Body → ℕ → ℕ → Body
announce_body b m p = record { at = b.at; waiting = b.waiting ++ ((m, p) ∷ []); rows = b.rows }

module _ (R : Rules) where
  -- ---- spans at a session: the month's span of the session before, widened by the close alone
  unfoldable pub close_low : Body → Moment → ℕ → ℕ → ℕ
  close_low b x c m = min (span_low b m) (R.need_low x false m c)

  unfoldable pub close_high : Body → Moment → ℕ → ℕ → ℕ
  close_high b x c m = max (span_high b m) (R.need_high x false m c)

  -- and then by what was announced; a newly live month's is what the close requires
  unfoldable pub new_low : Body → Moment → ℕ → ℕ → ℕ
  new_low b x c m = cond (elem m (R.live b.at)) (least_of (close_low b x c m) (waiting_of m b.waiting)) (R.need_low x true m c)

  unfoldable pub new_high : Body → Moment → ℕ → ℕ → ℕ
  new_high b x c m = cond (elem m (R.live b.at)) (greatest_of (close_high b x c m) (waiting_of m b.waiting)) (R.need_high x true m c)

  -- origin, 01's word for why a row was added: 1 its month is newly live; else 2 it lies in the span of the session before;
  -- else 3 it lies in that span widened by the close alone; else 4
  unfoldable pub new_origin : Body → Moment → ℕ → ℕ → ℕ → ℕ
  new_origin b x c m p =
      cond (not (elem m (R.live b.at))) 1
      (cond (within (span_low b m) (span_high b m) p) 2
      (cond (within (close_low b x c m) (close_high b x c m) p) 3 4))

  -- ---- the register after an accepted call

  -- a start lists all six months; its rows have origin 5
  unfoldable pub start_body : Moment → ℕ → Body
  start_body x c = record {
    at = x;
    waiting = [];
    rows = rows_of (R.live x) (listed R x (λ m. R.need_low x true m c) (λ m. R.need_high x true m c)) (λ m p. new_entry x.day 5);
  }

  -- a session lists every price of each live month's grid within its span, and clears the announcements
  unfoldable pub session_body : Body → Moment → ℕ → Body
  session_body b x c = record {
    at = x;
    waiting = [];
    rows = rows_of (R.live x) (listed R x (new_low b x c) (new_high b x c))
        (λ m p. kept (find m p b.rows) (new_entry x.day (new_origin b x c m p)));
  }

  -- ---- the number of a call on an empty or well-formed register: its own causes in the table's order

  unfoldable pub number : Call → Reg → ℕ
  number (Start d c) empty =
      first_cause
      (cause (not (ltb d day_count && R.is_session d)) 18
      ∷ cause (ltb last_first_month (R.first_live (R.begin d))) 20
      ∷ cause (not (close_taken c)) 21
      ∷ [])
  number (Start d c) (running b) = 16
  number (Session d c) empty = 17
  number (Session d c) (running b) =
      first_cause
      (cause (not (eqb d (R.next_day b.at))) 19
      ∷ cause (ltb last_first_month (R.first_live (R.move b.at d))) 20
      ∷ cause (not (close_taken c)) 21
      ∷ [])
  number (Announce m p) empty = 17
  number (Announce m p) (running b) =
      first_cause (first_cause (announce_causes R b b.waiting m p) ∷ cause (leb most_waiting (length b.waiting)) 25 ∷ [])

  -- the register after an accepted call; what an accepted call never meets is left as it is
  unfoldable pub accepted : Call → Reg → Reg
  accepted (Start d c) empty = running (start_body (R.begin d) c)
  accepted (Start d c) (running b) = running b
  accepted (Session d c) empty = empty
  accepted (Session d c) (running b) = running (session_body b (R.move b.at d) c)
  accepted (Announce m p) empty = empty
  accepted (Announce m p) (running b) = running (announce_body b m p)
