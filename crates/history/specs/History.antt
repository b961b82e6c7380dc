-- Document 01, "The history of demand 3": fed the calendar's rules, each call's arguments and the number that the call returned.
-- It reads nothing from the register and names nothing of the engine.
-- Assumes nothing.
use Rattle.std.specs.Prelude.{true, false, cond, ◌&&◌, List, [], ◌∷◌, ◌++◌, ℕ, eqb}
use Rattle.std.proofs.Math.Option.{Option, none, some, get_or}
use Rattle.base.specs.Lists.{elem, select, within, least_of, greatest_of}
use Rattle.rules.specs.Rules.{Moment, Rules}
use Rattle.calls.specs.declared.Call.{Call}
use Rattle.calls.specs.declared.Call.TheVariants.{Start, Session, Announce}

-- a day, at first none; the announced prices waiting, each with its month; a lowest and a highest price for each live month;
-- first days for prices of these months
pub record History : Type 0 where
  pub at : Option Moment
  pub waiting : List (ℕ × ℕ)
  pub low : ℕ → ℕ
  pub high : ℕ → ℕ
  pub first : ℕ → ℕ → Option ℕ

unfoldable pub blank : History
blank = record { at = none; waiting = []; low = λ m. 0; high = λ m. 0; first = λ m p. none }

-- the waiting prices of a month. This and `between` are said for the register too; the history names nothing of it.
unfoldable pub awaited : List (ℕ × ℕ) → ℕ → List ℕ
awaited [] m = []
awaited (w ∷ ws) m = cond (eqb w.0 m) (w.1 ∷ awaited ws m) (awaited ws m)

unfoldable pub or_else : Option ℕ → Option ℕ → Option ℕ
or_else none o = o
or_else (some a) o = some a

module _ (R : Rules) where
  -- a month's grid prices from its lowest to its highest
  unfoldable pub between : Moment → (ℕ → ℕ) → (ℕ → ℕ) → ℕ → List ℕ
  between x low high m = select (within (low m) (high m)) (R.grid x m)

  -- after a start or session: each price of a live month's grid from its lowest to its highest, if it has no first day, gets the day
  unfoldable pub dated : Moment → (ℕ → ℕ) → (ℕ → ℕ) → (ℕ → ℕ → Option ℕ) → ℕ → ℕ → Option ℕ
  dated x low high first m p = or_else (first m p) (cond (elem m (R.live x) && elem p (between x low high m)) (some x.day) none)

  -- start: its day becomes the day; each live month's lowest and highest are the least and greatest price that the close
  -- requires in its tier
  unfoldable pub on_start : Moment → ℕ → History → History
  on_start x c h =
      let low : ℕ → ℕ = λ m. R.need_low x true m c in
      let high : ℕ → ℕ = λ m. R.need_high x true m c in
      record { at = some x; waiting = h.waiting; low = low; high = high; first = dated x low high h.first }

  -- what a month takes in at a session: what the close requires in its tier on that day, and the month's waiting prices
  unfoldable pub taken_in : History → Moment → ℕ → ℕ → List ℕ
  taken_in h x c m = R.need_low x false m c ∷ R.need_high x false m c ∷ awaited h.waiting m

  -- a month newly live begins as at a start; in each other lowest and highest move outwards, where need be (e is the moment before)
  unfoldable pub low_after : History → Moment → Moment → ℕ → ℕ → ℕ
  low_after h e x c m = cond (elem m (R.live e)) (least_of (h.low m) (taken_in h x c m)) (R.need_low x true m c)

  unfoldable pub high_after : History → Moment → Moment → ℕ → ℕ → ℕ
  high_after h e x c m = cond (elem m (R.live e)) (greatest_of (h.high m) (taken_in h x c m)) (R.need_high x true m c)

  -- session: its day becomes the day; months no longer live are struck out, of which nobody asks lowest and highest any more; then
  -- none waits
  unfoldable pub on_session : Moment → Moment → ℕ → History → History
  on_session e x c h =
      let struck : ℕ → ℕ → Option ℕ = λ m p. cond (elem m (R.live x)) (h.first m p) none in
      record {
        at = some x;
        waiting = [];
        low = low_after h e x c;
        high = high_after h e x c;
        first = dated x (low_after h e x c) (high_after h e x c) struck;
      }

  -- without a day nothing happens
  unfoldable pub if_day : Option Moment → History → (Moment → History) → History
  if_day none h f = h
  if_day (some e) h f = f e

  -- announce: month and price join those waiting
  unfoldable pub accepted_call : Call → History → History
  accepted_call (Start d c) h = on_start (R.begin d) c h
  accepted_call (Session d c) h = if_day h.at h (λ e. on_session e (R.move e d) c h)
  accepted_call (Announce m p) h =
      record { at = h.at; waiting = h.waiting ++ ((m, p) ∷ []); low = h.low; high = h.high; first = h.first }

  -- a call whose number is not 0 leaves it as it is
  unfoldable pub heard : Call → ℕ → History → History
  heard k n h = cond (eqb n 0) (accepted_call k h) h

  -- a list of calls with the numbers that they returned
  unfoldable pub told : List Call → List ℕ → History → History
  told [] ns h = h
  told (k ∷ ks) [] h = h
  told (k ∷ ks) (n ∷ ns) h = told ks ns (heard k n h)

  -- the rows that the history tells: each live month's grid prices from its lowest to its highest, each with its first day
  unfoldable pub month_told : History → ℕ → List ℕ → List (ℕ × ℕ × ℕ)
  month_told h m [] = []
  month_told h m (p ∷ ps) = (m, p, get_or (h.first m p) 0) ∷ month_told h m ps

  unfoldable pub months_told : History → Moment → List ℕ → List (ℕ × ℕ × ℕ)
  months_told h x [] = []
  months_told h x (m ∷ ms) = month_told h m (between x h.low h.high m) ++ months_told h x ms

  unfoldable pub rows_told : History → Moment → List (ℕ × ℕ × ℕ)
  rows_told h x = months_told h x (R.live x)
