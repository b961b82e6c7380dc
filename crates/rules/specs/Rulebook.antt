-- The rules of the 2026 text (source document 004) over a calendar's bytes.
-- Assumes nothing.
use Rattle.std.specs.Prelude.{true, List, ℕ}
use Rattle.base.specs.declared.Tier.{Tier}
use Rattle.calendar.specs.Calendar.{session, calendar_cause, expiry_of, next_session}
use Rattle.calendar.specs.Live.{first_live, live_months, tier_of}
use Rattle.grid.specs.Grid.{grid_of, required_low, required_high}
use Rattle.rules.specs.Rules.{Moment, Rules}

-- moments are built here alone: that of a start on a day, and that of a session on a day after a moment
unfoldable pub begun : ℕ → Moment
begun d = record { day = d }

unfoldable pub moved : Moment → ℕ → Moment
moved x d = record { day = d }

module _ (calendar : List ℕ) where
  unfoldable pub expiry_at : Moment → ℕ → ℕ
  expiry_at x m = expiry_of calendar m

  unfoldable pub first_at : Moment → ℕ
  first_at x = first_live (expiry_at x) x.day

  unfoldable pub tier_at : Moment → ℕ → Tier
  tier_at x m = tier_of (first_at x) m

unfoldable pub rules : List ℕ → Rules
rules calendar = record {
  calendar_cause = calendar_cause calendar;
  is_session = session calendar;
  next_day = λ x. next_session calendar x.day;
  begin = begun;
  move = moved;
  good = λ x. true;
  expiry = expiry_at calendar;
  first_live = first_at calendar;
  live = λ x. live_months (first_at calendar x);
  grid = λ x m. grid_of (tier_at calendar x m);
  need_low = λ x new m c. required_low (tier_at calendar x m) c;
  need_high = λ x new m c. required_high (tier_at calendar x m) c;
}
