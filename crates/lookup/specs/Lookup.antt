-- How a question's answer is told: a number, or 65,535 where the question lies outside its range.
-- Assumes nothing.
use Rattle.std.specs.Prelude.{Bool, cond, Option, Some, None, ◌&&◌, ℕ, ◌+◌, ◌-◌, ◌%◌, eqb, leb, ltb}
use Rattle.base.specs.declared.Tier.{Tier}
use Rattle.base.specs.declared.Tier.TheVariants.{N, M, F}
use Rattle.dates.specs.Months.{day_count, year_of, first_day, month_of}
use Rattle.grid.specs.Grid.{required_low, required_high, close_taken}
use Rattle.grid.specs.declared.Strikes.{Strikes}
use Rattle.lookup.specs.declared.Date.{Date}

abbrev pub outside : ℕ
outside = 65535

-- the answer where the question is within its range
abbrev pub or_outside : Bool → ℕ → ℕ
or_outside in_range n = cond in_range n outside

-- the same as an option
abbrev pub some_if : {A : Type 0} → Bool → A → Option A
some_if in_range x = cond in_range (Some x) None

-- yes is 1, no is 0
abbrev pub yes : Bool → ℕ
yes b = cond b 1 0

-- the tiers N, M and F are numbered 0, 1 and 2
unfoldable pub tier_number : Tier → ℕ
tier_number N = 0
tier_number M = 1
tier_number F = 2

unfoldable pub tier_numbered : ℕ → Tier
tier_numbered n = cond (eqb n 0) N (cond (eqb n 1) M F)

-- day d as year, month from 1 to 12, and day of the month from 1 on; zeros where d is no day
unfoldable pub date_of : ℕ → Date
date_of d = record {
  year = cond (ltb d day_count) (year_of (month_of d)) 0;
  month = cond (ltb d day_count) (month_of d % 12 + 1) 0;
  day = cond (ltb d day_count) (d - first_day (month_of d) + 1) 0;
}

-- what a close requires in a tier, if it is taken
abbrev pub required_of : Tier → ℕ → Option Strikes
required_of tier close = some_if (close_taken close) (record { low = required_low tier close; high = required_high tier close })

-- what a close requires in the tier of a number; zeros where there is no such tier or the close is not taken
unfoldable pub required_at : ℕ → ℕ → Strikes
required_at tier close =
    let in_range : Bool = leb tier 2 && close_taken close in
    record {
      low = cond in_range (required_low (tier_numbered tier) close) 0;
      high = cond in_range (required_high (tier_numbered tier) close) 0;
    }
