-- What start and session are refused by beside their day, and what they list. Contracts of leaves cite this file.
-- Assumes nothing.
use Rattle.std.specs.Prelude.{◌≡◌, not, List, [], ◌∷◌, ℕ, ltb}
use Rattle.base.specs.Causes.{cause, first_cause}
use Rattle.grid.specs.Grid.{close_taken}
use Rattle.rules.specs.Rules.{last_first_month}
use Rattle.relisting.specs.declared.Listing.{Listing}

-- causes 20 and 21 of a start or a session, by its first live month and its close
unfoldable pub listing_cause : ℕ → ℕ → ℕ
listing_cause first close = first_cause (cause (ltb last_first_month first) 20 ∷ cause (not (close_taken close)) 21 ∷ [])

-- a listing under a calendar, on a day, at a close
pub record Lists (calendar : List ℕ) (day close : ℕ) (listing : Listing) : Type 0 where
  pub calendar_is : listing.calendar.bytes.now ≡ calendar
  pub day_is : listing.day ≡ day
  pub close_is : listing.close.hundredths ≡ close
