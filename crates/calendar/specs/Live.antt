-- Document 01, "Live months and tiers".
-- Assumes nothing.
use Rattle.std.specs.Prelude.{Bool, cond, List, [], ◌∷◌, ℕ, ◌+◌, ◌%◌, eqb, leb}
use Rattle.base.specs.Search.{first_in}
use Rattle.base.specs.declared.Tier.{Tier}
use Rattle.base.specs.declared.Tier.TheVariants.{N, M, F}
use Rattle.dates.specs.Months.{month_count}

-- month m's expiry date is day d or later, where E gives the expiry dates
unfoldable pub unexpired : (ℕ → ℕ) → ℕ → ℕ → Bool
unexpired E d m = leb d (E m)

-- the first live month on day d: the earliest whose expiry date is d or later; after month 1,199's expiry date, 1,200
unfoldable pub first_live : (ℕ → ℕ) → ℕ → ℕ
first_live E d = first_in (unexpired E d) 0 month_count

-- month m is March, June, September or December
unfoldable pub quarterly : ℕ → Bool
quarterly m = eqb (m % 3) 2

-- the first quarterly month that follows the month f and the two after it
unfoldable pub next_quarter : ℕ → ℕ
next_quarter f = first_in quarterly (f + 3) (f + 6)

-- the six live months where f is the first: f, the next two calendar months, and the three quarterly months that follow these
unfoldable pub live_months : ℕ → List ℕ
live_months f = f ∷ (f + 1) ∷ (f + 2) ∷ next_quarter f ∷ (next_quarter f + 3) ∷ (next_quarter f + 6) ∷ []

-- the tier of month m where f is the first live month: the first is tier N, the next two tier M, the last three tier F
unfoldable pub tier_of : ℕ → ℕ → Tier
tier_of f m = cond (leb m f) N (cond (leb m (f + 2)) M F)
