-- What a month is read as, as the first live one: the six live months, or that it is too late.
-- Assumes nothing.
use Rattle.std.specs.Prelude.{◌≡◌, ℕ, ◌<◌, Result, MatchResult}
use Rattle.base.specs.declared.causes.Cause.{Cause}
use Rattle.base.specs.declared.causes.Cause.TheVariants.{TooLate}
use Rattle.rules.specs.Rules.{last_first_month}
use Rattle.rules.specs.declared.live.LiveMonths.{LiveMonths}

abbrev pub MonthsFrom : ℕ → Result LiveMonths Cause → Type 0
MonthsFrom n r = MatchResult r (λ live. live.first ≡ n) (λ cause. (cause ≡ TooLate) × (last_first_month < n))
