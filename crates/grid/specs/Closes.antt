-- What a number is read as: a close that is taken, or that it is none.
-- Assumes nothing.
use Rattle.std.specs.Prelude.{◌≡◌, true, false, ℕ, Result, MatchResult}
use Rattle.base.specs.declared.causes.Cause.{Cause}
use Rattle.grid.specs.Grid.{close_taken}
use Rattle.grid.specs.declared.closes.Close.{Close}

abbrev pub CloseOf : ℕ → Result Close Cause → Type 0
CloseOf n r = MatchResult r (λ close. (close.hundredths ≡ n) × (close_taken n ≡ true)) (λ cause. (cause ≡ Cause.Close) × (close_taken n ≡ false))
