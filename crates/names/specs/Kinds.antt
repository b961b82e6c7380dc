-- The two types of a series, and their numbers.
-- Assumes nothing.
use Rattle.std.specs.Prelude.{◌≡◌, ◌<◌, ℕ, Result, MatchResult}
use Rattle.base.specs.declared.causes.Cause.{Cause}
use Rattle.base.specs.declared.causes.Cause.TheVariants.{NameSeries}
use Rattle.names.specs.declared.Kind.{Kind}
use Rattle.names.specs.declared.Kind.TheVariants.{Call, Put}

-- type 0 is a call, 1 a put
abbrev pub kind_number : Kind → ℕ
kind_number Call = 0
kind_number Put = 1

-- what a number is read as: the type that has it, or that no series has a type above 1
abbrev pub KindOf : ℕ → Result Kind Cause → Type 0
KindOf n r = MatchResult r (λ kind. kind_number kind ≡ n) (λ cause. (cause ≡ NameSeries) × (1 < n))
