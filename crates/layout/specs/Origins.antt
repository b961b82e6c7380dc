-- Document 01: why a row was added, as its byte tells it.
-- Assumes nothing.
use Rattle.std.specs.Prelude.{◌≡◌, ◌≢◌, ℕ, Result, MatchResult}
use Rattle.layout.specs.declared.Origin.{Origin}
use Rattle.layout.specs.declared.Origin.TheVariants.{Live, Within, Close, Announced, Start}
use Rattle.layout.specs.declared.NoOrigin.{NoOrigin}

abbrev pub origin_code : Origin → ℕ
origin_code Live = 1
origin_code Within = 2
origin_code Close = 3
origin_code Announced = 4
origin_code Start = 5

-- the origin of a byte, where it is that of one
abbrev pub OriginOf : ℕ → Result Origin NoOrigin → Type 0
OriginOf byte r = MatchResult r (λ origin. origin_code origin ≡ byte) (λ _. (origin : Origin) → origin_code origin ≢ byte)
