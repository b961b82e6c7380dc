-- The spans of a register's months, lowest and highest price of each, and announcements from a byte on.
-- Contracts of leaves cite this file.
-- Assumes nothing.
use Rattle.std.specs.Prelude.{Bool, cond, not, ◌&&◌, List, [], ◌∷◌, ℕ, eqb, drop}
use Rattle.rules.specs.Rulebook.{rules}
use Rattle.layout.specs.Register.{Body, span_low, span_high}
use Rattle.layout.specs.Bytes.{all_zero, read_places}
use Rattle.layout.specs.Opening.{stands}

-- a register that is not empty, keeps the layout and is well formed under a calendar
unfoldable pub runs_well : List ℕ → List ℕ → Bool
runs_well calendar bs = not (all_zero bs) && stands (rules calendar) bs

-- the spans of some months
unfoldable pub spans_of : Body → List ℕ → List (List ℕ)
spans_of b [] = []
spans_of b (m ∷ ms) = (span_low b m ∷ span_high b m ∷ []) ∷ spans_of b ms

-- the span of a month among those of some months; zeros where it is none of them
unfoldable pub span_in : List ℕ → List (List ℕ) → ℕ → List ℕ
span_in [] spans m = 0 ∷ 0 ∷ []
span_in (n ∷ ns) [] m = 0 ∷ 0 ∷ []
span_in (n ∷ ns) (s ∷ ss) m = cond (eqb m n) s (span_in ns ss m)

-- n places from a byte on
abbrev pub places_at : List ℕ → ℕ → ℕ → List (ℕ × ℕ)
places_at bs at n = read_places n (drop at bs)
