-- Numbers in two bytes, the low byte first, as document 01 stores them.
-- Assumes nothing.
use Rattle.std.specs.Prelude.{List, ◌∷◌, ℕ, suc, ◌+◌, ◌*◌, ◌/◌, ◌%◌, get_or}

-- a number's two bytes before the rest
unfoldable pub two : ℕ → List ℕ → List ℕ
two n rest = n % 256 ∷ n / 256 ∷ rest

-- the number in the two bytes at place i
unfoldable pub at16 : List ℕ → ℕ → ℕ
at16 bs i = get_or bs i 0 + 256 * get_or bs (suc i) 0
