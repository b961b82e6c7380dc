-- Document 01, "Grids" and "Nearest price, neighbours, span" up to what a close requires. Prices are whole index points, closes hundredths.
-- Assumes nothing.
use Rattle.std.specs.Prelude.{Bool, cond, List, [], ◌∷◌, ◌++◌, ℕ, zero, suc, ◌+◌, ◌-◌, ◌*◌, ◌/◌, leb, ltb, length, take, drop}
use Rattle.base.specs.Lists.{select, least, greatest, within}
use Rattle.base.specs.declared.Tier.{Tier}
use Rattle.base.specs.declared.Tier.TheVariants.{N, M, F}

-- n prices from p on by a step
unfoldable pub up_by : ℕ → ℕ → ℕ → List ℕ
up_by step p zero = []
up_by step p (suc n) = p ∷ up_by step (p + step) n

-- the prices from lo to hi by a step
unfoldable pub band : ℕ → ℕ → ℕ → List ℕ
band lo hi step = up_by step lo ((hi - lo) / step + 1)

-- the table of grids: lowest band, middle band, top band
unfoldable pub grid_of : Tier → List ℕ
grid_of N = band 5 475 5 ++ (band 480 990 10 ++ band 1000 9975 25)
grid_of M = band 10 470 10 ++ (band 480 980 20 ++ band 1000 9950 50)
grid_of F = band 20 460 20 ++ (band 480 960 40 ++ band 1000 9900 100)

-- how far a close lies from a price, in hundredths
unfoldable pub distance : ℕ → ℕ → ℕ
distance close p = (close - 100 * p) + (100 * p - close)

-- of q and the prices after it, which ascend, the one at least distance from the close; halfway, the higher
unfoldable pub nearest_from : ℕ → ℕ → List ℕ → ℕ
nearest_from close q [] = q
nearest_from close q (p ∷ ps) = cond (leb (distance close p) (distance close q)) (nearest_from close p ps) (nearest_from close q ps)

-- the nearest price of a grid; 0 of none
unfoldable pub nearest : ℕ → List ℕ → ℕ
nearest close [] = 0
nearest close (p ∷ ps) = nearest_from close p ps

-- the n prices next higher than q, and the n next lower
unfoldable pub next_higher : ℕ → ℕ → List ℕ → List ℕ
next_higher n q ps = take n (select (λ p. ltb q p) ps)

unfoldable pub next_lower : ℕ → ℕ → List ℕ → List ℕ
next_lower n q ps = let lower : List ℕ = select (λ p. ltb p q) ps in drop (length lower - n) lower

-- how many next higher and next lower prices a close requires beside the nearest (004, points 2 to 4)
unfoldable pub neighbours : Tier → ℕ
neighbours N = 16
neighbours M = 8
neighbours F = 4

-- the prices that a close requires in a tier
unfoldable pub required : Tier → ℕ → List ℕ
required t close =
    let q : ℕ = nearest close (grid_of t) in
    next_lower (neighbours t) q (grid_of t) ++ (q ∷ next_higher (neighbours t) q (grid_of t))

-- the lowest and the highest of them
unfoldable pub required_low : Tier → ℕ → ℕ
required_low t close = least (required t close)

unfoldable pub required_high : Tier → ℕ → ℕ
required_high t close = greatest (required t close)

-- the closes that are taken; any other is cause 21
abbrev pub lowest_close : ℕ
lowest_close = 9000

abbrev pub highest_close : ℕ
highest_close = 954999

unfoldable pub close_taken : ℕ → Bool
close_taken close = within lowest_close highest_close close
