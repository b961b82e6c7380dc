-- The three grids are one, at strides 1, 2 and 4: the prices of grid N are numbered from 1 to 507, grid M has the even numbers and
-- grid F the multiples of 4. Only contracts of leaves speak of numbers and strides; no sentence of document 01 does.
-- Assumes nothing.
use Rattle.std.specs.Prelude.{◌≡◌, Bool, cond, Option, Some, None, ℕ, ◌+◌, ◌-◌, ◌*◌, ◌%◌, ◌≤◌, ◌<◌, ltb, eqb}
use Rattle.base.specs.Search.{last_up_to}
use Rattle.base.specs.declared.Tier.{Tier}
use Rattle.base.specs.declared.Tier.TheVariants.{N, M, F}
use Rattle.grid.specs.Grid.{required_low, required_high, nearest, grid_of}

-- how many prices grid N has
abbrev pub top_number : ℕ
top_number = 507

-- the price of number j
unfoldable pub price : ℕ → ℕ
price j = cond (ltb j 96) (5 * j) (cond (ltb j 148) (480 + 10 * (j - 96)) (1000 + 25 * (j - 148)))

-- the number of a price, 0 where grid N does not have it
unfoldable pub has_price : ℕ → ℕ → Bool
has_price p j = eqb (price j) p

unfoldable pub number_of : ℕ → ℕ
number_of p = last_up_to (has_price p) top_number

-- the same, if grid N has the price
abbrev pub some_number : ℕ → Option ℕ
some_number p = cond (eqb (number_of p) 0) None (Some (number_of p))

unfoldable pub stride : Tier → ℕ
stride N = 1
stride M = 2
stride F = 4

-- j is the number of a price of a tier's grid
pub record OnGrid (t : Tier) (j : ℕ) : Type 0 where
  pub from : 1 ≤ j
  pub to : j ≤ top_number
  pub multiple : j % stride t ≡ 0

-- n steps are nearest to a height, halfway the higher number: it lies from half a step below them up to, not including, half a step above
pub record Rounded (height step n : ℕ) : Type 0 where
  pub reached : 2 * (step * n) ≤ 2 * height + step
  pub short : 2 * height < 2 * (step * n) + step

-- j is the number of the price that is nearest to a close, with room for 16 numbers each way
pub record NearestNumber (t : Tier) (close j : ℕ) : Type 0 where
  pub on : OnGrid t j
  pub nearest_is : price j ≡ nearest close (grid_of t)
  pub room-below : 16 + stride t ≤ j
  pub room_above : j ≤ 490

-- low and high are the numbers of the lowest and the highest price that a close requires
pub record RequiredNumbers (t : Tier) (close low high : ℕ) : Type 0 where
  pub low-on : OnGrid t low
  pub high-on : OnGrid t high
  pub order : low ≤ high
  pub lowest : price low ≡ required_low t close
  pub highest : price high ≡ required_high t close

-- how far apart prices stand in grid N at a price, and where its band ends
unfoldable pub band_step : ℕ → ℕ
band_step p = cond (ltb p 480) 5 (cond (ltb p 1000) 10 25)

unfoldable pub band_end : ℕ → ℕ
band_end p = cond (ltb p 480) 480 (cond (ltb p 1000) 1000 10000)
