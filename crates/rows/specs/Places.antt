-- Where a month's rows stand, by the spans of the live months. Contracts of leaves cite this file.
-- Assumes nothing.
use Rattle.std.specs.Prelude.{cond, List, [], ◌∷◌, ℕ, ◌+◌, ◌-◌, ◌*◌, ◌/◌, eqb, get_or, drop}
use Rattle.base.specs.declared.Tier.{Tier}
use Rattle.calendar.specs.Live.{tier_of}
use Rattle.grid.specs.Numbers.{number_of, stride}
use Rattle.calls.specs.declared.Place.{Place}

-- how many rows a ladder has, from the price low to the price high
unfoldable pub ladder_size : Tier → ℕ → ℕ → ℕ
ladder_size t low high = (number_of high - number_of low) / stride t + 1

-- a refusal of the rows call
abbrev pub no_rows : ℕ → Place
no_rows n = record { number = n; at = 0; size = 0 }

-- the place of a month's rows, where the ladders of some months with these spans stand from a byte on
unfoldable pub month_place : ℕ → ℕ → ℕ → List ℕ → List (List ℕ) → Place
month_place f m at [] spans = no_rows 26
month_place f m at (n ∷ ns) spans =
    let span : List ℕ = get_or spans 0 [] in
    let size : ℕ = 8 * ladder_size (tier_of f n) (get_or span 0 0) (get_or span 1 0) in
    cond (eqb m n) (record { number = 0; at = at; size = size }) (month_place f m (at + size) ns (drop 1 spans))
