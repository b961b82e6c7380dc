-- Document 01, "The register": rows, one for each strike of a live month, for call and put together.
-- Assumes nothing.
use Rattle.std.specs.Prelude.{Bool, cond, ◌&&◌, List, [], ◌∷◌, ◌++◌, ℕ, leb, eqb}
use Rattle.std.proofs.Math.Option.{Option, none, some}
use Rattle.base.specs.Lists.{within}

-- what a row holds beside month and price
pub record Entry : Type 0 where
  pub first : ℕ
  pub origin : ℕ

-- the entry of a row that is added on a day
abbrev pub new_entry : ℕ → ℕ → Entry
new_entry day origin = record { first = day; origin = origin }

pub record Row : Type 0 where
  pub month : ℕ
  pub price : ℕ
  pub entry : Entry

abbrev pub row : ℕ → ℕ → Entry → Row
row m p e = record { month = m; price = p; entry = e }

-- the rows of month m at some prices, where f gives the entry of a price
unfoldable pub ladder : ℕ → (ℕ → Entry) → List ℕ → List Row
ladder m f [] = []
ladder m f (p ∷ ps) = row m p (f p) ∷ ladder m f ps

-- the rows of some months one behind the other, where G gives a month's prices
unfoldable pub rows_of : List ℕ → (ℕ → List ℕ) → (ℕ → ℕ → Entry) → List Row
rows_of [] G f = []
rows_of (m ∷ ms) G f = ladder m (f m) (G m) ++ rows_of ms G f

-- the entry of the row at a month and a price
unfoldable pub find : ℕ → ℕ → List Row → Option Entry
find m p [] = none
find m p (r ∷ rs) = cond (eqb m r.month && eqb p r.price) (some r.entry) (find m p rs)

-- the prices that a month has
unfoldable pub prices_of : ℕ → List Row → List ℕ
prices_of m [] = []
prices_of m (r ∷ rs) = cond (eqb m r.month) (r.price ∷ prices_of m rs) (prices_of m rs)

-- first day at most the day, origin 1 to 5
unfoldable pub entry_ok : ℕ → Entry → Bool
entry_ok day e = leb e.first day && within 1 5 e.origin
