-- The six spans of a start or a session, in the order of the live months. Contracts of leaves cite this file.
-- Assumes nothing.
use Rattle.std.specs.Prelude.{cond, List, [], ◌∷◌, ℕ, min, max, eqb, get_or}
use Rattle.base.specs.Lists.{least_of, greatest_of}
use Rattle.calendar.specs.Live.{tier_of}
use Rattle.grid.specs.Grid.{required_low, required_high}
use Rattle.layout.specs.Register.{waiting_of}
use Rattle.layout.specs.Spans.{span_in}

-- one pair for each of the six live months
abbrev pub six : (ℕ → List ℕ) → List (List ℕ)
six f = f 0 ∷ f 1 ∷ f 2 ∷ f 3 ∷ f 4 ∷ f 5 ∷ []

-- what the live months held on the session before, from the months and spans of that session
unfoldable pub held_spans : List ℕ → List (List ℕ) → List ℕ → List (List ℕ)
held_spans before spans months = six (λ i. span_in before spans (get_or months i 0))

-- a span widened by what the close requires; a month that held none has what the close requires
unfoldable pub close_pair : List ℕ → ℕ → ℕ → List ℕ
close_pair held low high =
    cond (eqb (get_or held 0 0) 0) (low ∷ high ∷ []) (min (get_or held 0 0) low ∷ max (get_or held 1 0) high ∷ [])

unfoldable pub close_spans : List ℕ → List (List ℕ) → ℕ → List (List ℕ)
close_spans months held close =
    six λ i.
    close_pair (get_or held i []) (required_low (tier_of (get_or months 0 0) (get_or months i 0)) close) (required_high (tier_of (get_or months 0 0) (get_or months i 0)) close)

-- a span that takes in what waits for a month
unfoldable pub announced_pair : List (ℕ × ℕ) → ℕ → List ℕ → List ℕ
announced_pair ws m span = least_of (get_or span 0 0) (waiting_of m ws) ∷ greatest_of (get_or span 1 0) (waiting_of m ws) ∷ []

-- the month's span of the session, where it held one before; a newly live month's is what the close requires
unfoldable pub new_pair : List (ℕ × ℕ) → ℕ → List ℕ → List ℕ → List ℕ
new_pair ws m held wide = cond (eqb (get_or held 0 0) 0) wide (announced_pair ws m wide)

unfoldable pub new_spans : List (ℕ × ℕ) → List ℕ → List (List ℕ) → List (List ℕ) → List (List ℕ)
new_spans ws months held wide = six (λ i. new_pair ws (get_or months i 0) (get_or held i []) (get_or wide i []))
