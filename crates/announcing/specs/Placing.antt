-- How an announcement enters the register's bytes. Contracts of leaves cite this file.
-- Assumes nothing.
use Rattle.std.specs.Prelude.{◌≡◌, List, [], ◌∷◌, ℕ, ◌/◌, ◌%◌, ◌<◌, get_or}
use Rattle.layout.specs.Register.{most_waiting, running}
use Rattle.layout.specs.Bytes.{bytes_of, body_of}

-- a place's four bytes
abbrev pub place_bytes : ℕ → ℕ → List ℕ
place_bytes month price = month % 256 ∷ month / 256 ∷ price % 256 ∷ price / 256 ∷ []

-- a register in its layout with room for one announcement more
pub record Room (bs : List ℕ) : Type 0 where
  pub layout : bs ≡ bytes_of (running (body_of bs))
  pub room : get_or bs 1 0 < most_waiting
