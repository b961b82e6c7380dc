-- Names as numbers that ascend as the names do. Contracts of leaves cite this file.
-- Assumes nothing.
use Rattle.std.specs.Prelude.{List, ℕ, ◌+◌, ◌-◌, ◌*◌, get_or, take, drop}
use Rattle.names.specs.Names.{value_from}

-- the letter, A as 0, and behind it the six digits of year and price
unfoldable pub key_of : List ℕ → ℕ
key_of name = 1000000 * (get_or name 4 0 - 65) + value_from 0 (take 6 (drop 5 name))
