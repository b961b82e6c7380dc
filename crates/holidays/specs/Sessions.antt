-- Weekdays, and a calendar's bytes after a day is given a session or its session is taken away.
-- Assumes nothing.
use Rattle.std.specs.Prelude.{Bool, List, ℕ, ◌-◌, ◌/◌, ◌%◌, ◌^◌, leb, get_or, set}
use Rattle.std.specs.Int.Bits.{bit_and, bit_or}

-- a day from Monday to Friday: day 0 is a Saturday
abbrev pub weekday : ℕ → Bool
weekday day = leb 2 (day % 7)

-- past the calendar's end nothing changes
unfoldable pub with_session : List ℕ → ℕ → List ℕ
with_session cal day = set cal (day / 8) (bit_or (get_or cal (day / 8) 0) (2 ^ (day % 8)))

unfoldable pub without_session : List ℕ → ℕ → List ℕ
without_session cal day = set cal (day / 8) (bit_and (get_or cal (day / 8) 0) (255 - 2 ^ (day % 8)))
