-- Each line of the table speaks of something: what it asks of calendar, days and month is met somewhere.
-- Assumes nothing.
use Rattle.std.specs.Prelude.{◌≡◌, true, false, List, [], ◌∷◌, ℕ, ◌≤◌}
use Rattle.calendar.specs.Calendar.{session as has_session, next_session, expiry_of}
use Rattle.calendar.specs.Live.{first_live}
use Rattle.worked.specs.Worked.{LiveAs, CanStart, CanMove, Line, friday, expires, near, span, starts, lists, returns, relists, name}

unfoldable pub Met : Line → Type 0
Met (friday m d) = Unit {0}
Met (expires m f d) = (cal : List ℕ) × (has_session cal f ≡ false) × (has_session cal d ≡ true)
Met (near t c p) = Unit {0}
Met (span t c lo hi) = Unit {0}
Met (starts c n m f a) = (cal : List ℕ) × (day : ℕ) × CanStart cal day
Met (lists t c ladder) = (cal : List ℕ) × (day : ℕ) × (m : ℕ) × CanStart cal day × LiveAs cal day m t
Met (returns c n) = ((cal : List ℕ) × (day : ℕ) × CanStart cal day) × ((cal : List ℕ) × (bs : List ℕ) × (day : ℕ) × CanMove cal bs day)
Met (relists t u c ps d old new o some) =
    (cal : List ℕ) × (day : ℕ) × (m : ℕ) × CanStart cal day
    × (first_live (expiry_of cal) (next_session cal day) ≤ 1190) × LiveAs cal day m t × LiveAs cal (next_session cal day) m u
Met (name m k p bytes) = Unit {0}

-- each line of a list is met
unfoldable pub EachMet : List Line → Type 0
EachMet [] = Unit {0}
EachMet (l ∷ ls) = Met l × EachMet ls
