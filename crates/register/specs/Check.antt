-- How the code checks a register's bytes. Contracts of leaves cite this file.
-- Assumes nothing.
use Rattle.std.specs.Prelude.{◌≡◌, Bool, true, not, ◌||◌, List, [], ◌∷◌, ℕ, ◌+◌, ◌-◌, ◌*◌, ◌≤◌, ltb, get_or, take, drop}
use Rattle.base.specs.Words.{at16}
use Rattle.base.specs.Lists.{elem, within}
use Rattle.base.specs.Causes.{cause, first_cause}
use Rattle.calendar.specs.Live.{live_months, tier_of}
use Rattle.grid.specs.Grid.{grid_of}
use Rattle.rules.specs.Rules.{last_first_month}
use Rattle.rules.specs.Rulebook.{first_at}
use Rattle.layout.specs.Register.{most_waiting, running}
use Rattle.layout.specs.Bytes.{places_from, rows_from, most_rows, all_zero, moment_of, body_of}
use Rattle.layout.specs.Opening.{Reads}
use Rattle.layout.specs.Spans.{runs_well, spans_of}

-- a test that tells whether something holds
pub record Tells (test : Bool) (Holds : Type 0) : Type 0 where
  pub if_true : test ≡ true → Holds
  pub if_holds : Holds → test ≡ true

-- ---- the layout: the bytes that are neither announcement nor row
pub record Keeps (bs : List ℕ) : Type 0 where
  pub status : get_or bs 0 0 ≡ 1
  pub waiting : get_or bs 1 0 ≤ most_waiting
  pub six : get_or bs 6 0 ≡ 0
  pub seven : get_or bs 7 0 ≡ 0
  pub count : at16 bs 4 ≤ most_rows
  pub places : all_zero (take (rows_from - (places_from + 4 * get_or bs 1 0)) (drop (places_from + 4 * get_or bs 1 0) bs)) ≡ true
  pub behind : all_zero (drop (rows_from + 8 * at16 bs 4) bs) ≡ true

-- causes 20 and 22 to 24 of an announcement, by the numbers that decide them: the first live month of the day and of the next session, the
-- month's span, and whether the price waits for the month already. A live month that expires by the day is not live at the next session
unfoldable pub causes_at : ℕ → ℕ → List ℕ → Bool → ℕ → ℕ → ℕ
causes_at first next span waits m p =
    first_cause
    (cause (ltb last_first_month next) 20
    ∷ cause (not (elem m (live_months first)) || ltb m next) 22
    ∷ cause (not (elem p (grid_of (tier_of next m)))) 23
    ∷ cause (within (get_or span 0 0) (get_or span 1 0) p || waits) 24
    ∷ [])

-- a register that runs and is well formed, read, with its six spans
pub record Runs (calendar bs : List ℕ) (spans : List (List ℕ)) : Type 0 where
  pub reads : Reads calendar bs (running (body_of bs))
  pub well : runs_well calendar bs ≡ true
  pub spans_are : spans ≡ spans_of (body_of bs) (live_months (first_at calendar (moment_of bs)))
