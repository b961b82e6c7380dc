-- Document 01, "Days and months": the session calendar, its check (causes 11 to 13) and expiry dates. A calendar is the list of its bytes.
-- Assumes nothing.
use Rattle.std.specs.Prelude.{◌≡◌, Bool, cond, not, ◌||◌, List, [], ◌∷◌, ℕ, ◌+◌, ◌/◌, ◌%◌, ◌^◌, eqb, get_or, length, Result, Ok, Err}
use Rattle.base.specs.Search.{first_in, some_in, last_up_to}
use Rattle.base.specs.Causes.{cause, first_cause}
use Rattle.base.specs.Numbers.{number_of, month_of}
use Rattle.base.specs.declared.causes.Cause.{Cause}
use Rattle.dates.specs.Months.{month_count, day_count, first_day, third_friday}
use Rattle.calendar.specs.declared.Checked.{Checked}

-- a calendar's length in bytes
abbrev pub calendar_length : ℕ
calendar_length = 4566

-- day n has a session: the bit of weight 2 ^ (n mod 8) in byte n div 8 is set
unfoldable pub session : List ℕ → ℕ → Bool
session cal n = eqb (get_or cal (n / 8) 0 / 2 ^ (n % 8) % 2) 1

-- one of the three bits after day 36,524 is set
unfoldable pub tail_set : List ℕ → Bool
tail_set cal = session cal day_count || (session cal (day_count + 1) || session cal (day_count + 2))

-- month m has no session between its first day and its third Friday, ends included
unfoldable pub lacks : List ℕ → ℕ → Bool
lacks cal m = not (some_in (session cal) (first_day m) (third_friday m + 1))

-- the first month without its session, and 1,200 where each has one
unfoldable pub first_lacking : List ℕ → ℕ
first_lacking cal = first_in (lacks cal) 0 month_count

-- the causes that concern the calendar, in the table's order
unfoldable pub calendar_causes : List ℕ → List ℕ
calendar_causes cal =
    cause (not (eqb (length cal) calendar_length)) 11
    ∷ cause (tail_set cal) 12
    ∷ cause (some_in (lacks cal) 0 month_count) 13
    ∷ []

unfoldable pub calendar_cause : List ℕ → ℕ
calendar_cause cal = first_cause (calendar_causes cal)

-- the check's answer: the cause's number, or 0, and beside 13 the first such month
unfoldable pub check_of : List ℕ → Checked
check_of cal = record {
  number = calendar_cause cal;
  month = cond (eqb (calendar_cause cal) 13) (first_lacking cal) 0;
}

-- the check's answer as a result: the cause's number, or 0, and the month that is told beside it
abbrev pub checked_of : {A : Type 0} → Result A Cause → Checked
checked_of (Ok _) = record { number = 0; month = 0 }
checked_of (Err cause) = record { number = number_of cause; month = month_of cause }

-- the calendar has none of the causes 11 to 13
abbrev pub Passes : List ℕ → Type 0
Passes cal = calendar_cause cal ≡ 0

-- the expiry date of month m: its third Friday, or else the last session before it
unfoldable pub expiry_of : List ℕ → ℕ → ℕ
expiry_of cal m = last_up_to (session cal) (third_friday m)

-- the first session after a day of the calendar, and 36,525 where there is none
unfoldable pub next_session : List ℕ → ℕ → ℕ
next_session cal d = first_in (session cal) (d + 1) day_count
