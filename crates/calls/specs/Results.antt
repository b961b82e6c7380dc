-- Results of calls in numbers, as C and journals have them: a cause's number, or 0, and the values beside it.
-- Assumes nothing.
use Rattle.std.specs.Prelude.{ℕ, Result, Ok, Err}
use Rattle.base.specs.Numbers.{number_of, month_of}
use Rattle.base.specs.declared.causes.Cause.{Cause}
use Rattle.calls.specs.declared.Call.{Call}
use Rattle.calls.specs.declared.Call.TheVariants.{Start, Session, Announce}
use Rattle.calls.specs.declared.Totals.{Totals}
use Rattle.calls.specs.declared.Answer.{Answer}
use Rattle.calls.specs.declared.Answer.TheVariants.{Listed as Totalled, Announced}
use Rattle.calls.specs.declared.Part.{Part}
use Rattle.calls.specs.declared.Listed.{Listed}
use Rattle.calls.specs.declared.Told.{Told}
use Rattle.calls.specs.declared.Place.{Place}

-- of a start or a session; a refusal has zeros, and beside 13 the month
abbrev pub listed_of : Result Totals Cause → Listed
listed_of (Ok totals) = record { number = 0; added = totals.added; removed = totals.removed; rows = totals.rows }
listed_of (Err cause) = record { number = number_of cause; added = month_of cause; removed = 0; rows = 0 }

-- of a call that tells one value
abbrev pub told_of : Result ℕ Cause → Told
told_of (Ok value) = record { number = 0; value = value }
told_of (Err cause) = record { number = number_of cause; value = month_of cause }

-- of the rows call; a refusal has zeros
abbrev pub place_of : Result Part Cause → Place
place_of (Ok part) = record { number = 0; at = part.at; size = part.size }
place_of (Err cause) = record { number = number_of cause; at = 0; size = 0 }

-- ---- of a call, whichever it is: its number and three values, of which an announcement and a refusal use one

pub record Answered : Type 0 where
  pub number : ℕ
  pub first : ℕ
  pub second : ℕ
  pub third : ℕ

abbrev pub of_listed : Listed → Answered
of_listed l = record { number = l.number; first = l.added; second = l.removed; third = l.rows }

abbrev pub of_told : Told → Answered
of_told t = record { number = t.number; first = t.value; second = 0; third = 0 }

abbrev pub answered_of : Result Answer Cause → Answered
answered_of (Ok (Totalled totals)) = of_listed (listed_of (Ok totals))
answered_of (Ok (Announced value)) = of_told (told_of (Ok value))
answered_of (Err cause) = of_told (told_of (Err cause))

-- a start or a session answers with totals, an announcement with how many wait
abbrev pub Suits : Call → Answer → Type 0
Suits (Start _ _) (Totalled _) = Unit {0}
Suits (Start _ _) (Announced _) = ⊥
Suits (Session _ _) (Totalled _) = Unit {0}
Suits (Session _ _) (Announced _) = ⊥
Suits (Announce _ _) (Totalled _) = ⊥
Suits (Announce _ _) (Announced _) = Unit {0}
