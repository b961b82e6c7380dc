-- Document 01, "Calls" and "Causes and what they yield": start, session and announce on the register's bytes, for every calendar,
-- register and argument.
-- Assumes nothing.
use Rattle.std.specs.Prelude.{Bool, cond, not, List, [], ◌∷◌, ℕ, suc, Option, Some, None, eqb, length}
use Rattle.base.specs.Lists.{elem}
use Rattle.rules.specs.Rules.{Rules}
use Rattle.calls.specs.declared.Call.{Call}
use Rattle.calls.specs.declared.Call.TheVariants.{Start, Session, Announce}
use Rattle.layout.specs.Rows.{Row}
use Rattle.layout.specs.Register.{Reg, empty, running}
use Rattle.layout.specs.Bytes.{reg_of, bytes_of}
use Rattle.layout.specs.Opening.{opened}
use Rattle.calendar.specs.Calendar.{first_lacking}
use Rattle.rules.specs.Rulebook.{rules}
use Rattle.calls.specs.Listing.{number, accepted}
use Rattle.calls.specs.declared.Listed.{Listed}
use Rattle.calls.specs.declared.Told.{Told}
use Rattle.calls.specs.Results.{Answered, of_listed, of_told}

-- the rows of a register, and how many of a list pass a test
unfoldable pub rows_held : Reg → List Row
rows_held empty = []
rows_held (running b) = b.rows

unfoldable pub count : (Row → Bool) → List Row → ℕ
count f [] = 0
count f (r ∷ rs) = cond (f r) (suc (count f rs)) (count f rs)

module _ (R : Rules) where
  -- the number that a call returns
  unfoldable pub number_at : Call → List ℕ → ℕ
  number_at k bs = opened R bs (number R k (reg_of bs))

  -- the register's bytes after a call: a refusal changes nothing
  unfoldable pub after_at : Call → List ℕ → List ℕ
  after_at k bs = cond (eqb (number_at k bs) 0) (bytes_of (accepted R k (reg_of bs))) bs

-- ---- what an accepted call tells beside its number

-- added: the rows whose first day is the new day
unfoldable pub added : Reg → ℕ
added empty = 0
added (running b) = count (λ r. eqb r.entry.first b.at.day) b.rows

-- removed: the old rows of the dropped month, which is live no longer
unfoldable pub removed : Rules → Reg → Reg → ℕ
removed R old empty = 0
removed R old (running b) = count (λ r. not (elem r.month (R.live b.at))) (rows_held old)

-- announcements waiting
unfoldable pub waiting_in : Reg → ℕ
waiting_in empty = 0
waiting_in (running b) = length b.waiting

-- ---- the answers, for every calendar: an accepted call's values, beside 13 the first month without its session, else zeros

-- the value beside a number
abbrev pub beside : List ℕ → ℕ → ℕ → ℕ
beside calendar n value = cond (eqb n 0) value (cond (eqb n 13) (first_lacking calendar) 0)

unfoldable pub listed_at : List ℕ → Call → List ℕ → Listed
listed_at calendar k bs =
    let R : Rules = rules calendar in
    let n : ℕ = number_at R k bs in
    let old : Reg = reg_of bs in
    let new : Reg = accepted R k old in
    record {
      number = n;
      added = beside calendar n (added new);
      removed = cond (eqb n 0) (removed R old new) 0;
      rows = cond (eqb n 0) (length (rows_held new)) 0;
    }

-- a number and one value
unfoldable pub told_at : List ℕ → ℕ → ℕ → Told
told_at calendar n value = record { number = n; value = beside calendar n value }

unfoldable pub announced_at : List ℕ → Call → List ℕ → Told
announced_at calendar k bs = let R : Rules = rules calendar in told_at calendar (number_at R k bs) (waiting_in (accepted R k (reg_of bs)))

-- ---- what a call answers, whichever it is: its number and the values beside it

unfoldable pub answer_at : List ℕ → Call → List ℕ → Answered
answer_at calendar (Start d c) bs = of_listed (listed_at calendar (Start d c) bs)
answer_at calendar (Session d c) bs = of_listed (listed_at calendar (Session d c) bs)
answer_at calendar (Announce m p) bs = of_told (announced_at calendar (Announce m p) bs)

-- ---- what a kind and its pairs answer and leave (`call_of`): where they are no call, there is no answer and the register stays

unfoldable pub called_at : List ℕ → Option Call → List ℕ → Option Answered
called_at calendar None bs = None
called_at calendar (Some k) bs = Some (answer_at calendar k bs)

unfoldable pub after_called : Rules → Option Call → List ℕ → List ℕ
after_called R None bs = bs
after_called R (Some k) bs = after_at R k bs
