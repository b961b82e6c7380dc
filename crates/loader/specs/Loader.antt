-- Document 02, C-11: writing the file of a register: its causes 11 to 15, 17 and 30, its answer, and the output buffer after it.
-- Assumes nothing.
use Rattle.std.specs.Prelude.{Result, Ok, Err, cond, List, [], ◌∷◌, ◌++◌, ℕ, eqb, ltb, length, drop}
use Rattle.base.specs.Causes.{cause, first_cause}
use Rattle.base.specs.Numbers.{number_of, month_of}
use Rattle.base.specs.declared.causes.Cause.{Cause}
use Rattle.calendar.specs.Calendar.{first_lacking}
use Rattle.rules.specs.Rules.{Rules}
use Rattle.rules.specs.Rulebook.{rules}
use Rattle.layout.specs.Register.{Reg, empty, running}
use Rattle.layout.specs.Bytes.{body_of, reg_of}
use Rattle.layout.specs.Opening.{opened}
use Rattle.naming.specs.DayFile.{day_file}
use Rattle.loader.specs.declared.Written.{Written}

-- the call's own causes: 17 of an empty register, of a running one 30 where the output buffer is shorter than its file
unfoldable pub file_cause : List ℕ → Reg → ℕ
file_cause out empty = 17
file_cause out (running b) = first_cause (cause (ltb (length out) (length (day_file b))) 30 ∷ [])

-- 11 to 15 come before them
unfoldable pub file_number : Rules → List ℕ → List ℕ → ℕ
file_number R bs out = opened R bs (file_cause out (reg_of bs))

-- the answer of a result: beside 0 the file's length, beside 13 the month
abbrev pub written_of : Result ℕ Cause → Written
written_of (Ok size) = record { number = 0; length = size }
written_of (Err why) = record { number = number_of why; length = month_of why }

-- beside 0 the file's length, beside 13 the first month without its session, else 0
unfoldable pub file_at : List ℕ → List ℕ → List ℕ → Written
file_at calendar bs out =
    let n : ℕ = file_number (rules calendar) bs out in
    record { number = n; length = cond (eqb n 0) (length (day_file (body_of bs))) (cond (eqb n 13) (first_lacking calendar) 0) }

-- the output buffer: the file before its other bytes, or what it was
unfoldable pub file_after : Rules → List ℕ → List ℕ → List ℕ
file_after R bs out =
    let file : List ℕ = day_file (body_of bs) in
    cond (eqb (file_number R bs out) 0) (file ++ drop (length file) out) out
