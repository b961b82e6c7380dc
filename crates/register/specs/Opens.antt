-- How every call opens: by a cause that every call has, on an empty register, or on one that runs and is well formed.
-- Assumes nothing.
use Rattle.std.specs.Prelude.{◌≡◌, false, List, ℕ, Option, Some, None, Result, Ok, Err}
use Rattle.base.specs.declared.causes.Cause.{Cause}
use Rattle.rules.specs.Rulebook.{first_at}
use Rattle.layout.specs.Register.{empty}
use Rattle.layout.specs.Bytes.{moment_of}
use Rattle.layout.specs.Opening.{Refused, Reads}
use Rattle.layout.specs.Spans.{runs_well}
use Rattle.register.specs.Check.{Runs}
use Rattle.register.specs.declared.Running.{Running}
use Rattle.register.specs.declared.Opened.{Opened}

-- what the check finds of a register that runs and is well formed: the calendar, the live months of its day, and their spans
pub record Finds (calendar bs : List ℕ) (running : Running) : Type 0 where
  pub runs : Runs calendar bs running.spans
  pub calendar_is : running.calendar.bytes.now ≡ calendar
  pub first_is : running.live.first ≡ first_at calendar (moment_of bs)

-- any other does not run well
abbrev pub Stands : List ℕ → List ℕ → Option Running → Type 0
Stands calendar bs (Some running) = Finds calendar bs running
Stands calendar bs None = runs_well calendar bs ≡ false

abbrev pub Opens : List ℕ → List ℕ → Result Opened Cause → Type 0
Opens calendar bs (Ok (Opened.Empty passed)) = Reads calendar bs empty × (passed.bytes.now ≡ calendar)
Opens calendar bs (Ok (Opened.Running running)) = Finds calendar bs running
Opens calendar bs (Err why) = (own : ℕ) → Refused calendar bs own why
