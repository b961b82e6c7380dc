-- What the loop of `replaying::run_calls` keeps: the calls left give what all of them give.
-- Assumes nothing.
use Rattle.rules.specs.Rulebook.{rules}
use Rattle.replaying.proofs.Running.{Behind}
use Rattle.replaying.proofs.run_calls.Given as goal

abbrev pub invariant-loop-i : goal.invariant-loop-i
invariant-loop-i l = Behind (rules l.calendar) l.calls l.initial.register l.i l.register l.numbers
