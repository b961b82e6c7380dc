-- What the loop of `replaying::all_calls` keeps: the calls left decide what all of them do.
-- Assumes nothing.
use mathlib.Core.Path.{◌≡◌}
use Rattle.replaying.specs.Journal.{all_calls}
use Rattle.replaying.proofs.JournalLaws.{fit_from}
use Rattle.replaying.proofs.all_calls.Given as goal

abbrev pub invariant-loop-i : goal.invariant-loop-i
invariant-loop-i l = all_calls l.kinds l.counts l.pool ≡ fit_from l.kinds l.counts l.i l.rest
