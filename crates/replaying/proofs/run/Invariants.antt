-- What the loop of `replaying::run` keeps: the calls left give what all of them give.
-- Assumes nothing.
use mathlib.Core.Path.{◌≡◌}
use lib.ListN.{length}
use Rattle.rules.specs.Rulebook.{rules}
use Rattle.replaying.specs.Journal.{journal}
use Rattle.replaying.proofs.Running.{Behind}
use Rattle.replaying.proofs.JournalLaws.{Come}
use Rattle.replaying.proofs.run.Given as goal

abbrev pub invariant-loop-i : goal.invariant-loop-i
invariant-loop-i l = record {
  counted : length l.counts ≡ length l.kinds;
  places : length l.numbers ≡ length l.kinds;
  come : Come l.kinds l.counts l.pool l.i l.rest;
  behind : Behind (rules l.calendar) (journal l.kinds l.counts l.pool) l.initial.register l.i l.register l.numbers;
}
