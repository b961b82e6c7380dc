-- What the loops of `parsing::copy_list` keep.
-- Assumes nothing.
use Rattle.parsing.proofs.Copies.{Copied}
use Rattle.parsing.proofs.copy_list.Given as goal

abbrev pub invariant-loop-i : goal.invariant-loop-i
invariant-loop-i l = Copied l.file l.initial.list l.list l.i
