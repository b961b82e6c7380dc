-- A number within the bounds is a close that is taken.
-- Assumes nothing.
use Rattle.std.proofs.Common.{sym, ◌∙◌}
use Rattle.base.proofs.ListLaws.{within_l, within_r}
use Rattle.grid.specs.Grid.{close_taken}
use Rattle.grid.proofs.CloseTryFromU32.try_from.Goals as goal

pub invariant_of-result : goal.invariant_of-result
unfolding close_taken
invariant_of-result c =
    let taken = sym c.close_taken.ensures ∙ c.if-close_taken.true in
    record { lowest = within_l _ _ _ taken; highest = within_r _ _ _ taken }
