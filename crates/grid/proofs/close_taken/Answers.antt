-- `grid::close_taken` meets its contract.
-- Assumes nothing.
use Rattle.std.proofs.Common.{◌∙◌}
use Rattle.base.specs.Lists.{within}
use Rattle.base.proofs.Tests.{order_le}
use Rattle.grid.specs.Grid.{lowest_close, highest_close, close_taken}
use Rattle.grid.proofs.close_taken.Goals as goal

pub returns : goal.returns
unfolding close_taken within
returns c =
    c.contains.ensures.value
    ∙ rw (c.new.ensures.start, c.new.ensures.end, c.new.ensures.exhausted, order_le lowest_close c.args.close, order_le c.args.close highest_close)
