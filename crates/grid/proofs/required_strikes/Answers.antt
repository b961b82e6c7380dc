-- `grid::required_strikes` meets its contract: the numbers 16 below and 16 above the nearest are those of what is required.
-- Assumes nothing.
use Rattle.std.proofs.Common.{◌∙◌, arith}
use Rattle.grid.proofs.Required.{required-numbers}
use Rattle.grid.proofs.required_strikes.Goals as goal

pub returns : goal.returns
returns c =
    let r = required-numbers c.args.tier c.args.close.hundredths c.nearest_number-j.result c.nearest_number-j.ensures _ _ (omega arith) (omega arith) in
    (c.price_at.ensures ∙ r.lowest, c.price_at-2.ensures ∙ r.highest)
