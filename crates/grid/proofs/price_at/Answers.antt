-- `grid::price_at` meets its contract: in each band its sum is the price's line.
-- Assumes nothing.
use Rattle.std.proofs.Common.{arith}
use Rattle.grid.proofs.Prices.{price_line}
use Rattle.grid.proofs.price_at.Goals as goal

pub returns-in-0-to-95 : goal.returns-in-0-to-95
returns-in-0-to-95 c = omega (arith, price_line c.args.number)

pub returns-in-96-to-147 : goal.returns-in-96-to-147
returns-in-96-to-147 c = omega (arith, price_line c.args.number)

pub returns-in_default : goal.returns-in_default
returns-in_default c = omega (arith, price_line c.args.number)
