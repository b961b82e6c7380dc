-- `grid::on_grid` meets its contract: a price is on a tier's grid where it has a number and that is a multiple of the stride.
-- Assumes nothing.
use Rattle.std.proofs.Common.{sym, arith}
use Rattle.grid.proofs.Grids.{stride_pos, no_number, by_number}
use Rattle.grid.proofs.Prices.{numbered, unnumbered}
use Rattle.grid.proofs.on_grid.Goals as goal

pub nonzero_rem-result : goal.nonzero_rem-result
nonzero_rem-result c = omega (arith, c.stride_of.ensures, stride_pos c.args.tier)

pub returns-in-Some : goal.returns-in-Some
returns-in-Some c =
    let n = numbered c.args.price c.in-Some.number c.in-Some.ensures in
    rw (← n.0, c.stride_of.ensures) (sym (by_number c.args.tier c.args.price n.1))

pub returns-in-None : goal.returns-in-None
returns-in-None c = sym (no_number c.args.tier c.args.price (unnumbered c.args.price c.in-None.ensures))
