-- `rows::ladder_size` meets its contract: no number is above 507.
-- Assumes nothing.
use Prim.Native.Nat.{◌-◌, ◌/◌, ◌≤◌}
use native.Mathlib.Nat.{div-le_self}
use native.Mathlib.Omega.{arith}
use mathlib.Core.Path.{◌≡◌, ap, ◌∙◌}
use Rattle.grid.specs.Numbers.{number_of}
use Rattle.grid.proofs.Prices.{number_le, number-or}
use Rattle.grid.proofs.Grids.{stride_pos}
use Rattle.rows.specs.Places.{ladder_size}
use Rattle.rows.proofs.ladder_size.Goals.{After-stride_of}
use Rattle.rows.proofs.ladder_size.Goals as goal

from_is : (c : After-stride_of) → c.unwrap_or-from.result ≡ number_of c.args.low
from_is c = number-or c.from.result c.unwrap_or-from.ensures c.number_of.ensures ∙ ap number_of c.from.ensures

to_is : (c : After-stride_of) → c.unwrap_or-to.result ≡ number_of c.args.high
to_is c = number-or c.from-2.result c.unwrap_or-to.ensures c.number_of-2.ensures ∙ ap number_of c.from-2.ensures

small : (c : After-stride_of) → (c.unwrap_or-to.result - c.unwrap_or-from.result) / c.stride_of.result ≤ 507
small c =
    let to = c.unwrap_or-to.result in
    omega (arith, to_is c, number_le c.args.high, div-le_self (to - c.unwrap_or-from.result) c.stride_of.result)

pub nonzero_div-result : goal.nonzero_div-result
nonzero_div-result c = omega (arith, c.stride_of.ensures, stride_pos c.args.tier)

pub overflow_add-result : goal.overflow_add-result
overflow_add-result c = omega (arith, small (goal.at.overflow_add-result c).After-stride_of)

pub returns : goal.returns
unfolding ladder_size
returns c =
    let s = (goal.at.returns c).After-stride_of in
    (rw (from_is s, to_is s, c.stride_of.ensures), omega (arith, small s))
