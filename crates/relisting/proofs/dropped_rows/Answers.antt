-- `relisting::dropped_rows` meets its contract.
-- Assumes nothing.
use Rattle.std.proofs.Common.{sym, ap, ◌∙◌, arith}
use native.Mathlib.Numerals.{add-one}
use Rattle.grid.specs.Numbers.{number_of}
use Rattle.grid.proofs.Prices.{number_le, number-or}
use Rattle.relisting.specs.Writing.{dropped_rows}
use Rattle.relisting.proofs.dropped_rows.Goals as goal

pub overflow_add-result : goal.overflow_add-result
overflow_add-result c =
    let high = number-or c.from.result c.unwrap_or.ensures c.number_of.ensures in
    omega (arith, high, number_le c.from.result)

pub returns-then-eq : goal.returns-then-eq
unfolding dropped_rows
returns-then-eq c = rw (sym c.eq.ensures ∙ c.if-eq.true)

pub returns-else-eq : goal.returns-else-eq
unfolding dropped_rows
returns-else-eq c =
    let high = number-or c.from.result c.unwrap_or.ensures c.number_of.ensures ∙ ap number_of c.from.ensures in
    let low = number-or c.from-else-eq.result c.unwrap_or-else-eq.ensures c.number_of-else-eq.ensures ∙ ap number_of c.from-else-eq.ensures in
    rw (sym c.eq.ensures ∙ c.if-eq.false, low, high, add-one)
