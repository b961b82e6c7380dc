-- `scan::ladder` meets its contract.
-- Assumes nothing.
use Rattle.std.proofs.Common.{◌≡◌, sym, ◌∙◌, map, arith}
use Rattle.grid.proofs.Grids.{stride_le}
use Rattle.grid.proofs.GridLaws.{price_le}
use Rattle.scan.specs.Scan.{scanned, ladder_rows}
use Rattle.scan.proofs.Steps.{none-first, ladder_end, ladder_off, ladder-on, some-rows-i, no-rows-i}
use Rattle.scan.proofs.ladder.Goals.{After-climb}
use Rattle.scan.proofs.ladder.Goals as goal

pub returns-in_err-first : goal.returns-in_err-first
returns-in_err-first c = let a = c.args in rw (c.from_residual.ensures, none-first a.rows.now c.in_err-first.ensures.value, ladder_end a.day a.month a.tier)

pub returns-then-not-on_grid : goal.returns-then-not-on_grid
returns-then-not-on_grid c =
    let a = c.args in
    let e = rw (c.from.ensures, c.word-low.ensures) at c.on_grid.ensures in
    rw (ladder_off a.day a.month a.tier a.rows.now c.in_ok-first.field-0.now c.in_ok-first.ensures.value (sym e ∙ c.if-not-on_grid.true))

pub climb-requires : goal.climb-requires
climb-requires c =
    let t = c.args.tier in
    let e = rw c.from.ensures at c.on_grid.ensures in
    (omega (arith, price_le t _ (sym e ∙ c.if-not-on_grid.false)), omega (arith, c.stride_of.ensures, stride_le t))

climbs : (c : After-climb) → let a = c.args in c.climb.result ≡ ladder_rows a.day a.month a.tier (map scanned a.rows.now)
climbs c =
    let a = c.args in
    let e = rw (c.from.ensures, c.word-low.ensures) at c.on_grid.ensures in
    c.climb.ensures
    ∙ rw (c.stride_of.ensures, c.word-low.ensures)
    (sym (ladder-on a.day a.month a.tier a.rows.now c.in_ok-first.field-0.now c.in_ok-first.ensures.value (sym e ∙ c.if-not-on_grid.false)))

pub returns-in-0 : goal.returns-in-0
returns-in-0 c = no-rows-i _ _ (climbs (goal.at.returns-in-0 c).After-climb) c.in-0.is

pub returns-in_default : goal.returns-in_default
returns-in_default c = some-rows-i _ _ (climbs (goal.at.returns-in_default c).After-climb) (λ z. omega arith)
