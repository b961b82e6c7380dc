-- `register::Running::refusal` meets its contract: the causes are tried downwards.
-- Assumes nothing.
use Rattle.std.proofs.Common.{◌≡◌, sym, ◌∙◌, ◌==◌, ◌≤◌, [], length, get_or, Some, arith, rules, tests, true}
use Rattle.std.proofs.lemmas.Iterator.{YieldsList-from_slice}
use Rattle.std.proofs.lemmas.Iterator.Search.{position_from_yields_List}
use Rattle.std.proofs.lemmas.Result.{err_from_is_err_and}
use Rattle.base.specs.Lists.{elem, within}
use Rattle.base.proofs.Tests.{order_le}
use Rattle.calendar.specs.Live.{live_months}
use Rattle.grid.specs.Grid.{grid_of}
use Rattle.calendar.specs.Live.{tier_of}
use Rattle.rules.specs.Rules.{last_first_month}
use Rattle.layout.specs.Spans.{span_in}
use Rattle.scan.proofs.Steps.{six_months}
use Rattle.register.proofs.Waiting.{Places, places}
use Rattle.register.proofs.Refusals.{late, not_live, expired, off-grid, waiting, inside, outside}
use Rattle.register.proofs.Running.refusal.Goals.{In-Some, After-on_grid, After-contains}
use Rattle.register.proofs.Running.refusal.Goals as goal

early : (c : In-Some) → c.args.next ≤ last_first_month
early c = omega (arith, c.in_ok-next.next.latest, c.in_ok-next.ensures)

-- where the month stands among the live months
at : (c : In-Some) → Places c.args.month c.months-months.result (Some c.in-Some.i)
at c =
    let m = c.args.month in
    let ms = c.months-months.result in
    let e = position_from_yields_List (λ n. m == n) _ _ c.position.result c.position.ensures.ran (YieldsList-from_slice ms cc) (λ x b q k. search (rules, tests)) in
    places m ms (six_months _ ms c.months-months.ensures) _ (sym c.in-Some.is ∙ e)

live : (c : In-Some) → elem c.args.month (live_months c.args.self.live.first) ≡ true
live c = rw c.months-months.ensures at ((at c).1)

-- the month's span is the one that is read
span : (c : In-Some) → span_in (live_months c.args.self.live.first) c.args.self.spans c.args.month ≡ get_or c.args.self.spans c.in-Some.i []
span c =
    let six : length c.args.self.spans ≡ 6 = search rules in
    rw c.months-months.ensures at ((at c).3 c.args.self.spans six)

-- the grid is the month's at the next session
grid : (c : After-on_grid) → get_or c.months-months.result c.in-Some.i 0 ≡ c.args.month → c.on_grid.result ≡ elem c.args.price (grid_of (tier_of c.args.next c.args.month))
grid c e = c.on_grid.ensures ∙ rw (c.tier.ensures, e, c.in_ok-next.ensures)

-- whether the price lies within it
held : (c : After-contains) →
    let span = get_or c.args.self.spans c.in-Some.i [] in
    c.contains.result ≡ within (get_or span 0 0) (get_or span 1 0) c.args.price
unfolding within
held c =
    let span = get_or c.args.self.spans c.in-Some.i [] in
    c.contains.ensures.value
    ∙ rw (c.new.ensures.start, c.new.ensures.end, c.new.ensures.exhausted, c.from.ensures, c.from-2.ensures, order_le (get_or span 0 0) c.args.price, order_le c.args.price (get_or span 1 0))

pub returns-in_err-next : goal.returns-in_err-next
returns-in_err-next c =
    let p = err_from_is_err_and c.from_residual.result c.from_residual.ensures.1 in
    let e = c.in_err-next.ensures in
    rw (p.1, p.2, e.0) (sym (late _ _ _ _ _ _ e.1))

pub returns-in_default : goal.returns-in_default
returns-in_default c =
    let m = c.args.month in
    let ms = c.months-months.result in
    let e = position_from_yields_List (λ n. m == n) _ _ c.position.result c.position.ensures.ran (YieldsList-from_slice ms cc) (λ x b q k. search (rules, tests)) in
    let n = places m ms (six_months _ ms c.months-months.ensures) _ (sym c.in_default.is ∙ e) in
    sym (not_live _ _ _ _ _ _ (omega (arith, c.in_ok-next.next.latest, c.in_ok-next.ensures)) (rw c.months-months.ensures at n))

pub returns-then-live-next : goal.returns-then-live-next
returns-then-live-next c =
    let w = (goal.at.returns-then-live-next c).In-Some in
    sym (expired _ _ _ _ _ _ (early w) (live w) (rw ((at w).2, c.in_ok-next.ensures) at c.if-live-next.true))

pub returns-then-not-on_grid : goal.returns-then-not-on_grid
returns-then-not-on_grid c =
    let w = (goal.at.returns-then-not-on_grid c).In-Some in
    sym (off-grid _ _ _ _ _ _ (early w) (live w) (rw ((at w).2, c.in_ok-next.ensures) at c.if-live-next.false)
    (sym (grid (goal.at.returns-then-not-on_grid c).After-on_grid (at w).2) ∙ c.if-not-on_grid.true))

pub returns-then-waits : goal.returns-then-waits
returns-then-waits c =
    let w = (goal.at.returns-then-waits c).In-Some in
    sym (waiting _ _ _ _ _ _ (early w) (live w) (rw ((at w).2, c.in_ok-next.ensures) at c.if-live-next.false)
    (sym (grid (goal.at.returns-then-waits c).After-on_grid (at w).2) ∙ c.if-not-on_grid.false) c.if-waits.true)

pub returns-then-contains : goal.returns-then-contains
returns-then-contains c =
    let g = goal.at.returns-then-contains c in
    let w = g.In-Some in
    sym (inside _ _ _ _ _ _ (early w) (live w) (rw ((at w).2, c.in_ok-next.ensures) at c.if-live-next.false)
    (sym (grid g.After-on_grid (at w).2) ∙ c.if-not-on_grid.false) (rw (span w) (sym (held g.After-contains) ∙ c.if-contains.true)))

pub returns : goal.returns
returns c =
    let g = goal.at.returns c in
    let w = g.In-Some in
    sym (outside _ _ _ _ _ _ (early w) (live w) (rw ((at w).2, c.in_ok-next.ensures) at c.if-live-next.false)
    (sym (grid g.After-on_grid (at w).2) ∙ c.if-not-on_grid.false) c.if-waits.false (rw (span w) (sym (held g.After-contains) ∙ c.if-contains.false)))
