-- `rows::month_place` meets its contract. The loop keeps an equation: the months left, from the byte reached, give the place.
-- Assumes nothing.
use mathlib.Core.Path.{◌≡◌, sym, ap, ◌∙◌}
use mathlib.Core.List.{List}
use Prim.Native.Nat.{ℕ, ◌*◌}
use native.Mathlib.Omega.{arith}
use lib.ListN.{drop, drop_of_length-le}
use Rattle.rows.specs.Places.{month_place}
use Rattle.scan.proofs.Steps.{six_months}
use Rattle.rows.proofs.MonthRows.{size_at, rows-here, rows_next}
use Rattle.rows.proofs.month_place.Goals.{After-ladder_size-size}
use Rattle.rows.proofs.month_place.Goals as goal

size : (c : After-ladder_size-size) →
    let a = c.args in
    let months = c.months-months.result in
    8 * c.ladder_size-size.result ≡ size_at a.running.live.first months a.running.spans c.loop-i.i
size c = rw c.tier.ensures at (ap (λ (k : ℕ). 8 * k) c.ladder_size-size.ensures.0)

pub returns-then-month-from-clause-place : goal.returns-then-month-from-clause-place
returns-then-month-from-clause-place c =
    let a = c.args in
    let l = c.loop-i in
    let v = c.months-months in
    let n = six_months _ _ v.ensures in
    rw (← v.ensures, size (goal.at.returns-then-month-from-clause-place c).After-ladder_size-size)
    (sym (l.invariant.1 ∙ rows-here a.running.live.first a.month l.at v.result a.running.spans l.i (omega arith) (c.if-month-from.true ∙ c.from.ensures)))

pub loop-i-preserved : goal.loop-i-preserved
loop-i-preserved c =
    let a = c.args in
    let l = c.loop-i in
    let v = c.months-months in
    let n = six_months _ _ v.ensures in
    let e = rows_next a.running.live.first a.month l.at v.result a.running.spans l.i (omega arith) (λ e. c.if-month-from.false (e ∙ sym c.from.ensures)) in
    (omega (arith, c.ladder_size-size.ensures.1), l.invariant.1 ∙ e ∙ rw (← size (goal.at.loop-i-preserved c).After-ladder_size-size))

pub returns-clause-place : goal.returns-clause-place
unfolding month_place
returns-clause-place c =
    let a = c.args in
    let l = c.loop-i in
    let v = c.months-months in
    let n = six_months _ _ v.ensures in
    let d = drop_of_length-le v.result {i = l.i} (omega arith) in
    rw (← v.ensures) (sym (l.invariant.1 ∙ ap (λ (ms : List ℕ). month_place a.running.live.first a.month l.at ms (drop l.i a.running.spans)) d))
