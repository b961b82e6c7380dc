-- `names::first_misplaced` meets its contract. The loop keeps an equation: the search from `place` on is the whole search.
-- Assumes nothing.
use mathlib.Core.Path.{sym, ap, ◌∙◌}
use mathlib.Core.Bool.{not}
use native.Mathlib.Omega.{arith}
use Rattle.base.proofs.SearchLaws.{first_end, first_hit, first_miss, found_at, found-none}
use Rattle.names.specs.Names.{misplaced, name_length}
use Rattle.names.proofs.first_misplaced.Goals as goal

pub returns-then-not-can_stand : goal.returns-then-not-can_stand
unfolding misplaced
returns-then-not-can_stand c =
    let wrong = ap not (sym c.can_stand.ensures) ∙ ap not c.if-not-can_stand.true in
    sym (found_at (misplaced c.args.name.now) 0 name_length c.loop-place.place (omega arith) (c.loop-place.invariant ∙ first_hit _ _ _ (omega arith) wrong))

pub loop-place-preserved : goal.loop-place-preserved
unfolding misplaced
loop-place-preserved c =
    c.loop-place.invariant ∙ first_miss _ _ _ (omega arith) (ap not (sym c.can_stand.ensures) ∙ ap not c.if-not-can_stand.false)

pub returns : goal.returns
returns c =
    let wrong = misplaced c.args.name.now in
    sym (found-none wrong 0 name_length (omega (arith, c.loop-place.invariant, first_end wrong c.loop-place.place name_length (omega arith))))
