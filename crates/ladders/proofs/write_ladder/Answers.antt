-- `ladders::write_ladder` meets its contract: what the loop keeps is Ladder's Going.
-- Assumes nothing.
use Rattle.std.proofs.Common.{refl, map, length-drop, rules, arith}
use Rattle.grid.specs.Numbers.{price}
use Rattle.layout.specs.Bytes.{row_of}
use Rattle.ladders.specs.Writing.{Alike}
use Rattle.base.proofs.Parts.{whole_part}
use Rattle.ladders.proofs.Ladder.{going, price_in, room_for, same, step-up, step_in, step-on, size_is, bytes_are, left_are}
use Rattle.ladders.proofs.write_ladder.Goals.{After-write_row, then-stretch-price, else-stretch-price}
use Rattle.ladders.proofs.write_ladder.Goals as goal

-- the stretch at a turn: a new one, or the same
at_turn : (c : After-write_row) → let j = c.if-stretch-price in Alike c.args.plan.now (map row_of c.loop-price.left.now) c.loop-price.price j.stretch (map row_of j.left.now)
at_turn c =
    let m = c.args.plan.now in
    let l = c.loop-price in
    elim c.if-stretch-price.branch [
      | then-stretch-price w ↦ rw (w.stretch-is, w.left-is) w.stretch_from-found.ensures
      | else-stretch-price w ↦
          rw (w.stretch-is, w.left-is) (same m c.args.rest.now (map row_of c.args.old.now) c.requires.0 l.rest l.price l.stretch l.at (map row_of l.left.now) l.invariant (rw c.from-high.ensures at c.loop-price-test.true) w.if-stretch-price.false)
    ]

pub loop-price-init : goal.loop-price-init
loop-price-init c = rw c.from-price.ensures (going c.args.plan.now c.args.rest.now (map row_of c.args.old.now) c.requires.0 _ refl)

pub stretch_from-found-requires : goal.stretch_from-found-requires
stretch_from-found-requires c =
    let l = c.loop-price in
    price_in c.args.plan.now c.args.rest.now (map row_of c.args.old.now) c.requires.0 l.rest l.price l.stretch l.at (map row_of l.left.now) l.invariant (rw c.from-high.ensures at c.loop-price-test.true)

pub write_row-requires : goal.write_row-requires
write_row-requires c =
    let l = c.loop-price in
    let r = room_for c.args.plan.now c.args.rest.now (map row_of c.args.old.now) c.requires.0 l.rest l.price l.stretch l.at (map row_of l.left.now) l.invariant (rw c.from-high.ensures at c.loop-price-test.true) in
    rw whole_part (simp length-drop (omega (arith, r, l.invariant.inv.size, c.requires.1)))

pub overflow_add-price : goal.overflow_add-price
unfolding price
overflow_add-price c =
    let l = c.loop-price in
    let j = c.if-stretch-price in
    omega (
      arith,
      step_in c.args.plan.now c.args.rest.now (map row_of c.args.old.now) c.requires.0 l.rest l.price l.stretch l.at (map row_of l.left.now) l.invariant (rw c.from-high.ensures at c.loop-price-test.true) j.stretch (map row_of j.left.now)
          (at_turn (goal.at.overflow_add-price c).After-write_row),
    )

pub loop-price-smaller : goal.loop-price-smaller
loop-price-smaller c =
    let l = c.loop-price in
    let j = c.if-stretch-price in
    omega (
      arith,
      c.loop-price-test.true,
      step-up c.args.plan.now c.args.rest.now (map row_of c.args.old.now) c.requires.0 l.rest l.price l.stretch l.at (map row_of l.left.now) l.invariant (rw c.from-high.ensures at c.loop-price-test.true) j.stretch (map row_of j.left.now)
          (at_turn (goal.at.loop-price-smaller c).After-write_row),
    )

pub loop-price-preserved : goal.loop-price-preserved
loop-price-preserved c =
    let l = c.loop-price in
    let j = c.if-stretch-price in
    step-on c.args.plan.now c.args.rest.now (map row_of c.args.old.now) c.requires.0 l.rest l.price l.stretch l.at (map row_of l.left.now) l.invariant (rw c.from-high.ensures at c.loop-price-test.true) j.stretch (map row_of j.left.now)
    (at_turn (goal.at.loop-price-preserved c).After-write_row) c.write_row.new.part c.write_row.ensures (search rules)

pub returns : goal.returns
returns c =
    let a = c.args in
    let l = c.loop-price in
    record {
      size = size_is a.plan.now a.rest.now (map row_of a.old.now) c.requires.0 l.rest l.price l.stretch l.at (map row_of l.left.now) l.invariant (rw c.from-high.ensures at c.loop-price-test.false);
      left = left_are a.plan.now a.rest.now (map row_of a.old.now) c.requires.0 l.rest l.price l.stretch l.at (map row_of l.left.now) l.invariant (rw c.from-high.ensures at c.loop-price-test.false);
      rest_after = bytes_are a.plan.now a.rest.now (map row_of a.old.now) c.requires.0 l.rest l.price l.stretch l.at (map row_of l.left.now) l.invariant (rw c.from-high.ensures at c.loop-price-test.false);
    }
