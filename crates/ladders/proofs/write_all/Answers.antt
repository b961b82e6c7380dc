-- `ladders::write_all` meets its contract: what the loop keeps is Ladders's Inv.
-- Assumes nothing.
use Rattle.std.proofs.Common.{refl, length, map, get_or, arith}
use Rattle.layout.specs.Bytes.{row_of}
use Rattle.ladders.specs.Plans.{any_plan_of}
use Rattle.ladders.proofs.Ladders.{begin, room, part_room, turn, at_end, cleared}
use Rattle.ladders.proofs.write_all.Goals as goal

pub loop-i-init : goal.loop-i-init
loop-i-init c =
    let p = c.args.plans.now in
    begin (get_or p.months 0 0) (any_plan_of p) c.args.register.now (map row_of c.args.old.now) c.requires p.ready

pub write_ladder-written-requires : goal.write_ladder-written-requires
write_ladder-written-requires c =
    let p = c.args.plans.now in
    let l = c.loop-i in
    rw c.plan-plan.ensures (
      p.ready.spanned l.i c.loop-i-test.true,
      part_room (get_or p.months 0 0) (any_plan_of p) c.args.register.now (map row_of c.args.old.now) c.requires p.ready l.register l.at (map row_of l.left.now) l.i l.invariant c.loop-i-test.true
          (length l.register) refl,
    )

pub overflow_add-at : goal.overflow_add-at
overflow_add-at c =
    let p = c.args.plans.now in
    let l = c.loop-i in
    let r = room (get_or p.months 0 0) (any_plan_of p) c.args.register.now (map row_of c.args.old.now) c.requires p.ready l.register l.at (map row_of l.left.now) l.i l.invariant c.loop-i-test.true in
    let w = rw c.plan-plan.ensures at c.write_ladder-written.ensures.size in
    omega (arith, w, r)

pub loop-i-preserved : goal.loop-i-preserved
loop-i-preserved c =
    let p = c.args.plans.now in
    let l = c.loop-i in
    rw (rw c.plan-plan.ensures at c.write_ladder-written.ensures.size)
    (turn (get_or p.months 0 0) (any_plan_of p) c.args.register.now (map row_of c.args.old.now) c.requires p.ready l.register l.at (map row_of l.left.now) l.i l.invariant c.loop-i-test.true
    (length l.register) refl c.write_ladder-written.new.rest (map row_of c.write_ladder-written.result.left.now) (rw c.plan-plan.ensures at c.write_ladder-written.ensures.left)
    (rw c.plan-plan.ensures at c.write_ladder-written.ensures.rest_after))

pub returns : goal.returns
returns c =
    let p = c.args.plans.now in
    let l = c.loop-i in
    record {
      value = at_end (get_or p.months 0 0) (any_plan_of p) c.args.register.now (map row_of c.args.old.now) c.requires p.ready l.register l.at (map row_of l.left.now) l.i l.invariant c.loop-i-test.false;
      register_after = cleared (get_or p.months 0 0) (any_plan_of p) c.args.register.now (map row_of c.args.old.now) c.requires p.ready l.register l.at (map row_of l.left.now) l.i l.invariant c.loop-i-test.false
          (length l.register) refl c.fill.new.self (c.fill.ensures.after (λ y e. e));
    }
