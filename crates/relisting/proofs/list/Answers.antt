-- `relisting::list` meets its contract.
-- Assumes nothing.
use Rattle.std.proofs.Common.{map, arith}
use Rattle.layout.specs.Bytes.{row_of}
use Rattle.ladders.specs.Writing.{ladders_from}
use Rattle.ladders.specs.Plans.{plan_of}
use Rattle.ladders.proofs.Ladders.{ladders-count}
use Rattle.relisting.proofs.Head.{listed_head}
use Rattle.relisting.proofs.list.Goals as goal

pub overflow_cast-count : goal.overflow_cast-count
overflow_cast-count c =
    let p = c.args.plans.now in
    omega (arith, c.write_plans-end.ensures.value, ladders-count (plan_of p) 0 6 (map row_of c.args.old.now), p.ready.room)

pub returns-clause-register_after : goal.returns-clause-register_after
returns-clause-register_after c =
    let p = c.args.plans.now in
    let e = c.write_plans-end in
    (listed_head p.day (ladders_from (plan_of p) 0 6 (map row_of c.args.old.now)) e.result c.args.register.now e.new.register c.write_head.new.register
    c.told-register e.ensures.value e.ensures.register_after c.write_head.ensures).1
