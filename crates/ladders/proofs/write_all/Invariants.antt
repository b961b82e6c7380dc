-- What the loops of `ladders::write_all` keep.
-- Assumes nothing.
use Rattle.std.proofs.Common.{map, get_or}
use Rattle.layout.specs.Bytes.{row_of}
use Rattle.ladders.specs.Plans.{any_plan_of}
use Rattle.ladders.proofs.Ladders.{Inv}
use Rattle.ladders.proofs.write_all.Given as goal

abbrev pub invariant-loop-i : goal.invariant-loop-i
invariant-loop-i l = Inv (get_or l.plans.months 0 0) (any_plan_of l.plans) l.initial.register (map row_of l.old) l.register l.at (map row_of l.left) l.i
