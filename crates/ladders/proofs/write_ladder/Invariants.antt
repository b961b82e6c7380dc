-- What the loops of `ladders::write_ladder` keep.
-- Assumes nothing.
use Rattle.std.proofs.Common.{◌+◌, ◌-◌, map}
use Rattle.layout.specs.Bytes.{row_of}
use Rattle.ladders.proofs.Ladder.{Going}
use Rattle.ladders.proofs.write_ladder.Given as goal

abbrev pub invariant-loop-price : goal.invariant-loop-price
invariant-loop-price l = Going l.plan l.initial.rest (map row_of l.old) l.rest l.price l.stretch l.at (map row_of l.left)

abbrev pub decreases-loop-price : goal.decreases-loop-price
decreases-loop-price l = l.high + 1 - l.price
