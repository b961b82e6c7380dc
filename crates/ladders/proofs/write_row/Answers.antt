-- `ladders::write_row` meets its contract.
-- Assumes nothing.
use lib.Seq.{sets-eq}
use Rattle.base.specs.Words.{two}
use Rattle.ladders.specs.Writing.{row_bytes}
use native.Mathlib.Omega.{arith}
use Rattle.ladders.proofs.write_row.Goals as goal

pub returns : goal.returns
unfolding row_bytes two
returns c =
    let a = c.args in
    rw (c.put_word-3.ensures, c.put_word-2.ensures, c.put_word.ensures) (sets-eq (row_bytes a.month a.price a.stretch.now.first a.stretch.now.origin) a.part.now 0 (omega arith))
