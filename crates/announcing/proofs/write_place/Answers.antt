-- `announcing::write_place` meets its contract: month and price at the front.
-- Assumes nothing.
use native.Mathlib.Omega.{arith}
use lib.Seq.{sets-eq}
use Rattle.base.specs.Words.{two}
use Rattle.announcing.specs.Placing.{place_bytes}
use Rattle.announcing.proofs.write_place.Goals as goal

pub returns : goal.returns
unfolding two
returns c =
    let a = c.args in
    rw (c.put_word-2.ensures, c.put_word.ensures) (sets-eq (place_bytes a.month a.price) a.part.now 0 (omega arith))
