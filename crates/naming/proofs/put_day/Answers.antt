-- `naming::put_day` meets its contract: tag, length and day are stored at the front.
-- Assumes nothing.
use mathlib.Core.List.{[], ◌∷◌}
use native.Mathlib.Omega.{arith}
use lib.Seq.{sets-eq}
use Rattle.base.specs.Words.{two}
use Rattle.fields.specs.Fields.{fields_bytes, day_field}
use Rattle.naming.proofs.put_day.Goals as goal

pub returns : goal.returns
unfolding fields_bytes day_field two
returns c =
    let a = c.args in
    rw (c.put_word-2.ensures, c.put_word.ensures) (sets-eq (fields_bytes (day_field a.day ∷ [])) a.part.now 0 (omega arith))
