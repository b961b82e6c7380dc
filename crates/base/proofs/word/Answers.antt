-- `base::word` meets its contract.
-- Assumes nothing.
use Rattle.std.proofs.Common.{add-one, arith}
use Rattle.base.specs.Words.{at16}
use Rattle.base.proofs.word.Goals as goal

pub returns : goal.returns
unfolding at16
returns c = rw (c.from_le_bytes.ensures, ← add-one c.args.at) (omega arith)
