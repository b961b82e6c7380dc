-- `names::pair` meets its contract: digits lie from 48 to 57.
-- Assumes nothing.
use native.Mathlib.Omega.{arith}
use Rattle.base.proofs.ListLaws.{within_l, within_r}
use Rattle.names.specs.Names.{value_from}
use Rattle.names.proofs.pair.Goals as goal

pub overflow_sub-tens : goal.overflow_sub-tens
overflow_sub-tens c = within_l _ _ _ c.requires.0

pub overflow_sub-ones : goal.overflow_sub-ones
overflow_sub-ones c = within_l _ _ _ c.requires.1

pub returns : goal.returns
unfolding value_from
returns c = (omega (arith, c.from.ensures, c.from-2.ensures), omega (arith, c.from.ensures, c.from-2.ensures, within_r _ _ _ c.requires.0, within_r _ _ _ c.requires.1))
