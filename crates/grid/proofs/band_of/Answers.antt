-- `grid::band_of` meets its contract.
-- Assumes nothing.
use Rattle.std.proofs.Common.{refl, arith}
use borrow.Author.Tests.{lt-ltb, le-ltb}
use Rattle.grid.specs.Numbers.{band_step, band_end}
use Rattle.grid.proofs.band_of.Goals as goal

pub returns-in-0-to-479 : goal.returns-in-0-to-479
unfolding band_step band_end
returns-in-0-to-479 c = rw (lt-ltb c.args.price 480 (omega arith)) (refl, omega arith, refl)

pub returns-in-480-to-999 : goal.returns-in-480-to-999
unfolding band_step band_end
returns-in-480-to-999 c = rw (le-ltb c.args.price 480 (omega arith), lt-ltb c.args.price 1000 (omega arith)) (refl, omega arith, refl)

pub returns-in_default : goal.returns-in_default
unfolding band_step band_end
returns-in_default c = rw (le-ltb c.args.price 480 (omega arith), le-ltb c.args.price 1000 (omega arith)) (refl, omega arith, refl)
