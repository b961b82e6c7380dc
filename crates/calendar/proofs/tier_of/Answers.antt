-- `calendar::tier_of` meets its contract: each return is a case of the tiers.
-- Assumes nothing.
use mathlib.Core.Path.{sym}
use native.Mathlib.Omega.{arith}
use Rattle.calendar.proofs.LiveLaws.{tier_n, tier_m, tier_f}
use Rattle.calendar.proofs.tier_of.Goals as goal

pub returns-then-month-first : goal.returns-then-month-first
returns-then-month-first c = sym (tier_n _ _ (omega arith))

pub returns-then-month-first-2 : goal.returns-then-month-first-2
returns-then-month-first-2 c = sym (tier_m _ _ (omega arith) (omega arith))

pub returns-else-month-first-2 : goal.returns-else-month-first-2
returns-else-month-first-2 c = sym (tier_f _ _ (omega arith))
