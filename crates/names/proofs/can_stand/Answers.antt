-- `names::can_stand` meets its contract: each return rewrites with the tests that led there.
-- Assumes nothing.
use Rattle.std.proofs.Common.{arith, ◌≡◌, ◌∙◌}
use borrow.Author.Tests.{lt-ltb, le-ltb, ne_eqb}
use Rattle.base.proofs.Tests.{order_le}
use Rattle.base.specs.Lists.{within}
use Rattle.names.specs.Names.{can_stand}
use Rattle.names.proofs.can_stand.Goals as goal

pub returns-in-0-to-3 : goal.returns-in-0-to-3
unfolding can_stand
returns-in-0-to-3 c = rw (lt-ltb c.args.place 4 (omega arith))

pub returns-in-4 : goal.returns-in-4
unfolding can_stand within
returns-in-4 c =
    let four : c.args.place ≡ 4 = omega arith in
    rw four (c.contains.ensures.value ∙ rw (c.new.ensures.start, c.new.ensures.end, c.new.ensures.exhausted, order_le 65 c.args.byte, order_le c.args.byte 88))

pub returns-in_default : goal.returns-in_default
unfolding can_stand within
returns-in_default c = rw (le-ltb c.args.place 4 (omega arith), ne_eqb c.args.place 4 (omega arith)) c.is_ascii_digit.ensures.value
