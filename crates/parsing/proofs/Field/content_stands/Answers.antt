-- `parsing::Field::content_stands` meets its contract: each return rewrites with the tests that led there.
-- Assumes nothing.
use Rattle.std.proofs.Common.{◌∙◌}
use borrow.Author.Tests.{lt-ltb, le-ltb}
use Rattle.base.specs.Lists.{within}
use Rattle.base.proofs.Tests.{order_le}
use Rattle.fields.specs.Reading.{content_stands}
use Rattle.parsing.proofs.Field.content_stands.Goals as goal

pub returns-in-Day : goal.returns-in-Day
unfolding content_stands
returns-in-Day c = rw c.in-Day.is

pub returns-in-Series : goal.returns-in-Series
unfolding content_stands
returns-in-Series c = rw (c.in-Series.is, lt-ltb _ _ c.if-place-lt-LENGTH.true) c.can_stand.ensures

pub returns-in-Series-2 : goal.returns-in-Series-2
unfolding content_stands within
returns-in-Series-2 c =
    rw (c.in-Series-2.is, le-ltb _ _ c.if-place-lt-LENGTH.false)
    (c.contains.ensures.value ∙ rw (c.new.ensures.start, c.new.ensures.end, c.new.ensures.exhausted, order_le 1 c.args.byte, order_le c.args.byte 5))
