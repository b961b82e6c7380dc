-- `parsing::Field::can_stand` meets its contract: each return rewrites with the tests that led there.
-- Assumes nothing.
use Rattle.std.proofs.Common.{◌≡◌, arith}
use borrow.Author.Tests.{ne_eqb}
use Rattle.fields.specs.Reading.{byte_stands}
use Rattle.parsing.proofs.Checks.{tag_byte, length_byte}
use Rattle.parsing.proofs.Field.can_stand.Goals as goal

pub returns-in-0 : goal.returns-in-0
unfolding byte_stands
returns-in-0 c = let zero : c.args.place ≡ 0 = omega arith in rw (zero, c.tag.ensures) (tag_byte c.args.self c.args.byte)

pub returns-in-1 : goal.returns-in-1
unfolding byte_stands
returns-in-1 c = let one : c.args.place ≡ 1 = omega arith in rw (one, c.from.ensures, c.length.ensures) (length_byte c.args.self c.args.byte)

pub returns-in-2 : goal.returns-in-2
unfolding byte_stands
returns-in-2 c = let two : c.args.place ≡ 2 = omega arith in rw two

pub returns-in_default : goal.returns-in_default
unfolding byte_stands
returns-in_default c = rw (ne_eqb c.args.place 0 (omega arith), ne_eqb c.args.place 1 (omega arith), ne_eqb c.args.place 2 (omega arith)) c.content_stands.ensures
