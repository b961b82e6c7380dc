-- `names::told` meets its contract: the digits are read two by two.
-- Assumes nothing.
use Rattle.std.proofs.Common.{◌≡◌, arith, length}
use Rattle.base.proofs.ListLaws.{within_l, within_r}
use Rattle.names.specs.Kinds.{kind_number}
use Rattle.names.specs.Names.{kind_read}
use Rattle.names.proofs.ReadLaws.{is-letter, is_digit, month_pair, price_pairs}
use Rattle.names.proofs.told.Goals as goal
use Rattle.names.proofs.told.Goals.{then-letter-lt-CALLS, else-letter-lt-CALLS}

pub overflow_sub-name : goal.overflow_sub-name
overflow_sub-name c = within_l _ _ _ (is-letter c.args.name.now c.requires)

pub pair-requires : goal.pair-requires
pair-requires c = (is_digit c.args.name.now c.requires 5 (omega arith) (omega arith), is_digit c.args.name.now c.requires 6 (omega arith) (omega arith))

pub pair-requires-2 : goal.pair-requires-2
pair-requires-2 c = (is_digit c.args.name.now c.requires 7 (omega arith) (omega arith), is_digit c.args.name.now c.requires 8 (omega arith) (omega arith))

pub pair-requires-3 : goal.pair-requires-3
pair-requires-3 c = (is_digit c.args.name.now c.requires 9 (omega arith) (omega arith), is_digit c.args.name.now c.requires 10 (omega arith) (omega arith))

pub returns : goal.returns
unfolding kind_read
returns c =
    let name = c.args.name.now in
    let long : length name ≡ 11 = omega arith in
    let most = within_r _ _ _ (is-letter name c.requires) in
    let kind : kind_number c.if-letter-lt-CALLS.result ≡ kind_read name =
    elim c.if-letter-lt-CALLS.branch [
      | then-letter-lt-CALLS w ↦ rw w.result-is (omega (arith, c.from-letter.ensures))
      | else-letter-lt-CALLS w ↦ rw w.result-is (omega (arith, most, c.from-letter.ensures))
    ] in
    (rw (c.pair.ensures.0, c.from-letter.ensures, month_pair name long), kind, rw (c.pair-2.ensures.0, c.pair-3.ensures.0, price_pairs name long))
