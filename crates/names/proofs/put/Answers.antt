-- `names::put` meets its contract: four bytes and seven behind them are the name's.
-- Assumes nothing.
use mathlib.Core.Path.{◌≡◌, ◌∙◌}
use mathlib.Core.List.{◌++◌}
use Prim.Native.Nat.{◌+◌, ◌*◌, ◌/◌, ◌%◌}
use native.Mathlib.Omega.{arith}
use lib.ListN.{drop}
use Rattle.base.proofs.Parts.{put_rest}
use Rattle.names.specs.Kinds.{kind_number}
use Rattle.names.specs.Names.{digits, letter, name_of}
use Rattle.names.proofs.put.Goals as goal

pub returns : goal.returns
unfolding name_of letter digits
returns c =
    let a = c.args in
    let letter-is : 65 + (12 * kind_number a.kind + a.month % 12) ≡ 65 + 12 * kind_number a.kind + a.month % 12 = omega arith in
    let thousands : a.price / 10 / 10 / 10 ≡ a.price / 1000 = omega arith in
    let hundreds : a.price / 10 / 10 ≡ a.price / 100 = omega arith in
    put_rest 4 (c.copy_from_slice.new.self ++ drop 4 a.name.now) c.copy_from_slice-2.new.self
    ∙ rw (c.copy_from_slice.ensures.after, c.copy_from_slice-2.ensures.after, c.from.ensures, c.number.ensures, c.digit.ensures, c.digit-2.ensures, c.digit-3.ensures, c.digit-4.ensures, c.digit-5.ensures, c.digit-6.ensures, letter-is, thousands, hundreds)
