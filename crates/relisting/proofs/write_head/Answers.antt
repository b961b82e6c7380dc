-- `relisting::write_head` meets its contract.
-- Assumes nothing.
use Rattle.std.proofs.Common.{arith}
use Rattle.std.proofs.lemmas.List.{length-take-le}
use Rattle.layout.specs.Bytes.{rows_from}
use Rattle.relisting.proofs.Head.{head_is}
use Rattle.relisting.proofs.write_head.Goals as goal

pub slice_bounds-fill-end-2 : goal.slice_bounds-fill-end-2
slice_bounds-fill-end-2 c = omega (arith, length-take-le rows_from c.args.register.now (omega (arith, c.told-register)))

pub returns : goal.returns
returns c =
    let a = c.args in
    rw (c.put_word-2.ensures, c.put_word.ensures) (head_is a.day a.count a.register.now c.fill.new.self (omega (arith, c.told-register)) (c.fill.ensures.after (λ y e. e)))
