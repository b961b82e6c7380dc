-- `base::put_word` meets its contract: a number's high byte is below 256.
-- Assumes nothing.
use Rattle.std.proofs.Common.{◌≡◌, ℕ, ◌+◌, ◌-◌, ◌/◌, ◌%◌, [], sym, ◌∙◌, append_assoc, arith}
use lib.ListN.{take, drop}
use lib.Seq.{sets-eq, drop-drop}
use Rattle.base.specs.Words.{two}
use Rattle.base.proofs.put_word.Goals as goal

pub returns : goal.returns
unfolding two
returns c =
    let bs = c.args.bytes.now in
    let at : ℕ = c.args.at in
    let n : ℕ = c.args.number in
    let size : at + 2 - at ≡ 2 = omega arith in
    let high : n / 256 % 256 ≡ n / 256 = omega arith in
    rw (size, c.copy_from_slice.ensures.after, c.to_le_bytes.ensures, high, drop-drop 2 at bs)
    (sym (sets-eq (two n []) bs at (omega arith) ∙ append_assoc (take at bs) (two n []) (drop (at + 2) bs)))
