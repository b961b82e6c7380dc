-- `layout::is_zero` meets its contract: the greatest byte is zero where all are.
-- Assumes nothing.
use Rattle.std.proofs.Common.{◌≡◌, max, fold, rules}
use Rattle.layout.proofs.ByteLaws.{greatest_zero}
use Rattle.layout.proofs.is_zero.Goals as goal

pub returns : goal.returns
returns c =
    let e : c.fold.result ≡ fold max 0 c.args.bytes.now = search rules in
    rw e (greatest_zero 0 c.args.bytes.now)
