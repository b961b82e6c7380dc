-- `passing::least_byte` meets its contract: the least of the bytes passed goes along.
-- Assumes nothing.
use Rattle.std.proofs.Common.{◌≡◌, min, fold, rules}
use Rattle.base.proofs.ListLaws.{least_fold}
use Rattle.passing.proofs.least_byte.Goals as goal

pub returns : goal.returns
returns c =
    let e : c.fold.result ≡ fold min 255 c.args.bytes.now = search rules in
    rw e (least_fold 255 c.args.bytes.now)
