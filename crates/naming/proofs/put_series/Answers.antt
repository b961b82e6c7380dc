-- `naming::put_series` meets its contract: tag and length, the name behind them, the origin.
-- Assumes nothing.
use Rattle.std.proofs.Common.{get_or, arith}
use Rattle.base.specs.Words.{two, at16}
use Rattle.names.proofs.NameLaws.{name-length}
use Rattle.names.specs.Names.{name_of}
use Rattle.names.specs.Kinds.{kind_number}
use Rattle.naming.specs.DayFile.{series_of}
use Rattle.naming.proofs.Series.{stored}
use Rattle.naming.proofs.put_series.Goals as goal

pub returns : goal.returns
unfolding series_of two
returns c =
    let a = c.args in
    let month = at16 a.row.now 0 in
    let price = at16 a.row.now 2 in
    rw (c.put.ensures, c.put_word.ensures, c.from-month.ensures, c.from-price.ensures, c.word.ensures, c.word-2.ensures)
    (stored (name_of month (kind_number a.kind) price) (get_or a.row.now 6 0) (name-length month (kind_number a.kind) price) a.part.now (omega arith))
