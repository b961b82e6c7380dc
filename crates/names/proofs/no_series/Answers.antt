-- `names::no_series` meets its contract: a type is 0 or 1.
-- Assumes nothing.
use Rattle.std.proofs.Common.{arith, ap}
use mathlib.Core.Bool.{not}
use borrow.Author.Tests.{lt-ltb, le-ltb, le-leb}
use Rattle.dates.specs.Months.{month_count}
use Rattle.names.specs.Names.{no_series}
use Rattle.names.proofs.KindLaws.{one_kind}
use Rattle.names.proofs.no_series.Goals as goal

pub returns-then-month-from : goal.returns-then-month-from
unfolding no_series
returns-then-month-from c = rw (c.from.ensures, le-ltb c.args.month month_count (omega arith), le-leb month_count c.args.month (omega arith))

pub returns-else-month-from : goal.returns-else-month-from
unfolding no_series
returns-else-month-from c = rw (lt-ltb c.args.month month_count (omega arith), one_kind c.args.kind) (ap not c.on_grid.ensures)
