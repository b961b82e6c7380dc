-- `relisting::relist` meets its contract: the old rows are those of the copy.
-- Assumes nothing.
use Rattle.std.proofs.Common.{◌≡◌, map, drop}
use Rattle.std.proofs.lemmas.List.{drop-map}
use Rattle.layout.specs.Bytes.{rows_from, row_of, read_rows}
use Rattle.layout.proofs.Chunks.{rows_chunked}
use Rattle.relisting.proofs.relist.Goals.{After-split_at}
use Rattle.relisting.proofs.relist.Goals as goal

old_is : (c : After-split_at) → let a = c.args in map row_of c.split_at.result.1.now ≡ drop a.dropped (read_rows a.rows (drop rows_from a.register.now))
old_is c =
    rw (c.split_at.ensures.back, c.from-2.ensures, ← drop-map row_of c.args.dropped c.rows.result.now, c.rows.ensures.bytes, c.from.ensures, rows_chunked c.args.rows (drop rows_from c.args.register.now))

pub returns-clause-value : goal.returns-clause-value
returns-clause-value c = rw (← old_is (goal.at.returns-clause-value c).After-split_at) c.list.ensures.value

pub returns-clause-register_after : goal.returns-clause-register_after
returns-clause-register_after c = rw (← old_is (goal.at.returns-clause-register_after c).After-split_at) c.list.ensures.register_after
