-- What the loops of `naming::put_part` keep.
-- Assumes nothing.
use Rattle.std.proofs.Common.{◌≡◌, ◌++◌, ◌*◌, length, take, drop}
use Rattle.names.specs.Kinds.{kind_number}
use Rattle.naming.proofs.NewRows.{new_in}
use Rattle.naming.proofs.Series.{series_bytes}
use Rattle.naming.proofs.put_part.Given as goal

abbrev pub invariant-loop-row : goal.invariant-loop-row
invariant-loop-row l = record {
  end_is : l.end ≡ 15 * length (new_in l.day (take l.row-index l.rows));
  part_is : l.part ≡ series_bytes (kind_number l.kind) (new_in l.day (take l.row-index l.rows)) ++ drop l.end l.initial.part;
}
