-- `naming::put_type` meets its contract: the series of the later rows stand at the part's front, those of the others behind them.
-- Assumes nothing.
use Rattle.std.proofs.Common.{◌≡◌, ◌∙◌, ◌+◌, ◌*◌, length, arith}
use Rattle.names.specs.Kinds.{kind_number}
use Rattle.naming.proofs.NewRows.{new_in}
use Rattle.naming.proofs.Series.{put-behind, series_bytes, series-length, type_parts}
use Rattle.naming.proofs.put_type.Goals as goal

pub returns-clause-part_after : goal.returns-clause-part_after
returns-clause-part_after c =
    let a = c.args in
    let later = new_in a.day a.later.now in
    let earlier = new_in a.day a.earlier.now in
    let e = c.put_part-end.ensures in
    let f = c.put_part.ensures in
    let n : c.put_part-end.result + c.put_part.result ≡ 15 * (length earlier + length later) = omega (arith, e.value, f.value) in
    put-behind a.part.now (series_bytes (kind_number a.kind) later) c.put_part-end.new.part c.put_part-end.result (rw (← e.value) at e.part_after) (omega (arith, series-length (kind_number a.kind) later, e.value))
    (series_bytes (kind_number a.kind) earlier) c.put_part.new.part c.put_part.result (rw (← f.value) at f.part_after)
    ∙ rw (n, type_parts (kind_number a.kind) earlier later)
