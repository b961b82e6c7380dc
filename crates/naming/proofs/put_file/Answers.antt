-- `naming::put_file` meets its contract: the day, the calls behind it, the puts behind them.
-- Assumes nothing.
use Rattle.std.proofs.Common.{◌≡◌, ◌∙◌, ◌+◌, ◌-◌, ◌*◌, [], ◌∷◌, ◌++◌, length, drop, map, length-append, arith}
use borrow.Rule.Slice.PartMut.{put_mid}
use Rattle.fields.specs.Fields.{fields_bytes, day_field}
use Rattle.layout.specs.Bytes.{row_of}
use Rattle.naming.proofs.NewRows.{new_in}
use Rattle.naming.proofs.Series.{put-behind, type_bytes, type-length, file_parts, day-length}
use Rattle.naming.proofs.put_file.Goals as goal

pub returns : goal.returns
returns c =
    let a = c.args in
    let day = fields_bytes (day_field a.day ∷ []) in
    let earlier = new_in a.day a.earlier.now in
    let later = new_in a.day a.later.now in
    let k = c.put_type-calls in
    let p = c.put_type in
    -- the file when the calls are in it
    let file = put_mid 5 (length c.put_day.new.part - 5) c.put_day.new.part k.new.part in
    let with-calls : file ≡ (day ++ type_bytes 0 earlier later) ++ drop (5 + k.result) a.file.now =
    put-behind a.file.now day c.put_day.new.part 5 c.put_day.ensures (day-length a.day) (type_bytes 0 earlier later) k.new.part k.result (rw (← k.ensures.value) at k.ensures.part_after) in
    let l : length (day ++ type_bytes 0 earlier later) ≡ 5 + k.result = omega (arith, length-append day (type_bytes 0 earlier later), day-length a.day, type-length 0 earlier later, k.ensures.value) in
    let n : 5 + k.result + p.result ≡ 5 + 30 * (length earlier + length later) = omega (arith, k.ensures.value, p.ensures.value) in
    put-behind a.file.now (day ++ type_bytes 0 earlier later) file (5 + k.result) with-calls l (type_bytes 1 earlier later) p.new.part p.result (rw (← p.ensures.value) at p.ensures.part_after)
    ∙ rw (n, file_parts a.day (map row_of a.earlier.now) (map row_of a.later.now))
