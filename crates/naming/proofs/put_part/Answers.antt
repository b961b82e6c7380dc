-- `naming::put_part` meets its contract: what the loop keeps is that the series of the rows passed stand at the part's front.
-- Assumes nothing.
use Rattle.std.proofs.Common.{sym, ◌∙◌, ◌+◌, ◌≤◌, length, take, length-drop, arith}
use Rattle.base.proofs.Parts.{whole_part}
use Rattle.fields.specs.Fields.{fields_bytes}
use Rattle.names.specs.Kinds.{kind_number}
use Rattle.naming.specs.DayFile.{new_rows, series_of}
use Rattle.naming.proofs.NewRows.{new_in, one_more, new_other}
use Rattle.naming.proofs.Series.{put-behind, series_bytes, series-length, series-here, here_in}
use Rattle.naming.proofs.put_part.Goals.{Then-is_new, then-is_new, else-is_new}
use Rattle.naming.proofs.put_part.Goals as goal

-- a series has room
room : (c : Then-is_new) → c.loop-row.end + 15 ≤ length c.loop-row.part
room c =
    let a = c.args in
    let l = c.loop-row in
    omega (arith, here_in (kind_number a.kind) a.day a.rows.now l.row-index c.loop-row-test.true (sym c.is_new.ensures ∙ c.if-is_new.true), l.invariant.end_is)

pub loop-row-init : goal.loop-row-init
unfolding new_rows series_of fields_bytes
loop-row-init c = record { end_is = omega arith; part_is = λ i. c.args.part.now }

pub slice_bounds-put_series-count : goal.slice_bounds-put_series-count
slice_bounds-put_series-count c = omega (arith, room (goal.at.slice_bounds-put_series-count c).Then-is_new)

pub slice_bounds-put_series-start : goal.slice_bounds-put_series-start
slice_bounds-put_series-start c = omega (arith, room (goal.at.slice_bounds-put_series-start c).Then-is_new)

pub put_series-requires : goal.put_series-requires
put_series-requires c =
    let r = room (goal.at.put_series-requires c).Then-is_new in
    rw whole_part (simp length-drop (omega arith))

pub overflow_add-end : goal.overflow_add-end
overflow_add-end c = omega (arith, room (goal.at.overflow_add-end c).Then-is_new)

pub loop-row-preserved : goal.loop-row-preserved
loop-row-preserved c =
    let a = c.args in
    let l = c.loop-row in
    elim c.if-is_new.branch [
      | then-is_new w ↦
          let e = sym c.is_new.ensures ∙ w.if-is_new.true in
          let h = series-here (kind_number a.kind) a.day a.rows.now l.row-index c.loop-row-test.true e in
          let n = series-length (kind_number a.kind) (new_in a.day (take l.row-index a.rows.now)) in
          record {
            end_is = omega (arith, w.end-is, l.invariant.end_is, one_more a.day a.rows.now l.row-index c.loop-row-test.true e);
            part_is = rw (w.part-is, w.end-is, h)
                (put-behind a.part.now (series_bytes (kind_number a.kind) (new_in a.day (take l.row-index a.rows.now))) l.part l.end l.invariant.part_is (n ∙ sym l.invariant.end_is) _ w.put_series.new.part 15 w.put_series.ensures);
          }
      | else-is_new w ↦
          let o = new_other a.day a.rows.now l.row-index c.loop-row-test.true (sym c.is_new.ensures ∙ w.if-is_new.false) in
          rw (w.part-is, w.end-is, o) l.invariant
    ]
