-- What the loop of `rows::month_place` keeps.
-- Assumes nothing.
use mathlib.Core.Path.{◌≡◌}
use Prim.Native.Nat.{◌+◌, ◌*◌, ◌≤◌}
use lib.ListN.{drop}
use Rattle.rows.specs.Places.{month_place}
use Rattle.layout.specs.Bytes.{rows_from}
use Rattle.rows.proofs.month_place.Given as goal

abbrev pub invariant-loop-i : goal.invariant-loop-i
invariant-loop-i l =
    let first = l.running.live.first in
    let spans = l.running.spans in
    (l.at ≤ rows_from + 4064 * l.i) × (month_place first l.month rows_from l.live-items spans ≡ month_place first l.month l.at (drop l.i l.live-items) (drop l.i spans))
