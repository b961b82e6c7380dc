-- What the loops of `scan::ladders` keep.
-- Assumes nothing.
use Rattle.std.proofs.Common.{◌≡◌, [], length, map, take, drop}
use Rattle.scan.specs.Scan.{scanned, ladder_spans}
use Rattle.scan.proofs.ladders.Given as goal

abbrev pub invariant-loop-i : goal.invariant-loop-i
invariant-loop-i l = record {
  six : length l.spans ≡ 6;
  passed : ladder_spans l.day l.live.first [] l.month-items (map scanned l.rows) ≡ ladder_spans l.day l.live.first (take l.i l.spans) (drop l.i l.month-items) (map scanned l.rest);
}
