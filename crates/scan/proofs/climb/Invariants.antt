-- What the loops of `scan::climb` keep.
-- Assumes nothing.
use Rattle.std.proofs.Common.{◌≡◌, ◌+◌, ◌*◌, ◌≤◌, ◌<◌, map, drop}
use Rattle.grid.specs.Numbers.{band_step, band_end}
use Rattle.scan.specs.Scan.{scanned, climbed}
use Rattle.scan.proofs.climb.Given as goal

abbrev pub invariant-loop-n : goal.invariant-loop-n
invariant-loop-n l = record {
  price_fits : l.price < 10000;
  step_is : l.band.step ≡ l.stride * band_step l.price;
  step_small : l.band.step ≤ 100;
  end_is : l.band.end ≡ band_end l.price;
  passed : climbed l.day l.month l.stride l.low (map scanned l.rows) ≡ l.n + climbed l.day l.month l.stride l.price (map scanned (drop l.n l.rows));
}
