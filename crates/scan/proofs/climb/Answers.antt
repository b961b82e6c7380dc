-- `scan::climb` meets its contract. The loop keeps an equation: the rows passed and those that still go up from the price are all that do.
-- Assumes nothing.
use Rattle.std.proofs.Common.{sym, ap, ◌∙◌, ◌+◌, ◌<◌, map, drop, arith}
use Rattle.grid.specs.Numbers.{band_end}
use Rattle.grid.proofs.Runs.{band-kept, end_le}
use Rattle.scan.specs.Scan.{scanned, climbed}
use Rattle.scan.proofs.Steps.{no-row, climbed_end, climbed_top, climb_stops, climb-goes}
use Rattle.scan.proofs.climb.Goals.{then-band-price+else-price-ge10000, else-band-price}
use Rattle.scan.proofs.climb.Goals as goal

pub returns-then-not-row_fits : goal.returns-then-not-row_fits
returns-then-not-row_fits c =
    let a = c.args in
    let l = c.loop-n in
    climb_stops a.day a.month a.stride a.low l.price l.n a.rows.now c.loop-n-test.true l.invariant.price_fits l.invariant.passed
    (sym c.row_fits.ensures ∙ c.if-not-row_fits.true)

pub returns-then-price-ge10000 : goal.returns-then-price-ge10000
returns-then-price-ge10000 c =
    let a = c.args in
    let l = c.loop-n in
    let e = climb-goes a.day a.month a.stride a.low l.price l.n a.rows.now c.loop-n-test.true l.invariant.price_fits l.invariant.passed
    (sym c.row_fits.ensures ∙ c.if-not-row_fits.false) in
    let top = climbed_top a.day a.month a.stride (l.price + l.band.step) (map scanned (drop (l.n + 1) a.rows.now)) c.if-price-ge10000.true in
    let f = rw (← l.invariant.step_is) at e in
    omega (arith, f, top)

pub loop-n-preserved : goal.loop-n-preserved
loop-n-preserved c =
    let a = c.args in
    let l = c.loop-n in
    let e = climb-goes a.day a.month a.stride a.low l.price l.n a.rows.now c.loop-n-test.true l.invariant.price_fits l.invariant.passed
    (sym c.row_fits.ensures ∙ c.if-not-row_fits.false) in
    let f = rw (← l.invariant.step_is) at e in
    elim c.if-band-price.branch [
      | then-band-price+else-price-ge10000 w ↦
          let b = w.band_of-band-then-band-price.ensures in
          rw w.band-is (record { price_fits = w.if-price-ge10000.false; step_is = b.0 ∙ rw c.from-by.ensures; step_small = b.1; end_is = b.2; passed = f })
      | else-band-price w ↦
          let u : l.price + l.band.step < band_end l.price = rw l.invariant.end_is at w.if-band-price.false in
          let k = band-kept l.price (l.price + l.band.step) (omega arith) u in
          rw w.band-is (record {
            price_fits = omega (arith, end_le l.price);
            step_is = l.invariant.step_is ∙ rw k.0;
            step_small = l.invariant.step_small;
            end_is = l.invariant.end_is ∙ sym k.1;
            passed = f;
          })
    ]

pub returns : goal.returns
returns c =
    let a = c.args in
    let l = c.loop-n in
    omega (arith, l.invariant.passed, ap (climbed a.day a.month a.stride l.price) (no-row a.rows.now l.n c.loop-n-test.false), climbed_end a.day a.month a.stride l.price)
