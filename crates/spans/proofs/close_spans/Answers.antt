-- `spans::close_spans` meets its contract: the first i places are filled.
-- Assumes nothing.
use Rattle.spans.specs.Spans.{close_spans}
use Rattle.spans.proofs.SpanLaws.{filled}
use Rattle.spans.proofs.close_spans.Invariants.{pair}
use Rattle.spans.proofs.close_spans.Goals as goal

pub returns : goal.returns
unfolding close_spans
returns c =
    let l = c.loop-i in
    let a = c.args in
    filled (pair a.months a.held a.close.hundredths) l.spans l.i c.loop-i-test.false l.invariant.six l.invariant.so_far
