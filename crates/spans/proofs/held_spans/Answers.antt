-- `spans::held_spans` meets its contract: the first i places are filled.
-- Assumes nothing.
use Rattle.spans.specs.Spans.{held_spans}
use Rattle.spans.proofs.SpanLaws.{filled}
use Rattle.spans.proofs.held_spans.Invariants.{pair}
use Rattle.spans.proofs.held_spans.Goals as goal

pub returns : goal.returns
unfolding held_spans
returns c =
    let l = c.loop-i in
    let a = c.args in
    filled (pair a.before a.spans a.months) l.held l.i c.loop-i-test.false l.invariant.six l.invariant.so_far
