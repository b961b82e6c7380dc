-- `inquiry::next::Sought::reaching_close` is safe and ends. Assumes nothing.
use Prim.Native.Nat.{◌≤◌, ◌-◌}
use Rattle.inquiry.proofs.next.Sought.reaching_close.Given as goal

abbrev pub invariant-loop-low : goal.invariant-loop-low
invariant-loop-low l = (l.low ≤ l.high) × (l.high ≤ 955000)

abbrev pub decreases-loop-low : goal.decreases-loop-low
decreases-loop-low l = l.high - l.low
