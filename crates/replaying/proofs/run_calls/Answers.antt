-- `replaying::run_calls` meets its contract: what is left of the calls gives, from the register that stands, what all of them give.
-- Assumes nothing.
use mathlib.Core.Path.{◌≡◌, ◌∙◌}
use native.Mathlib.Omega.{arith}
use lib.ListN.{length}
use Rattle.base.specs.Numbers.{number_in}
use Rattle.replaying.proofs.Running.{behind_more, behind_all, made-number}
use Rattle.replaying.proofs.run_calls.Goals.{in-Ok, in-Err}
use Rattle.replaying.proofs.run_calls.Goals as goal

pub loop-i-preserved : goal.loop-i-preserved
loop-i-preserved c =
    let m = c.make in
    let n : c.match-make.numbers ≡ number_in m.result =
    elim c.match-make.branch [ in-Ok w ↦ rw w.in-Ok.is w.numbers-is | in-Err w ↦ rw w.in-Err.is (w.numbers-is ∙ w.number.ensures) ] in
    behind_more _ _ _ c.loop-i.i _ _ _ _ _ c.loop-i-test.true (omega arith)
    (n ∙ made-number _ _ _ m.result m.ensures.value) m.ensures.register_after c.loop-i.invariant

pub returns : goal.returns
returns c =
    let l : length c.loop-i.numbers ≡ length c.args.calls.now = omega arith in
    let x = behind_all _ _ _ c.loop-i.i _ _ c.loop-i-test.false l c.loop-i.invariant in
    record { register_after = x.0; numbers_after = x.1 }
