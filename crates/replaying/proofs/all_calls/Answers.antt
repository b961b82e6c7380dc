-- `replaying::all_calls` meets its contract: the calls from the place on decide what all of them do.
-- Assumes nothing.
use mathlib.Core.Path.{refl, sym, ◌∙◌}
use native.Mathlib.Omega.{arith}
use Rattle.replaying.proofs.JournalLaws.{fit-short, fit_other, fit-more}
use Rattle.replaying.proofs.all_calls.Goals as goal

pub returns-in_default : goal.returns-in_default
returns-in_default c =
    let l = c.loop-i in
    sym (l.invariant ∙ fit-short _ _ l.i _ _ _ _ (omega arith) (omega arith) c.from.ensures refl refl c.in_default.ensures.cases)

pub returns-then-not-is_call : goal.returns-then-not-is_call
returns-then-not-is_call c =
    let l = c.loop-i in
    let p = c.in-Some.ensures.cases in
    sym (l.invariant ∙ fit_other _ _ l.i _ _ _ _ (omega arith) (omega arith) c.from.ensures p.1 p.2 (sym c.is_call.ensures ∙ c.if-not-is_call.true))

pub loop-i-preserved : goal.loop-i-preserved
loop-i-preserved c =
    let l = c.loop-i in
    let p = c.in-Some.ensures.cases in
    l.invariant ∙ fit-more _ _ l.i _ _ _ _ (omega arith) (omega arith) c.from.ensures p.1 p.2 p.0 (sym c.is_call.ensures ∙ c.if-not-is_call.false)
