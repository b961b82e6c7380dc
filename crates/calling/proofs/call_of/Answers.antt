-- `calling::call_of` meets its contract: the kind decides the call.
-- Assumes nothing.
use mathlib.Core.Path.{◌≡◌, sym, ◌∙◌}
use mathlib.Core.Bool.{true}
use native.Mathlib.Omega.{arith}
use lib.ListN.{length}
use borrow.Author.Rules.{rules}
use Rattle.calls.specs.Calls.{call_of, is_call}
use Rattle.calling.proofs.CallLaws.{none_is, fits_kind, fits_one, is-start, is-session, is-announce}
use Rattle.calling.proofs.call_of.Goals.{Else-not-is_call}
use Rattle.calling.proofs.call_of.Goals as goal

-- a call, with its one pair
fits : (c : Else-not-is_call) → is_call (call_of c.args.kind c.args.pairs.now) ≡ true
fits c = sym c.is_call.ensures ∙ c.if-not-is_call.false

one : (c : Else-not-is_call) → length c.args.pairs.now ≡ 1
one c = fits_one _ _ (fits c)

pub returns-then-not-is_call : goal.returns-then-not-is_call
returns-then-not-is_call c = none_is _ (sym c.is_call.ensures ∙ c.if-not-is_call.true)

pub bounds-pairs-0 : goal.bounds-pairs-0
bounds-pairs-0 c = let l = one (goal.at.bounds-pairs-0 c).Else-not-is_call in search rules

pub bounds-pairs-0-else-not-is_call-2 : goal.bounds-pairs-0-else-not-is_call-2
bounds-pairs-0-else-not-is_call-2 c = let l = one (goal.at.bounds-pairs-0-else-not-is_call-2 c).Else-not-is_call in search rules

pub returns-in-0 : goal.returns-in-0
returns-in-0 c = sym (is-start _ _ (one (goal.at.returns-in-0 c).Else-not-is_call) c.in-0.is)

pub returns-in-1 : goal.returns-in-1
returns-in-1 c = sym (is-session _ _ (one (goal.at.returns-in-1 c).Else-not-is_call) (λ e. omega arith) c.in-1.is)

pub returns-in_default : goal.returns-in_default
returns-in_default c =
    let f = (goal.at.returns-in_default c).Else-not-is_call in
    sym (is-announce _ _ (one f) (λ e. omega arith) (λ e. omega arith) (fits_kind _ _ (fits f)))
