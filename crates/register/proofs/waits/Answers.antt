-- `register::waits` meets its contract.
-- Assumes nothing.
use Rattle.std.proofs.Common.{◌∙◌, ◌&&◌, eqb, rules, tests}
use Rattle.std.proofs.lemmas.Iterator.{YieldsList-from_slice}
use Rattle.std.proofs.lemmas.Iterator.Search.{any_from_yields_List}
use Rattle.base.specs.Words.{at16}
use Rattle.register.proofs.Waiting.{waits_any}
use Rattle.register.proofs.waits.Goals as goal

pub returns : goal.returns
returns c =
    let a = c.args in
    any_from_yields_List (λ x. eqb a.month (at16 x 0) && eqb a.price (at16 x 2)) _ _ c.any.result c.any.ensures.ran (YieldsList-from_slice a.places.now cc) (λ x b q k. search (rules, tests))
    ∙ waits_any a.month a.price a.places.now
