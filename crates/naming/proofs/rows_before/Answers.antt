-- `naming::rows_before` meets its contract.
-- Assumes nothing.
use Rattle.std.proofs.Common.{rules, tests, leb}
use Rattle.std.proofs.lemmas.Iterator.{YieldsList-from_slice}
use Rattle.std.proofs.lemmas.Iterator.Search.{position_from_yields_List}
use Rattle.base.specs.Words.{at16}
use Rattle.naming.proofs.NewRows.{before-count}
use Rattle.naming.proofs.rows_before.Goals as goal

pub returns-clause-before : goal.returns-clause-before
returns-clause-before c =
    let a = c.args in
    let e = position_from_yields_List (λ b. leb a.month (at16 b 0)) _ _ c.position-first.result c.position-first.ensures.ran (YieldsList-from_slice a.rows.now cc) (λ x b q k. search (rules, tests)) in
    rw (c.unwrap_or.ensures, e) (before-count a.month a.rows.now)
