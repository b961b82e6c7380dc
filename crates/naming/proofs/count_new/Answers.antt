-- `naming::count_new` meets its contract.
-- Assumes nothing.
use Rattle.std.proofs.Common.{◌≡◌, ◌∙◌, rules, eqb}
use Rattle.std.specs.List.{count_by}
use Rattle.base.specs.Words.{at16}
use Rattle.naming.proofs.NewRows.{new_count}
use Rattle.naming.proofs.count_new.Goals as goal

pub returns-clause-new : goal.returns-clause-new
returns-clause-new c =
    let a = c.args in
    let e : c.count.result ≡ count_by (λ b. eqb (at16 b 4) a.day) a.rows.now = search rules in
    e ∙ new_count a.day a.rows.now
