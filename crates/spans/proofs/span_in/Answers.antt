-- `spans::span_in` meets its contract: where the search finds the month, its span stands.
-- Assumes nothing.
use Rattle.std.proofs.Common.{◌==◌, ◌≤◌, length, rules, tests}
use Rattle.std.proofs.lemmas.Iterator.{YieldsList-from_slice}
use Rattle.std.proofs.lemmas.Iterator.Search.{position_from_yields_List}
use Rattle.spans.proofs.SpanLaws.{Finds, finds}
use Rattle.spans.proofs.span_in.Goals.{After-position}
use Rattle.spans.proofs.span_in.Goals as goal

found : (c : After-position) → Finds c.args.month c.args.months c.args.spans c.position.result
found c =
    let a = c.args in
    let six : length a.months ≤ length a.spans = search rules in
    finds a.month a.months a.spans six c.position.result
    (position_from_yields_List (λ n. a.month == n) _ _ c.position.result c.position.ensures.ran (YieldsList-from_slice a.months cc) (λ x b q k. search (rules, tests)))

pub returns-in-Some : goal.returns-in-Some
returns-in-Some c = rw c.in-Some.is at (found (goal.at.returns-in-Some c).After-position)

pub returns-in-None : goal.returns-in-None
returns-in-None c = rw c.in-None.is at (found (goal.at.returns-in-None c).After-position)
