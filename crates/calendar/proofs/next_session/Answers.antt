-- `calendar::next_session` meets its contract: what the search finds is the first session, and where it finds none there is none.
-- Assumes nothing.
use Rattle.std.proofs.Common.{◌≡◌, ◌∙◌, ◌+◌, ◌≤◌, ◌<◌, ℕ, Bool, sym, true, false, arith, rules, tests}
use Rattle.std.specs.Prelude.{Option, Some, None, MatchOption}
use Rattle.std.specs.Option.{unwrap_or}
use Rattle.std.proofs.lemmas.Iterator.{first_from_Range}
use Rattle.base.specs.Search.{first_in}
use Rattle.base.proofs.SearchLaws.{first_end, first_hit, first_skip}
use Rattle.dates.specs.Months.{day_count}
use Rattle.calendar.specs.Calendar.{session, next_session}
use Rattle.calendar.proofs.next_session.Goals as goal

first_of : (p : ℕ → Bool) (a b : ℕ) (r : Option ℕ) → a ≤ b
    → MatchOption r ((k : ℕ) → a ≤ k → k < b → p k ≡ false) (λ i. (a ≤ i) × (i < b) × (p i ≡ true) × ((k : ℕ) → a ≤ k → k < i → p k ≡ false))
    → unwrap_or r b ≡ first_in p a b
first_of p a b None h none = sym (first_skip p a b b h (omega arith) none ∙ first_end p b b (omega arith))
first_of p a b (Some i) h some = sym (first_skip p a i b some.0 (omega (arith, some.1)) some.3 ∙ first_hit p i b some.1 some.2)

pub returns : goal.returns
unfolding next_session
returns c =
    let p = session c.args.calendar.now in
    let found = first_from_Range _ _ _ _ (λ i. p i ≡ true) (λ i. p i ≡ false) c.find.ensures.ran
    (λ x q k. search (rules, tests))
    (λ x q k. (search rules, search (rules, tests))) in
    c.unwrap_or.ensures ∙ first_of p (c.args.day + 1) day_count c.find.result (omega arith) found
