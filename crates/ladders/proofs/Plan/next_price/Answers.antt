-- `ladders::Plan::next_price` meets its contract.
-- Assumes nothing.
use Rattle.std.proofs.Common.{sym, ◌∙◌}
use borrow.Author.Tests.{eq-eqb, ne_eqb}
use Rattle.ladders.proofs.Stretches.{first-price, no-price}
use Rattle.ladders.proofs.Plan.next_price.Goals as goal

pub returns-in_err-row : goal.returns-in_err-row
returns-in_err-row c = c.from_residual.ensures ∙ sym (no-price c.args.self.now c.args.old.now c.in_err-row.ensures.value)

pub returns-then-self-word : goal.returns-then-self-word
returns-then-self-word c =
    let f = first-price c.args.self.now c.args.old.now c.in_ok-row.row.now c.in_ok-row.ensures.value in
    sym (f ∙ rw (eq-eqb _ _ (c.if-self-word.true ∙ c.word.ensures), c.word-then-self-word.ensures))

pub returns-else-self-word : goal.returns-else-self-word
returns-else-self-word c =
    let f = first-price c.args.self.now c.args.old.now c.in_ok-row.row.now c.in_ok-row.ensures.value in
    sym (f ∙ rw (ne_eqb _ _ (λ e. c.if-self-word.false (e ∙ sym c.word.ensures))))
