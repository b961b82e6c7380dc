-- `replaying::replay_calls` meets its contract: each refusal leaves what it was lent, and calls that are run have the closing property.
-- Assumes nothing.
use mathlib.Core.Path.{sym, ◌∙◌}
use Rattle.replaying.proofs.Outcomes.{left-not-empty, left_lengths, left-done}
use Rattle.replaying.proofs.replay_calls.Goals as goal

pub returns-then-not-is_empty : goal.returns-then-not-is_empty
returns-then-not-is_empty c = left-not-empty _ _ _ _ (sym c.is_empty.ensures ∙ c.if-not-is_empty.true)

pub returns-then-numbers-calls : goal.returns-then-numbers-calls
returns-then-numbers-calls c = left_lengths _ _ _ _ (sym c.is_empty.ensures ∙ c.if-not-is_empty.false) c.if-numbers-calls.true

pub returns : goal.returns
returns c =
    left-done _ _ _ _ (sym c.is_empty.ensures ∙ c.if-not-is_empty.false) _ _ c.if-numbers-calls.false c.run_calls.ensures.register_after c.run_calls.ensures.numbers_after
