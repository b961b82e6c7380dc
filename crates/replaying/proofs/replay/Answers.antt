-- `replaying::replay` meets its contract: each refusal leaves what it was lent, and a journal that is run has the closing property.
-- Assumes nothing.
use mathlib.Core.Path.{sym, ◌∙◌}
use Rattle.replaying.proofs.Outcomes.{journal-not-empty, left_malformed, journal-done}
use Rattle.replaying.proofs.replay.Goals as goal

pub returns-then-not-is_empty : goal.returns-then-not-is_empty
returns-then-not-is_empty c = journal-not-empty _ _ _ _ _ _ (sym c.is_empty.ensures ∙ c.if-not-is_empty.true)

pub returns-then-not-well_kept : goal.returns-then-not-well_kept
returns-then-not-well_kept c =
    left_malformed _ _ _ _ _ _ (sym c.is_empty.ensures ∙ c.if-not-is_empty.false) (sym c.well_kept.ensures ∙ c.if-not-well_kept.true)

pub run-requires : goal.run-requires
run-requires c = sym c.well_kept.ensures ∙ c.if-not-well_kept.false

pub returns : goal.returns
returns c =
    journal-done _ _ _ _ _ _
    (sym c.is_empty.ensures ∙ c.if-not-is_empty.false)
    _ _
    (sym c.well_kept.ensures ∙ c.if-not-well_kept.false)
    c.run.ensures.register_after c.run.ensures.numbers_after
