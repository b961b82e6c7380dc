-- `parsing::series_wrong` meets its contract: where no place of fifteen bytes is wrong, none is of those behind which others stand.
-- Assumes nothing.
use mathlib.Core.Path.{sym, ◌∙◌}
use Rattle.parsing.proofs.Checks.{right_none}
use Rattle.parsing.proofs.series_wrong.Goals as goal

pub returns-in-Some : goal.returns-in-Some
returns-in-Some c =
    let front = c.in-Some.ensures.cases in
    let none = rw front.same at (sym c.is_right.ensures ∙ c.if-is_right.true) in
    sym (right_none c.args.field.now front.enough none)
