-- `register::open` meets its contract: the causes are tried downwards.
-- Assumes nothing.
use mathlib.Core.Path.{sym, ◌∙◌}
use Rattle.std.proofs.lemmas.Result.{err_from_is_err_and}
use Rattle.layout.proofs.OpeningLaws.{reads-empty}
use Rattle.register.proofs.Opens.{passes-checked, refused-calendar, refused-length, refused_run, refused-zero}
use Rattle.register.proofs.open.Goals as goal

pub returns-in_err-calendar : goal.returns-in_err-calendar
returns-in_err-calendar c =
    let p = err_from_is_err_and c.from_residual.result c.from_residual.ensures.1 in
    rw (p.1, p.2) (refused-calendar _ _ _ c.in_err-calendar.ensures.answer)

pub returns-in_default : goal.returns-in_default
returns-in_default c = refused-length _ _ (passes-checked _ c.args.register.now c.in_ok-calendar.ensures.answer) c.in_default.ensures.1

pub returns-then-register-ne0 : goal.returns-then-register-ne0
returns-then-register-ne0 c = rw c.in_ok-calendar.ensures.bytes at (rw c.in-Ok.ensures.1.same at c.in-Some.ensures)

pub returns-in_default-standing : goal.returns-in_default-standing
returns-in_default-standing c =
    let whole = c.in-Ok.ensures.1 in
    let e = rw (c.in_ok-calendar.ensures.bytes, whole.same) at c.in_default-standing.ensures in
    refused_run _ _ (passes-checked _ c.args.register.now c.in_ok-calendar.ensures.answer) whole.long (rw whole.same at c.if-register-ne0.true) e

pub returns-then-is_zero : goal.returns-then-is_zero
returns-then-is_zero c =
    let whole = c.in-Ok.ensures.1 in (
      reads-empty _ _ (passes-checked _ c.args.register.now c.in_ok-calendar.ensures.answer) whole.long (rw whole.same at (sym c.is_zero.ensures ∙ c.if-is_zero.true)),
      c.in_ok-calendar.ensures.bytes,
    )

pub returns-else-is_zero : goal.returns-else-is_zero
returns-else-is_zero c =
    let whole = c.in-Ok.ensures.1 in
    refused-zero _ _ (passes-checked _ c.args.register.now c.in_ok-calendar.ensures.answer) whole.long (rw whole.same at c.if-register-ne0.false)
    (rw whole.same at (sym c.is_zero.ensures ∙ c.if-is_zero.false))
