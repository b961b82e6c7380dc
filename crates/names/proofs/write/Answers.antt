-- `names::write` meets its contract: each return by the causes that led there.
-- Assumes nothing.
use Rattle.std.proofs.Common.{sym, ◌∙◌}
use Rattle.std.proofs.lemmas.Result.{err_from_is_err_and}
use Rattle.names.specs.Names.{written}
use Rattle.names.proofs.RefusalLaws.{no_kind, write_27, write_28, write_0}
use Rattle.names.proofs.write.Goals as goal

pub returns-then-name-ne-LENGTH : goal.returns-then-name-ne-LENGTH
unfolding written
returns-then-name-ne-LENGTH c =
    let e = write_27 c.args.month c.args.kind c.args.price c.args.name.now c.if-name-ne-LENGTH.true in
    record { value = sym e; name_after = rw e }

pub returns-in_err-kind : goal.returns-in_err-kind
unfolding written
returns-in_err-kind c =
    let a = c.args in
    let p = err_from_is_err_and c.from_residual.result c.from_residual.ensures.1 in
    let e = write_28 a.month a.kind a.price a.name.now c.if-name-ne-LENGTH.false (no_kind a.month a.kind a.price c.in_err-kind.ensures.1) in
    record { value = rw (p.1, p.2, c.in_err-kind.ensures.0) (sym e); name_after = rw e }

pub returns-then-no_series : goal.returns-then-no_series
unfolding written
returns-then-no_series c =
    let a = c.args in
    let none = rw c.in_ok-kind.ensures at (sym c.no_series.ensures ∙ c.if-no_series.true) in
    let e = write_28 a.month a.kind a.price a.name.now c.if-name-ne-LENGTH.false none in
    record { value = sym e; name_after = rw e }

pub returns : goal.returns
unfolding written
returns c =
    let a = c.args in
    let some = rw c.in_ok-kind.ensures at (sym c.no_series.ensures ∙ c.if-no_series.false) in
    let e = write_0 a.month a.kind a.price a.name.now c.if-name-ne-LENGTH.false some in
    record { value = sym e; name_after = rw e (rw c.in_ok-kind.ensures at c.put.ensures) }
