-- `parsing::read` meets its contract: 31 by the check, 30 by the number of series, else the copy.
-- Assumes nothing.
use Rattle.std.proofs.Common.{◌≡◌, ◌∙◌, false, sym, ap, length, arith, rules}
use Rattle.std.proofs.lemmas.Result.{err_from_is_err_and}
use Rattle.base.proofs.NumberLaws.{number-from}
use Rattle.fields.specs.declared.Contents.{Contents}
use Rattle.fields.specs.Reading.{file_read, is_faulty, series_in, checked_of}
use Rattle.parsing.proofs.Copies.{sound, unsound, read-faulty, read_short, read_whole}
use Rattle.parsing.proofs.read.Goals as goal
use Rattle.parsing.proofs.read.Goals.{In_ok-filed}

pub returns-in_err-filed : goal.returns-in_err-filed
returns-in_err-filed c =
    let file = c.args.file.now in
    let cause = c.in_err-filed.field-0.0 in
    let told = c.in_err-filed.ensures in
    let p = err_from_is_err_and c.from_residual.result c.from_residual.ensures.1 in
    let r = read-faulty file c.args.list.now (unsound (file_read file) (λ e. omega (arith, ap (λ (k : Contents). k.number) told, e, number-from cause))) in
    record { value = rw (p.1, p.2) (told ∙ r.0); list_after = r.1 }

-- a check that tells no cause accepts the file, and counts its series
accepted : (c : In_ok-filed) → is_faulty (file_read c.args.file.now) ≡ false
accepted c = sound (file_read c.args.file.now) (sym (ap (λ (k : Contents). k.number) c.in_ok-filed.ensures))

counted : (c : In_ok-filed) → c.in_ok-filed.filed.series ≡ length (series_in (file_read c.args.file.now))
unfolding checked_of
counted c = ap (λ (k : Contents). k.series) c.in_ok-filed.ensures

pub returns-then-list-series : goal.returns-then-list-series
returns-then-list-series c =
    let f = (goal.at.returns-then-list-series c).In_ok-filed in
    let r = read_short c.args.file.now c.args.list.now (accepted f) (omega (arith, counted f)) in
    record { value = r.0; list_after = r.1 }

pub copy_list-requires : goal.copy_list-requires
copy_list-requires c = let f = (goal.at.copy_list-requires c).In_ok-filed in (accepted f, counted f, search rules)

pub returns : goal.returns
returns c =
    let f = (goal.at.returns c).In_ok-filed in
    let r = read_whole c.args.file.now c.args.list.now (accepted f) (omega (arith, counted f)) in
    record { value = c.in_ok-filed.ensures ∙ r.0; list_after = c.copy_list.ensures ∙ rw (counted f) r.1 }
