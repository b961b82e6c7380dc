-- `loader::write` meets its contract: the causes are tried downwards, then the file is written.
-- Assumes nothing.
use mathlib.Core.Path.{◌≡◌, refl, ◌∙◌}
use mathlib.Core.List.{List}
use Prim.Native.Nat.{ℕ, ◌+◌, ◌*◌, ◌≤◌}
use native.Mathlib.Omega.{arith}
use lib.ListN.{length}
use Rattle.std.proofs.lemmas.Result.{err_from_is_err_and}
use Rattle.base.specs.Words.{at16}
use Rattle.base.specs.declared.causes.Cause.TheVariants.{Empty as EmptyCause}
use Rattle.layout.specs.Bytes.{body_of, rows_from}
use Rattle.layout.specs.Register.{empty}
use Rattle.layout.specs.Opening.{Reads}
use Rattle.layout.proofs.OpeningLaws.{refused_own}
use Rattle.layout.proofs.Running.{runs}
use Rattle.register.specs.Check.{Runs}
use Rattle.register.specs.Opens.{Finds}
use Rattle.naming.specs.DayFile.{day_file}
use Rattle.loader.specs.Loader.{file_cause}
use Rattle.loader.proofs.Listed.{rows_inside, first-month}
use Rattle.loader.proofs.Answers.{refused_file, short_file, size_is, parts_size, written_file}
use Rattle.loader.proofs.write.Goals.{In-Running}
use Rattle.loader.proofs.write.Goals as goal

-- a register that runs
opened : (c : In-Running) → Runs c.args.calendar.now c.args.register.now c.in-Running.field-0.spans
opened c =
    let o : Finds c.args.calendar.now c.args.register.now c.in-Running.field-0 = rw c.in-Running.is at c.in_ok-open.ensures in
    o.runs

-- its rows lie inside it
inside : (cal bs : List ℕ) {spans : List (List ℕ)} → Runs cal bs spans → (rows : ℕ) → rows ≡ at16 bs 4 → rows_from + 8 * rows ≤ length bs
inside cal bs o rows e = omega (arith, e, rows_inside cal bs o.reads.size (runs cal bs o.well))

pub returns-in_err-open : goal.returns-in_err-open
returns-in_err-open c =
    let p = err_from_is_err_and c.from_residual.result c.from_residual.ensures.1 in
    let a = refused_file _ _ c.args.file.now (c.in_err-open.ensures _) in
    record { value = rw (p.1, p.2) a.0; file_after = a.1 }

pub returns-in_default : goal.returns-in_default
unfolding file_cause
returns-in_default c =
    let cal = c.args.calendar.now in
    let bs = c.args.register.now in
    let out = c.args.file.now in
    let r : Reads cal bs empty = (rw c.in_default.is at c.in_ok-open.ensures).0 in
    let a = refused_file cal bs out (refused_own cal bs empty r (file_cause out) EmptyCause refl (λ z. omega arith)) in
    record { value = a.0; file_after = a.1 }

pub rows-rows-requires : goal.rows-rows-requires
rows-rows-requires c =
    let r = opened (goal.at.rows-rows-requires c).In-Running in
    inside _ _ r c.from.result (c.from.ensures ∙ c.word.ensures)

pub returns-then-file-length : goal.returns-then-file-length
returns-then-file-length c =
    let r = opened (goal.at.returns-then-file-length c).In-Running in
    let size : 5 + 30 * c.count_new.result ≡ length (day_file (body_of c.args.register.now)) =
    size_is c.args.calendar.now c.args.register.now c.args.file.now r.reads (runs _ _ r.well) c.word-day.ensures (c.from.ensures ∙ c.word.ensures) c.rows-rows.ensures.bytes c.count_new.ensures.new in
    let a = short_file c.args.calendar.now c.args.register.now c.args.file.now r.reads (omega (arith, size, c.if-file-length.true)) in
    record { value = a.0; file_after = a.1 }

pub overflow_mul-january : goal.overflow_mul-january
overflow_mul-january c =
    let r = opened (goal.at.overflow_mul-january c).In-Running in
    omega (arith, c.word-first.ensures, first-month c.args.calendar.now c.args.register.now r.reads.size (runs _ _ r.well))

pub put_file-requires : goal.put_file-requires
put_file-requires c =
    let r = opened (goal.at.put_file-requires c).In-Running in
    let n = parts_size c.args.calendar.now c.args.register.now c.args.file.now r.reads (runs _ _ r.well) c.word-day.ensures (c.from.ensures ∙ c.word.ensures) c.rows-rows.ensures.bytes c.word-first.ensures c.rows_before.ensures.before c.split_at.ensures.front c.split_at.ensures.back in
    omega (arith, n, c.count_new.ensures.new, c.if-file-length.false)

pub returns : goal.returns
returns c =
    let cal = c.args.calendar.now in
    let bs = c.args.register.now in
    let out = c.args.file.now in
    let r = opened (goal.at.returns c).In-Running in
    let rows = c.rows-rows.ensures.bytes in
    let size = size_is cal bs out r.reads (runs _ _ r.well) c.word-day.ensures (c.from.ensures ∙ c.word.ensures) rows c.count_new.ensures.new in
    let n = parts_size cal bs out r.reads (runs _ _ r.well) c.word-day.ensures (c.from.ensures ∙ c.word.ensures) rows c.word-first.ensures c.rows_before.ensures.before c.split_at.ensures.front c.split_at.ensures.back in
    let a = written_file cal bs out r.reads (runs _ _ r.well) c.word-day.ensures (c.from.ensures ∙ c.word.ensures) rows c.word-first.ensures c.rows_before.ensures.before c.split_at.ensures.front c.split_at.ensures.back
    size c.if-file-length.false (rw (n, ← c.count_new.ensures.new) at c.put_file.ensures) in
    record { value = a.0; file_after = a.1 }
