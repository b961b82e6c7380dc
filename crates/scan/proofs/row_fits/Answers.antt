-- `scan::row_fits` meets its contract: month and price, each below 65536, are equal where the two together are.
-- Assumes nothing.
use Rattle.std.proofs.Common.{sym, ◌∙◌, arith}
use borrow.Author.Tests.{lt-leb}
use Rattle.scan.specs.Scan.{scanned}
use Rattle.scan.proofs.Steps.{fits_not, fits_late, fits_no_origin, fits-origin}
use Rattle.scan.proofs.row_fits.Goals.{then-key-from-via-then-key-from, then-key-from-via-else-key-from+then-day-word}
use Rattle.scan.proofs.row_fits.Goals as goal

pub returns-then-key-from : goal.returns-then-key-from
returns-then-key-from c =
    let a = c.args in
    elim c.then-key-from.branch [
      | then-key-from-via-then-key-from w ↦ sym (fits_not a.day a.month a.price (scanned a.row.now) (λ e g. w.if-key-from.true (omega arith)))
      | then-key-from-via-else-key-from+then-day-word w ↦ sym (fits_late a.day a.month a.price (scanned a.row.now) (omega arith))
    ]

pub returns-then-origin-ge1 : goal.returns-then-origin-ge1
returns-then-origin-ge1 c =
    let a = c.args in
    rw c.word-origin.ensures (sym (fits-origin a.day a.month a.price (scanned a.row.now) (omega arith) (omega arith) (omega arith) (omega arith)))

pub returns-else-origin-ge1 : goal.returns-else-origin-ge1
returns-else-origin-ge1 c =
    let a = c.args in
    lt-leb 1 _ c.if-origin-ge1.false ∙ sym (fits_no_origin a.day a.month a.price (scanned a.row.now) (omega arith))
