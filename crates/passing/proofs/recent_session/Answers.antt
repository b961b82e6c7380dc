-- `passing::recent_session` meets its contract: the 15 days are a stretch of the bits of four bytes taken as one number.
-- Assumes nothing.
use Rattle.std.proofs.Common.{◌≡◌, ℕ, ◌+◌, ◌-◌, ◌*◌, ◌∙◌, get_or, arith}
use Rattle.calendar.proofs.CalendarLaws.{four_bytes}
use Rattle.passing.proofs.recent_session.Goals as goal

pub returns : goal.returns
returns c =
    let cal = c.args.calendar.now in
    let k : ℕ = c.from-at.result - 2 in
    let word :
    c.from_le_bytes-days.result ≡
    get_or cal k 0 + 256 * get_or cal (k + 1) 0 + 65536 * (get_or cal (k + 2) 0 + 256 * get_or cal (k + 3) 0) =
    c.from_le_bytes-days.ensures ∙ omega arith in
    rw (word, c.from-at.ensures) (four_bytes cal (λ i. (c.type_inv.calendar i).fits) c.args.last (omega arith))
