-- `announcing::announce_refusal` meets its contract: what the leaves find decides the causes in the table's order.
-- Assumes nothing.
use mathlib.Core.Path.{◌≡◌, refl, ◌∙◌}
use native.Mathlib.Omega.{arith}
use Rattle.std.proofs.lemmas.Result.{err_from_is_err_and}
use Rattle.base.specs.Causes.{first_cause}
use Rattle.base.specs.Lists.{elem}
use Rattle.base.specs.Numbers.{number_in}
use Rattle.base.proofs.NumberLaws.{number-from}
use Rattle.rules.specs.Rulebook.{rules}
use Rattle.layout.specs.Register.{waiting_of, announce_causes}
use Rattle.layout.specs.Bytes.{body_of}
use Rattle.layout.proofs.Chunks.{places_chunked}
use Rattle.layout.proofs.Running.{runs}
use Rattle.register.proofs.Well.{run-day}
use Rattle.announcing.proofs.Causes.{gathered, own-refusal, own_full, own_none}
use Rattle.announcing.proofs.announce_refusal.Goals.{After-waits-waits, After-refusal}
use Rattle.announcing.proofs.announce_refusal.Goals as goal

waits : (c : After-waits-waits) → c.waits-waits.result ≡ elem c.args.price (waiting_of c.args.month (body_of c.args.register.now).waiting)
unfolding body_of
waits c = c.waits-waits.ensures ∙ rw (c.places.ensures.bytes, c.from-waiting.ensures, places_chunked)

found : (c : After-refusal) → c.waits-waits.result ≡ elem c.args.price (waiting_of c.args.month (body_of c.args.register.now).waiting) →
    let b = body_of c.args.register.now in
    number_in c.refusal.result ≡ first_cause (announce_causes (rules c.args.before.calendar.bytes.now) b b.waiting c.args.month c.args.price)
found c w =
    let o = c.requires in
    gathered c.args.before.calendar.bytes.now c.args.register.now c.args.month c.args.price c.args.before.calendar.passes _ _ _ _ _
    c.args.before.live.latest o.first_is c.next_first-next.ensures w o.runs.spans_are c.refusal.ensures

pub next_first-next-requires : goal.next_first-next-requires
next_first-next-requires c = let r = c.requires.runs in run-day _ _ r.reads.size (runs _ _ r.well)

pub returns-in_err-refusal : goal.returns-in_err-refusal
returns-in_err-refusal c =
    let p = err_from_is_err_and c.from_residual.result c.from_residual.ensures.1 in
    let g = goal.at.returns-in_err-refusal c in
    let w = found g.After-refusal (waits g.After-waits-waits) in
    rw (p.1, p.2) (own-refusal _ _ _ _ _ (rw c.in_err-refusal.was at w) (λ z. omega (arith, number-from c.in_err-refusal.field-0.0, z)))

pub returns-then-waiting-ge-MOST_WAITING : goal.returns-then-waiting-ge-MOST_WAITING
returns-then-waiting-ge-MOST_WAITING c =
    let g = goal.at.returns-then-waiting-ge-MOST_WAITING c in
    own_full _ _ _ _ _ (rw c.in_ok-refusal.was at (found g.After-refusal (waits g.After-waits-waits))) refl (rw c.from-waiting.ensures at c.if-waiting-ge-MOST_WAITING.true)

pub returns : goal.returns
returns c =
    let g = goal.at.returns c in
    own_none _ _ _ _ _ (rw c.in_ok-refusal.was at (found g.After-refusal (waits g.After-waits-waits))) refl (rw c.from-waiting.ensures at c.if-waiting-ge-MOST_WAITING.false)
