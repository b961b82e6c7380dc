-- `listing::session_listing` meets its contract.
-- Assumes nothing.
use mathlib.Core.Path.{◌≡◌, sym, ◌∙◌}
use mathlib.Core.List.{List}
use Prim.Native.Nat.{ℕ}
use native.Mathlib.Omega.{arith}
use borrow.Author.Rules.{rules}
use Rattle.calendar.specs.Calendar.{expiry_of, next_session}
use Rattle.calendar.specs.Live.{first_live}
use Rattle.calendar.proofs.CalendarLaws.{expiry-below}
use Rattle.calendar.proofs.LiveLaws.{live_past}
use Rattle.rules.specs.Rulebook as Rulebook
use Rattle.rules.specs.Rulebook.{moved}
use Rattle.rules.proofs.RulebookLaws.{first_is}
use Rattle.layout.specs.Register.{running}
use Rattle.layout.specs.Bytes.{moment_of, body_of}
use Rattle.base.specs.Words.{at16}
use Rattle.calls.specs.declared.Call.TheVariants.{Session}
use Rattle.calls.specs.Listing.{number}
use Rattle.listing.specs.Refusals.{listing_cause}
use Rattle.listing.proofs.Causes.{late, no-session, session_goes}
use Rattle.listing.proofs.session_listing.Goals as goal

-- the day is the next session's, and the causes left go by its first live month
goes : (cal bs : List ℕ) (day close : ℕ) {before next : ℕ} → before ≡ at16 bs 2 → next ≡ next_session cal before → day ≡ next
    → number (Rulebook.rules cal) (Session day close) (running (body_of bs)) ≡ listing_cause (first_live (expiry_of cal) next) close
unfolding body_of moment_of moved
goes cal bs day close b n d =
    session_goes cal day close (body_of bs) (rw (n, b) at d) ∙ rw (← first_is cal (moved (moment_of bs) day), d)

pub next_session-next-requires : goal.next_session-next-requires
unfolding moment_of
next_session-next-requires c = search rules

pub returns-then-day-from-clause-cause : goal.returns-then-day-from-clause-cause
unfolding body_of moment_of
returns-then-day-from-clause-cause c =
    let a = c.args in
    sym (no-session a.before.calendar.bytes.now a.day a.close (body_of a.register.now) (rw (c.from.ensures, c.next_session-next.ensures, c.word-last.ensures) at c.if-day-from.true))

pub returns-then-next-ge-DAYS-clause-cause : goal.returns-then-next-ge-DAYS-clause-cause
returns-then-next-ge-DAYS-clause-cause c =
    let a = c.args in
    let cal = a.before.calendar.bytes.now in
    sym (goes cal a.register.now a.day a.close c.word-last.ensures c.next_session-next.ensures (c.if-day-from.false ∙ c.from.ensures)
    ∙ late _ _ (rw (live_past (expiry_of cal) (expiry-below _) c.next_session-next.result c.if-next-ge-DAYS.true) (omega arith)))

pub returns-clause-cause : goal.returns-clause-cause
returns-clause-cause c =
    let a = c.args in
    c.listing_on.ensures.cause
    ∙ sym (goes a.before.calendar.bytes.now a.register.now a.day a.close c.word-last.ensures c.next_session-next.ensures (c.if-day-from.false ∙ c.from.ensures))
