-- `register::standing` meets its contract: a register that stands passes each test, and one that passes them all stands.
-- Assumes nothing.
use mathlib.Core.Path.{◌≡◌, refl, sym, ◌∙◌}
use mathlib.Core.Bool.{true}
use mathlib.Core.List.{List, [], map}
use Prim.Native.Nat.{ℕ, ◌<◌}
use native.Mathlib.Omega.{arith}
use lib.ListN.{get_or, drop}
use Rattle.base.proofs.Tests.{clash}
use Rattle.calendar.specs.Live.{live_months}
use Rattle.rules.specs.Rulebook.{first_at, rules}
use Rattle.layout.specs.Register.{waiting_ok}
use Rattle.base.specs.Words.{at16}
use Rattle.layout.specs.Bytes.{moment_of, body_of, rows_from}
use Rattle.std.specs.Prelude.{Option}
use Rattle.std.specs.Simd.{first_chunks}
use Rattle.std.proofs.lemmas.Option.{none-some}
use Rattle.register.specs.Opens.{Finds}
use Rattle.layout.proofs.Running.{runs_i}
use Rattle.layout.proofs.OpeningLaws.{reads-running}
use Rattle.scan.specs.Scan.{scanned, rows_at, ladder_spans}
use Rattle.scan.proofs.Steps.{rows_scanned}
use Rattle.layout.proofs.ByteLaws.{places_none}
use Rattle.register.proofs.Well.{first_read, run_keeps, run-session, run-first, run-day, run_spans, Scanned, spans_are, stands_if, none_stand}
use Rattle.register.proofs.standing.Goals.{In-Ok, In_ok-spans}
use Rattle.register.proofs.standing.Goals as goal

-- what the code took from the bytes
first : (c : In-Ok) → c.in-Ok.live.first ≡ first_at c.args.calendar.bytes.now (moment_of c.args.register.now)
first c = c.in-Ok.ensures ∙ first_read _ _ c.word-day.ensures c.first_live.ensures

-- what the scan finds, as it was lent the rows
found_is : (cal bs : List ℕ) {found : Option (List (List ℕ))} {day first count : ℕ} {rows : List (List ℕ)}
    → found ≡ ladder_spans day first [] (live_months first) (map scanned rows)
    → day ≡ at16 bs 2 → first ≡ first_at cal (moment_of bs) → count ≡ at16 bs 4 → rows ≡ first_chunks 8 count (drop rows_from bs)
    → found ≡ ladder_spans (at16 bs 2) (first_at cal (moment_of bs)) [] (live_months (first_at cal (moment_of bs))) (rows_at (at16 bs 4) (drop rows_from bs))
found_is cal bs s d f n r = s ∙ rw (d, f, r, n, rows_scanned)

scan : (c : In_ok-spans) → Scanned c.args.calendar.bytes.now c.args.register.now c.in_ok-spans.spans
scan c =
    let f = c.in-Ok.ensures ∙ first_read _ _ c.word-day.ensures c.first_live.ensures in
    record {
      keeps = c.keeps_layout.ensures.if_true c.if-not-keeps_layout.false;
      day-session = rw c.word-day.ensures at (sym c.has_session.ensures ∙ c.if-not-has_session.false);
      first_le = omega (arith, c.in-Ok.live.latest, f);
      spans_is = found_is _ _ c.in_ok-spans.ensures c.word-day.ensures f (c.from.ensures ∙ c.word.ensures) c.rows-rows.ensures.bytes;
    }

spans : (c : In_ok-spans) →
    let cal = c.args.calendar.bytes.now in
    let bs = c.args.register.now in
    waiting_ok (rules cal) (body_of bs) [] (body_of bs).waiting ≡ true
    → Finds cal bs (record { calendar = c.args.calendar; live = c.in-Ok.live; spans = c.in_ok-spans.spans })
spans c w =
    let cal = c.args.calendar.bytes.now in
    let bs = c.args.register.now in
    let l = c.told-register in
    let bytes : (i : ℕ) → get_or bs i 0 < 256 = λ i. c.fits-register i in
    let x = c.in_ok-spans.spans in
    let h = runs_i cal bs (stands_if cal bs l bytes x (scan c) w) in
    record {
      runs = record { reads = reads-running cal bs c.args.calendar.passes l h; well = h; spans_are = spans_are cal bs l bytes x (scan c) };
      calendar_is = refl;
      first_is = c.in-Ok.ensures ∙ first_read _ _ c.word-day.ensures c.first_live.ensures;
    }

pub returns-then-not-keeps_layout : goal.returns-then-not-keeps_layout
returns-then-not-keeps_layout c = none_stand _ _ (λ r. clash _ (c.keeps_layout.ensures.if_holds (run_keeps _ _ c.told-register r)) (c.if-not-keeps_layout.true))

pub returns-then-day-ge-DAYS : goal.returns-then-day-ge-DAYS
unfolding moment_of
returns-then-day-ge-DAYS c =
    let cal = c.args.calendar.bytes.now in
    let bs = c.args.register.now in
    let d = c.word-day.ensures in
    none_stand cal bs (λ r. omega (arith, c.if-day-ge-DAYS.true, run-day cal bs c.told-register r))

pub returns-then-not-has_session : goal.returns-then-not-has_session
returns-then-not-has_session c =
    let e = rw c.word-day.ensures at c.has_session.ensures in
    none_stand _ _ (λ r. clash _ (e ∙ run-session _ _ c.told-register r) (c.if-not-has_session.true))

pub returns-in_default : goal.returns-in_default
returns-in_default c =
    let f = first_read _ c.args.register.now c.word-day.ensures c.first_live.ensures in
    none_stand _ _ (λ r. omega (arith, c.in_default.ensures.1, f, run-first _ _ c.told-register r))

pub returns-in_err-spans : goal.returns-in_err-spans
returns-in_err-spans c =
    let cal = c.args.calendar.bytes.now in
    let bs = c.args.register.now in
    let f = first (goal.at.returns-in_err-spans c).In-Ok in
    let e = found_is cal bs c.in_err-spans.ensures c.word-day.ensures f (c.from.ensures ∙ c.word.ensures) c.rows-rows.ensures.bytes in
    rw c.from_residual.ensures (none_stand cal bs (λ r. none-some _ (e ∙ run_spans cal bs c.told-register r)))

pub returns-then-register-eq0 : goal.returns-then-register-eq0
unfolding waiting_ok body_of
returns-then-register-eq0 c =
    let bs = c.args.register.now in
    spans (goal.at.returns-then-register-eq0 c).In_ok-spans (rw (places_none bs 8 (get_or bs 1 0) (omega (arith, c.if-register-eq0.true))))

pub waiting_stands-requires-clause-layout : goal.waiting_stands-requires-clause-layout
unfolding moment_of
waiting_stands-requires-clause-layout c =
    let s = scan (goal.at.waiting_stands-requires-clause-layout c).In_ok-spans in
    (s.keeps.waiting, rw c.word-day.ensures at c.if-day-ge-DAYS.false)

pub waiting_stands-requires-clause-found : goal.waiting_stands-requires-clause-found
waiting_stands-requires-clause-found c =
    let g = goal.at.waiting_stands-requires-clause-found c in
    let f = first g.In-Ok in
    (f, rw f (spans_are c.args.calendar.bytes.now c.args.register.now c.told-register (λ i. c.fits-register i) c.in_ok-spans.spans (scan g.In_ok-spans)))

pub returns-then-not-waiting_stands : goal.returns-then-not-waiting_stands
returns-then-not-waiting_stands c = none_stand _ _ (λ r. clash _ (c.waiting_stands.ensures ∙ r.well.sound.waits) (c.if-not-waiting_stands.true))

pub returns : goal.returns
returns c = spans (goal.at.returns c).In_ok-spans (sym c.waiting_stands.ensures ∙ c.if-not-waiting_stands.false)
