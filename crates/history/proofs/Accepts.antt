-- A call against which no cause of document 01's table stands is accepted, so that calls are not refused wholesale. The table's own
-- numbers are written out here and not named: a constant of the definitions that is set wrong fails.
-- Assumes nothing.
use mathlib.Core.Path.{◌≡◌, refl, ap, ◌∙◌}
use mathlib.Core.Bool.{true, false, not}
use mathlib.Core.List.{List, []}
use mathlib.Core.Logic.{◌⊎◌, inl, inr}
use Prim.Native.Nat.{ℕ, ◌≤◌, ◌<◌}
use native.Mathlib.Omega.{arith}
use lib.Dec.{leb, lit<, lit≤}
use lib.ListN.{length, get_or, drop}
use borrow.Author.Tests.{lt-ltb, le-ltb, lt-leb, eq-eqb}
use Rattle.base.specs.Search.{first_from}
use Rattle.base.specs.Lists.{elem, within}
use Rattle.base.specs.Causes.{cause, first_cause}
use Rattle.base.proofs.Tests.{and_no}
use Rattle.base.proofs.ListLaws.{within_i}
use Rattle.base.proofs.CauseLaws.{alone, passed}
use Rattle.dates.specs.Months.{friday, month_days, first_day, third_friday}
use Rattle.calendar.specs.Calendar.{Passes, session as has_session, expiry_of, next_session}
use Rattle.calendar.specs.Live.{first_live, live_months, tier_of}
use Rattle.grid.specs.Grid.{grid_of, close_taken}
use Rattle.rules.specs.Rulebook as Rulebook
use Rattle.rules.specs.Rulebook.{first_at, tier_at, rules, expiry_at}
use Rattle.calls.specs.declared.Call.{Call}
use Rattle.calls.specs.declared.Call.TheVariants.{Start, Session, Announce}
use Rattle.rules.proofs.RulebookLaws.{laws}
use Rattle.layout.specs.Register.{empty, running, waiting_of, span_low, span_high, announce_causes}
use Rattle.layout.specs.Bytes.{places_from, bytes_of, body_of, all_zero, reg_of, moment_of}
use Rattle.base.specs.Words.{at16}
use Rattle.layout.specs.Opening.{opened, stands}
use Rattle.calls.specs.RowsCall.{rows_cause, rows_number}
use Rattle.layout.proofs.ByteLaws.{back, places_count}
use Rattle.layout.proofs.OpeningLaws.{says_own}
use Rattle.calls.specs.Listing.{number}
use Rattle.calls.specs.Answers.{number_at}
use Rattle.history.specs.Claim.{empty_register, final_at}
use Rattle.history.proofs.Closing.{always-stands}
use Rattle.calendar.proofs.EveryDay.{every_day, every-day-passes, every-day-session, every-day-first}

-- ---- start, on the empty register
empty_read : reg_of empty_register ≡ empty
unfolding bytes_of
empty_read = back empty tt

empty_stands : (cal : List ℕ) → (length empty_register ≡ 11264) × (stands (rules cal) empty_register ≡ true)
unfolding final_at
empty_stands cal = always-stands (rules cal) (laws cal) []

-- a close from 9,000 to 954,999 is taken
taken : (c : ℕ) → 9000 ≤ c → c ≤ 954999 → cause (not (close_taken c)) 21 ≡ 0
unfolding close_taken cause
taken c lo hi = rw (within_i lo hi)

-- nothing but the close is left to refuse it
module _ (cal : List ℕ) (passes : Passes cal) (d c : ℕ) (hd : d ≤ 36524) (hs : has_session cal d ≡ true) (hl : first_live (expiry_of cal) d ≤ 1190) where
  start_own : number (rules cal) (Start d c) empty ≡ cause (not (close_taken c)) 21
  unfolding number rules Rulebook.begun Rulebook.moved first_at expiry_at
  start_own =
      passed _ 18 _ (rw (lt-ltb d 36525 (omega arith), hs))
      ∙ passed _ 20 _ (le-ltb 1190 (first_live (expiry_of cal) d) hl)
      ∙ alone (cause (not (close_taken c)) 21)

  pub start-number : number_at (rules cal) (Start d c) empty_register ≡ cause (not (close_taken c)) 21
  unfolding number_at rules
  start-number =
      let s = empty_stands cal in
      says_own (rules cal) empty_register (number (rules cal) (Start d c) (reg_of empty_register)) passes s.0 s.1
      ∙ ap (number (rules cal) (Start d c)) empty_read
      ∙ start_own

pub start-accepted : (cal : List ℕ) → Passes cal → (d c : ℕ) → d ≤ 36524 → has_session cal d ≡ true → first_live (expiry_of cal) d ≤ 1190
    → 9000 ≤ c → c ≤ 954999 → number_at (rules cal) (Start d c) empty_register ≡ 0
start-accepted cal passes d c hd hs hl lo hi = start-number cal passes d c hd hs hl ∙ taken c lo hi

-- ---- the other calls, on a running register: 11,264 bytes that are not all zero, keep the layout and are well formed
abbrev pub Runs : List ℕ → List ℕ → Type 0
Runs cal bs = (length bs ≡ 11264) × (all_zero bs ≡ false) × (stands (rules cal) bs ≡ true)

-- whatever calls leave is such a register, unless it is empty still
pub reached_runs : (cal : List ℕ) (calls : List Call) → let bs = final_at (rules cal) calls empty_register in all_zero bs ≡ false → Runs cal bs
reached_runs cal calls z = let s = always-stands (rules cal) (laws cal) calls in (s.0, z, s.1)

-- not from lo to hi
outside : (lo hi p : ℕ) → (p < lo) ⊎ (hi < p) → within lo hi p ≡ false
unfolding within
outside lo hi p (inl h) = rw (lt-leb lo p h)
outside lo hi p (inr h) = and_no (leb lo p) (leb p hi) (lt-leb p hi h)

module _ (cal bs : List ℕ) where
  pub run_read : Runs cal bs → reg_of bs ≡ running (body_of bs)
  unfolding reg_of
  run_read run = rw run.1

  module _ (passes : Passes cal) (run : Runs cal bs) where
    says : (own : ℕ) → opened (rules cal) bs own ≡ own
    unfolding rules
    says own = says_own (rules cal) bs own passes run.0 run.2

    -- bytes 2–3 hold the day
    pub session-number : (d c : ℕ) → d ≡ next_session cal (at16 bs 2) → first_live (expiry_of cal) d ≤ 1190
        → number_at (rules cal) (Session d c) bs ≡ cause (not (close_taken c)) 21
    unfolding number_at number rules Rulebook.begun Rulebook.moved first_at expiry_at body_of moment_of
    session-number d c e l =
        says _
        ∙ ap (number (rules cal) (Session d c)) (run_read run)
        ∙ passed _ 19 _ (rw (eq-eqb d (next_session cal (at16 bs 2)) e))
        ∙ passed _ 20 _ (le-ltb 1190 (first_live (expiry_of cal) d) l)
        ∙ alone (cause (not (close_taken c)) 21)

    pub session-accepted : (d c : ℕ) → d ≡ next_session cal (at16 bs 2) → first_live (expiry_of cal) d ≤ 1190 → 9000 ≤ c → c ≤ 954999
        → number_at (rules cal) (Session d c) bs ≡ 0
    session-accepted d c e l lo hi = session-number d c e l ∙ taken c lo hi

    -- byte 1 holds how many wait
    pub announce-accepted : (m p : ℕ) → let day = at16 bs 2 in let next = next_session cal day in
        first_live (expiry_of cal) next ≤ 1190
        → elem m (live_months (first_live (expiry_of cal) day)) ≡ true → day < expiry_of cal m
        → elem p (grid_of (tier_of (first_live (expiry_of cal) next) m)) ≡ true
        → (p < span_low (body_of bs) m) ⊎ (span_high (body_of bs) m < p) → elem p (waiting_of m (body_of bs).waiting) ≡ false
        → get_or bs 1 0 < 32
        → number_at (rules cal) (Announce m p) bs ≡ 0
    unfolding number_at number announce_causes rules Rulebook.begun Rulebook.moved first_at expiry_at tier_at body_of moment_of cause first_cause
    announce-accepted m p l live later on out fresh room =
        says _
        ∙ rw (
          run_read run,
          le-ltb 1190 (first_live (expiry_of cal) (next_session cal (at16 bs 2))) l,
          live,
          lt-leb (expiry_of cal m) (at16 bs 2) later,
          on,
          outside (span_low (body_of bs) m) (span_high (body_of bs) m) p out,
          fresh,
          places_count (get_or bs 1 0) (drop places_from bs),
          lt-leb 32 (get_or bs 1 0) room,
        )

    pub rows-accepted : (m : ℕ) → elem m (live_months (first_live (expiry_of cal) (at16 bs 2))) ≡ true → rows_number (rules cal) bs m ≡ 0
    unfolding rows_number rows_cause rules first_at expiry_at body_of moment_of cause first_cause
    rows-accepted m live = says _ ∙ rw (run_read run, live)

-- ---- one call with every number given: a start on day 9816, 16 November 2026, under a calendar in which every day has a session
november : (first_day 322 ≡ 9801) × (third_friday 322 ≡ 9820)
unfolding third_friday first_day month_days friday first_from
november = (refl, refl)

pub november-first : (d : ℕ) → 9801 ≤ d → d ≤ 9820 → first_live (expiry_of every_day) d ≡ 322
november-first d from to = every-day-first d 322 (lit< tt) (omega (arith, november.0)) (omega (arith, november.1))

pub one-start-accepted : number_at (rules every_day) (Start 9816 241337) empty_register ≡ 0
one-start-accepted =
    start-accepted every_day every-day-passes 9816 241337 (lit≤ tt) (every-day-session 9816 (lit≤ tt))
    (omega (arith, november-first 9816 (lit≤ tt) (lit≤ tt))) (lit≤ tt) (lit≤ tt)
