-- Each line of the table is met: under a calendar in which every day has a session, by days of November and December 2026.
-- Assumes nothing.
use mathlib.Core.Path.{◌≡◌, refl, sym, ap}
use mathlib.Core.Bool.{true, false}
use mathlib.Core.List.{List, [], ◌∷◌, ◌++◌}
use Prim.Native.Nat.{ℕ, ◌≤◌}
use native.Mathlib.Omega.{arith}
use lib.Dec.{lit<, lit≤}
use lib.ListN.{replicate}
use Rattle.base.specs.Lists.{elem, within}
use Rattle.base.specs.Search.{first_from}
use Rattle.base.specs.declared.Tier.{Tier}
use Rattle.base.specs.declared.Tier.TheVariants.{N, M, F}
use Rattle.dates.specs.Months.{friday, month_days, first_day, third_friday}
use Rattle.calendar.specs.Calendar.{session, next_session, expiry_of}
use Rattle.calendar.specs.Live.{first_live, quarterly, next_quarter, live_months, tier_of}
use Rattle.grid.specs.Grid.{close_taken}
use Rattle.rules.specs.Rulebook as Rulebook
use Rattle.rules.specs.Rulebook.{rules}
use Rattle.calls.specs.declared.Call.TheVariants.{Start}
use Rattle.layout.specs.Register.{Body}
use Rattle.base.specs.Words.{at16}
use Rattle.layout.specs.Bytes.{body_of, moment_of}
use Rattle.calls.specs.Listing.{start_body}
use Rattle.calls.specs.Answers.{after_at}
use Rattle.history.specs.Claim.{empty_register}
use Rattle.calendar.proofs.EveryDay.{every_day, every-day-passes, every-day-session, every-day-next, every-day-first, every-day_later}
use Rattle.history.proofs.Accepts.{november-first}
use Rattle.history.proofs.Written.{written_body, written_runs}
use Rattle.worked.specs.Worked.{LiveAs, CanStart, CanMove, table}
use Rattle.worked.specs.Instances.{Met, EachMet}
use Rattle.worked.proofs.Starts.{start-written}
use Rattle.worked.proofs.Worked.{◌&◌}

-- April 2025: the third Friday has no session, the day before has one
missing-friday : (session (replicate 1154 0 ++ (64 ∷ [])) 9239 ≡ false) × (session (replicate 1154 0 ++ (64 ∷ [])) 9238 ≡ true)
unfolding session
missing-friday = (refl, refl)

can-start : (day : ℕ) → day ≤ 36524 → first_live (expiry_of every_day) day ≤ 1190 → CanStart every_day day
can-start day l f = record { passes = every-day-passes; in_calendar = l; on-session = every-day-session day l; first-month = f }

live_of : (day f m : ℕ) (t : Tier) → first_live (expiry_of every_day) day ≡ f → elem m (live_months f) ≡ true → tier_of f m ≡ t → LiveAs every_day day m t
unfolding LiveAs
live_of day f m t e a b = rw e (a, b)

-- ---- 16 and 17 November: the first live month is November
first_16 : first_live (expiry_of every_day) 9816 ≡ 322
first_16 = november-first 9816 (lit≤ tt) (lit≤ tt)

next_16 : next_session every_day 9816 ≡ 9817
next_16 = every-day-next 9816 (lit< tt)

first_17 : first_live (expiry_of every_day) 9817 ≡ 322
first_17 = november-first 9817 (lit≤ tt) (lit≤ tt)

start_16 : CanStart every_day 9816
start_16 = can-start 9816 (lit≤ tt) (omega (arith, first_16))

near_16 : LiveAs every_day 9816 322 N
unfolding elem live_months tier_of
near_16 = live_of 9816 322 322 N first_16 refl refl

middle_16 : LiveAs every_day 9816 323 M
unfolding elem live_months tier_of
middle_16 = live_of 9816 322 323 M first_16 refl refl

far_16 : LiveAs every_day 9816 326 F
unfolding elem live_months next_quarter quarterly first_from tier_of
far_16 = live_of 9816 322 326 F first_16 refl refl

middle_17 : LiveAs every_day 9817 323 M
unfolding elem live_months tier_of
middle_17 = live_of 9817 322 323 M first_17 refl refl

-- the register that a start leaves, and the session on the next day
abbrev started : List ℕ
started = after_at (rules every_day) (Start 9816 241337) empty_register

can-move : CanMove every_day started 9817
unfolding close_taken within body_of moment_of start_body rules Rulebook.begun
can-move =
    let w = start-written every_day 9816 241337 start_16 refl in
    let b : Body = start_body (rules every_day) ((rules every_day).begin 9816) 241337 in
    let r = written_runs every_day started b w in
    let day : at16 started 2 ≡ 9816 = ap (λ (b : Body). b.at.day) (written_body every_day started b w) in
    record {
      passes = every-day-passes;
      size = r.0;
      not-empty = r.1;
      well-formed = r.2;
      next-session = rw day (sym next_16);
      first-month = omega (arith, first_17);
    }

-- ---- 18 and 19 December: December expires, and March comes from tier F to tier M
december : (first_day 323 ≡ 9831) × (third_friday 323 ≡ 9848) × (first_day 324 ≡ 9862)
unfolding third_friday first_day month_days friday first_from
december = (refl, refl, refl)

first_18 : first_live (expiry_of every_day) 9848 ≡ 323
first_18 = every-day-first 9848 323 (lit< tt) (omega (arith, december.0)) (omega (arith, december.1))

next_18 : next_session every_day 9848 ≡ 9849
next_18 = every-day-next 9848 (lit< tt)

first_19 : first_live (expiry_of every_day) 9849 ≡ 324
first_19 = every-day_later 9849 323 (lit< tt) (omega (arith, december.0)) (omega (arith, december.1)) (omega (arith, december.2)) (lit< tt)

start_18 : CanStart every_day 9848
start_18 = can-start 9848 (lit≤ tt) (omega (arith, first_18))

far_18 : LiveAs every_day 9848 326 F
unfolding elem live_months next_quarter quarterly first_from tier_of
far_18 = live_of 9848 323 326 F first_18 refl refl

middle_19 : LiveAs every_day 9849 326 M
unfolding elem live_months tier_of
middle_19 = live_of 9849 324 326 M first_19 refl refl

-- ---- the table
pub met : EachMet table
unfolding EachMet Met table
met =
    tt
    & tt & (replicate 1154 0 ++ (64 ∷ []), missing-friday.0, missing-friday.1)
    & tt & tt
    & tt & tt
    & tt & tt
    & (every_day, 9816, 322, start_16, near_16) & (every_day, 9816, 323, start_16, middle_16) & (every_day, 9816, 326, start_16, far_16)
    & (every_day, 9816, start_16)
    & tt & tt & tt
    & tt & tt
    & tt & tt
    & tt & (every_day, 9816, 326, start_16, far_16) & both & both
    & tt & (every_day, 9816, 326, start_16, far_16) & both & both
    & (every_day, 9848, 326, start_18, rw next_18 (omega (arith, first_19)), far_18, rw next_18 middle_19)
    & stays
    & stays
    & tt & tt & tt
  where
    both : ((cal : List ℕ) × (day : ℕ) × CanStart cal day) × ((cal : List ℕ) × (bs : List ℕ) × (day : ℕ) × CanMove cal bs day)
    both = ((every_day, 9816, start_16), (every_day, started, 9817, can-move))

    stays : (cal : List ℕ) × (day : ℕ) × (m : ℕ) × CanStart cal day
        × (first_live (expiry_of cal) (next_session cal day) ≤ 1190) × LiveAs cal day m M × LiveAs cal (next_session cal day) m M
    stays = (every_day, 9816, 323, start_16, rw next_16 (omega (arith, first_17)), middle_16, rw next_16 middle_17)
