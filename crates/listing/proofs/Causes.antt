-- The own causes of a start and of a session, one after the other.
-- Assumes nothing.
use mathlib.Core.Path.{◌≡◌, ap, ◌∙◌}
use mathlib.Core.Bool.{true, false, not, ◌&&◌}
use mathlib.Core.List.{List}
use Prim.Native.Nat.{ℕ, ◌≤◌, ◌<◌}
use lib.Dec.{eqb, ltb}
use borrow.Author.Tests.{eqb-true, eq-eqb, ne_eqb, lt-ltb, le-ltb, not-false}
use Rattle.base.specs.Causes.{cause}
use Rattle.base.proofs.CauseLaws.{none_of, not-cause, caused, passed, alone}
use Rattle.dates.specs.Months.{day_count}
use Rattle.calendar.specs.Calendar.{session, next_session}
use Rattle.grid.specs.Grid.{close_taken}
use Rattle.rules.specs.Rules.{last_first_month}
use Rattle.rules.specs.Rulebook.{begun, moved, first_at, rules}
use Rattle.calls.specs.declared.Call.TheVariants.{Start, Session}
use Rattle.layout.specs.Register.{Body, empty, running}
use Rattle.calls.specs.Listing.{number}
use Rattle.listing.specs.Refusals.{listing_cause}

-- ---- causes 20 and 21
module _ (first close : ℕ) where
  pub late : last_first_month < first → listing_cause first close ≡ 20
  unfolding listing_cause
  late h = caused (ltb last_first_month first) 19 _ (lt-ltb last_first_month first h)

  pub in_time : first ≤ last_first_month → listing_cause first close ≡ cause (not (close_taken close)) 21
  unfolding listing_cause
  in_time h = passed (ltb last_first_month first) 20 _ (le-ltb last_first_month first h) ∙ alone _

module _ (cal : List ℕ) (day close : ℕ) where
  -- ---- a start's own causes
  pub no_start : (ltb day day_count && session cal day) ≡ false → number (rules cal) (Start day close) empty ≡ 18
  unfolding number rules
  no_start h = caused (not (ltb day day_count && session cal day)) 17 _ (ap not h)

  pub start_goes : (ltb day day_count && session cal day) ≡ true → number (rules cal) (Start day close) empty ≡ listing_cause (first_at cal (begun day)) close
  unfolding number rules listing_cause
  start_goes h = passed (not (ltb day day_count && session cal day)) 18 _ (ap not h)

  -- ---- a session's own causes
  module _ (b : Body) where
    pub no-session : (day ≡ next_session cal b.at.day → ⊥) → number (rules cal) (Session day close) (running b) ≡ 19
    unfolding number rules
    no-session h = caused (not (eqb day (next_session cal b.at.day))) 18 _ (ap not (ne_eqb day (next_session cal b.at.day) h))

    pub session_goes : day ≡ next_session cal b.at.day → number (rules cal) (Session day close) (running b) ≡ listing_cause (first_at cal (moved b.at day)) close
    unfolding number rules listing_cause
    session_goes h = passed (not (eqb day (next_session cal b.at.day))) 19 _ (ap not (eq-eqb day (next_session cal b.at.day) h))

    pub session-next : number (rules cal) (Session day close) (running b) ≡ 0 → day ≡ next_session cal b.at.day
    unfolding number rules
    session-next z = eqb-true day (next_session cal b.at.day) (not-false _ (not-cause (not (eqb day (next_session cal b.at.day))) 18 (none_of _ _ z).0))
