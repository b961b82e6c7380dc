-- What a start lists is what document 01 says.
-- Assumes nothing.
use mathlib.Core.Path.{◌≡◌, refl, sym, ap, ◌∙◌}
use mathlib.Core.Bool.{false≢true}
use mathlib.Core.List.{List, []}
use Prim.Native.Nat.{ℕ, ◌+◌}
use native.Mathlib.Omega.{arith}
use lib.ListN.{length, get_or, replicate}
use Rattle.base.specs.Lists.{elem}
use Rattle.base.proofs.ListLaws.{within_i}
use Rattle.base.proofs.Rising.{rises, rises_all}
use Rattle.calendar.specs.Calendar.{Passes}
use Rattle.calendar.specs.Live.{live_months, tier_of}
use Rattle.grid.specs.Grid.{required_low, required_high, close_taken}
use Rattle.grid.specs.declared.closes.Close.{Close}
use Rattle.grid.proofs.GridLaws.{required-low, required-high}
use Rattle.rules.specs.Rules.{Moment}
use Rattle.rules.specs.Rulebook.{begun, first_at, tier_at, rules}
use Rattle.rules.specs.declared.live.LiveMonths.{LiveMonths}
use Rattle.rules.proofs.RulebookLaws.{live_rises}
use Rattle.layout.specs.Rows.{new_entry, rows_of}
use Rattle.layout.specs.Register.{empty, running, listed}
use Rattle.layout.specs.Bytes.{bytes_of}
use Rattle.std.specs.Prelude.{None}
use Rattle.layout.specs.Origins.{origin_code}
use Rattle.layout.specs.declared.Origin.TheVariants.{Start}
use Rattle.ladders.specs.declared.Plan.{Plan}
use Rattle.ladders.specs.Writing.{prices_in, added_origin, ladders_from, plan_at, Ready}
use Rattle.spans.specs.Spans.{close_pair, close_spans}
use Rattle.spans.proofs.SpanLaws.{by-six}
use Rattle.ladders.proofs.Relisted.{left_over, ladders-over, At, from_over}
use Rattle.calls.specs.Listing.{start_body}
use Rattle.calls.specs.Answers.{rows_held, count, added, removed}
use Rattle.calls.specs.declared.Totals.{Totals}
use Rattle.relisting.specs.Writing.{answer, quiet_bytes, Taken}
use Rattle.relisting.proofs.Head.{quiet_is}
use Rattle.calls.proofs.CountLaws.{on}
use Rattle.relisting.proofs.Counting.{count_months}
use Rattle.relisting.proofs.Plans.{prices_rise, ready}

-- a moment whose live months these are, and a close, are taken
pub taken_i : (cal : List ℕ) (x : Moment) (live : LiveMonths) (close : Close) → Passes cal → live.first ≡ first_at cal x → Taken cal x close.hundredths
unfolding close_taken
taken_i cal x live close p e = record { passes = p; live = rw e at live.latest; close-taken = within_i close.lowest close.highest }

-- no month held a span
abbrev pub none : List (List ℕ)
none = replicate 6 (replicate 2 0)

module _ (cal : List ℕ) (day close : ℕ) (ok : Taken cal (begun day) close) where
  abbrev g : ℕ
  g = first_at cal (begun day)

  abbrev spans : List (List ℕ)
  spans = close_spans (live_months g) none close

  abbrev plans : ℕ → Plan
  plans = plan_at day (origin_code Start) (live_months g) none spans spans

  abbrev F : ℕ → Plan
  F m = record {
    month = m;
    tier = tier_of g m;
    day = day;
    origin = origin_code Start;
    span = record { low = required_low (tier_of g m) close; high = required_high (tier_of g m) close };
    held = None;
    wide = record { low = required_low (tier_of g m) close; high = required_high (tier_of g m) close };
  }

  plans-at : At F plans 0 (live_months g)
  unfolding live_months close_spans close_pair
  plans-at = by-six (λ k. plans (0 + k) ≡ F (get_or (live_months g) k 0)) refl refl refl refl refl refl

  pub start_ready : Ready g plans
  start_ready =
      let l = ok.live in
      ready cal (begun day) F (λ m. refl)
      (λ m e. record { low-on = (required-low (tier_of g m) close).0; high-on = (required-high (tier_of g m) close).0 })
      (omega arith) plans plans-at

  rows_are : (ladders_from plans 0 6 [] ≡ (start_body (rules cal) (begun day) close).rows) × (left_over F (live_months g) [] ≡ [])
  unfolding rows_of elem rises_all rises start_body begun rules tier_at listed prices_in added_origin live_months
  rows_are =
      let o = ladders-over F (λ m. refl) (λ m. []) (λ m p. new_entry 0 0) (λ m. prices_rise (F m)) (λ m. refl) (live_months g) [] (live_rises g) refl
      (λ m e. absurd (false≢true e)) (λ m e. absurd (false≢true e)) in
      (from_over F plans 0 (live_months g) [] plans-at ∙ o.0, o.1)

  all_new : count (on day) (ladders_from plans 0 6 []) ≡ length (ladders_from plans 0 6 [])
  unfolding count live_months
  all_new =
      let c = count_months day F (λ m. refl) (live_months g) [] refl in
      let e = from_over F plans 0 (live_months g) [] plans-at in
      let l = rows_are.1 in
      rw e (omega (arith, rw l at c))

  -- what a start answers and leaves
  pub start-done : (n : ℕ) (out : List ℕ) → n ≡ length (ladders_from plans 0 6 []) → out ≡ quiet_bytes day (ladders_from plans 0 6 [])
      → (◌≡◌ {A = Totals} (record { added = n; removed = 0; rows = n }) (answer (rules cal) empty (running (start_body (rules cal) (begun day) close))))
      × (out ≡ bytes_of (running (start_body (rules cal) (begun day) close)))
  unfolding added removed rows_held count start_body begun
  start-done n out e o =
      let r = rows_are.0 in
      let c : n ≡ count (on day) (start_body (rules cal) (begun day) close).rows = e ∙ sym all_new ∙ ap (count (on day)) r in
      let l : n ≡ length (start_body (rules cal) (begun day) close).rows = e ∙ ap length r in
      (λ i. record { added = c i; removed = 0; rows = l i }, o ∙ ap (quiet_bytes day) r ∙ quiet_is (begun day) (start_body (rules cal) (begun day) close).rows)
