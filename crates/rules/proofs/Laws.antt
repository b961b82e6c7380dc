-- All that the closing theorem uses of the rules.
-- Assumes nothing.
use mathlib.Core.Path.{◌≡◌}
use mathlib.Core.Bool.{Bool, true}
use mathlib.Core.List.{List, [], ◌∷◌}
use Prim.Native.Nat.{ℕ, ◌+◌, ◌≤◌, ◌<◌}
use lib.Dec.{leb}
use lib.ListN.{length}
use Rattle.base.specs.Lists.{elem}
use Rattle.grid.specs.Grid.{close_taken}
use Rattle.base.proofs.Rising.{rises, rises_all}
use Rattle.rules.specs.Rules.{Moment, Rules, next, last_first_month}

-- how many prices the grids of a list of months have
unfoldable pub total : (ℕ → List ℕ) → List ℕ → ℕ
total G [] = 0
total G (m ∷ ms) = length (G m) + total G ms

pub record Laws (R : Rules) : Type 0 where
  pub good-begin : (d : ℕ) → R.good (R.begin d) ≡ true
  pub good-move : (x : Moment) → R.good x ≡ true → R.good (next R x) ≡ true
  pub begin-day : (d : ℕ) → (R.begin d).day ≡ d
  pub move-day : (x : Moment) (d : ℕ) → (R.move x d).day ≡ d
  pub later : (x : Moment) → x.day < R.next_day x
  pub next-session : (x : Moment) → R.good x ≡ true → leb (R.first_live (next R x)) last_first_month ≡ true → R.is_session (R.next_day x) ≡ true
  pub day-in : (x : Moment) → R.good x ≡ true → leb (R.first_live x) last_first_month ≡ true → x.day ≤ 36524
  pub live_in : (x : Moment) (m : ℕ) → leb (R.first_live x) last_first_month ≡ true → elem m (R.live x) ≡ true → m ≤ 1199
  pub price_in : (x : Moment) (m p : ℕ) → elem p (R.grid x m) ≡ true → p ≤ 9999
  pub capacity : (x : Moment) → total (R.grid x) (R.live x) ≤ 1391
  -- from a session to the next a live month's grid only becomes finer
  pub finer : (x : Moment) (m p : ℕ) → R.good x ≡ true → elem m (R.live x) ≡ true → elem m (R.live (next R x)) ≡ true
      → elem p (R.grid x m) ≡ true → elem p (R.grid (next R x) m) ≡ true
  pub low-on : (x : Moment) (new : Bool) (m c : ℕ) → close_taken c ≡ true → elem (R.need_low x new m c) (R.grid x m) ≡ true
  pub high-on : (x : Moment) (new : Bool) (m c : ℕ) → close_taken c ≡ true → elem (R.need_high x new m c) (R.grid x m) ≡ true
  pub low-high : (x : Moment) (new : Bool) (m c : ℕ) → close_taken c ≡ true → R.need_low x new m c ≤ R.need_high x new m c
  pub grid_rises : (x : Moment) (m : ℕ) → rises 0 (R.grid x m) ≡ true
  pub live_rises : (x : Moment) → rises_all (R.live x) ≡ true
