-- What the register before a session gives: its rows as they stand in the bytes, and prices announced for the next grid.
-- Assumes nothing.
use mathlib.Core.Path.{◌≡◌, ap, ◌∙◌}
use mathlib.Core.Bool.{true, false≢true}
use mathlib.Core.List.{List, [], ◌∷◌, ◌++◌}
use Prim.Native.Nat.{ℕ}
use native.Mathlib.Omega.{arith}
use lib.Dec.{eqb}
use lib.ListN.{length, get_or, drop}
use lib.Seq.{drop_at}
use borrow.Author.Tests.{eqb-true, not-false}
use Rattle.base.specs.Lists.{elem}
use Rattle.base.specs.Causes.{first_cause}
use Rattle.base.proofs.Tests.{by_bool, and_l, and_r, or_e}
use Rattle.base.proofs.CauseLaws.{none_of, not-cause}
use Rattle.calendar.specs.Live.{tier_of}
use Rattle.grid.specs.Grid.{grid_of}
use Rattle.rules.specs.Rules.{Rules, next}
use Rattle.rules.specs.Rulebook.{first_at, tier_at, rules}
use Rattle.layout.specs.Register.{Body, waiting_of, announce_causes, waiting_ok}
use Rattle.layout.specs.Bytes.{register_length, places_bytes, rows_bytes, padded, body_bytes, read_places, read_rows, moment_of, body_of, rows_from, rows_length, places_length}
use Rattle.base.specs.Words.{two, at16}
use Rattle.layout.proofs.ByteLaws.{places-length, padded-length, places_count, rows-count}
use Rattle.layout.proofs.Held.{Held, Facts}
use Rattle.layout.proofs.Running.{Running}
use Rattle.register.proofs.Well.{run_keeps, run-held}

-- ---- what waits lies on the grid of the next session
waits-on : (R : Rules) (b : Body) (past ws : List (ℕ × ℕ)) → waiting_ok R b past ws ≡ true
    → (m p : ℕ) → elem p (waiting_of m ws) ≡ true → elem p (R.grid (next R b.at) m) ≡ true
unfolding waiting_ok announce_causes waiting_of elem
waits-on R b past [] k m p e = absurd (false≢true e)
waits-on R b past (w ∷ ws) k m p e =
    let z = eqb-true _ 0 (and_l _ _ k) in
    let z₁ = (none_of _ _ z).1 in
    let z₂ = (none_of _ _ z₁).1 in
    let on = not-false (elem w.1 (R.grid (next R b.at) w.0)) (not-cause _ 22 (none_of _ _ z₂).0) in
    let rest = waits-on R b (past ++ (w ∷ [])) ws (and_r (eqb (first_cause (announce_causes R b (past ++ ws) w.0 w.1)) 0) _ k) m p in
    by_bool (eqb m w.0)
    (λ t. or_e (eqb p w.1) _ (rw t at e)
    (λ u. rw (eqb-true m w.0 t, eqb-true p w.1 u) on)
    rest)
    (λ t. rest (rw t at e))

module _ (cal bs : List ℕ) (size : length bs ≡ register_length) (run : Running cal bs) where
  abbrev pub old : Body
  old = record {
    at = moment_of bs;
    waiting = read_places (get_or bs 1 0) (drop 8 bs);
    rows = read_rows (at16 bs 4) (drop rows_from bs);
  }

  pub well : Facts (rules cal) old
  unfolding body_of
  well = run.well

  pub row_count : length old.rows ≡ at16 bs 4
  row_count = rows-count (at16 bs 4) (drop rows_from bs)

  pub rows_laid : drop rows_from bs ≡ padded rows_length (rows_bytes old.rows)
  unfolding body_of body_bytes two
  rows_laid =
      let p = places-length old.waiting in
      let w = (run_keeps cal bs size run).waiting in
      let c = places_count (get_or bs 1 0) (drop 8 bs) in
      ap (drop rows_from) run.written
      ∙ drop_at (padded places_length (places_bytes old.waiting)) (padded rows_length (rows_bytes old.rows)) places_length (padded-length places_length (places_bytes old.waiting) (omega arith))

  pub holds : Held (first_at cal (moment_of bs)) old.rows
  unfolding body_of
  holds = run-held cal bs size run

  pub waits-next : (m p : ℕ) → elem p (waiting_of m old.waiting) ≡ true → elem p (grid_of (tier_of (first_at cal (next (rules cal) (moment_of bs))) m)) ≡ true
  unfolding rules tier_at
  waits-next m p e = on (waits-on (rules cal) old [] old.waiting well.sound.waits m p e)
    where
      on : elem p ((rules cal).grid (next (rules cal) old.at) m) ≡ true → elem p (grid_of (tier_of (first_at cal (next (rules cal) (moment_of bs))) m)) ≡ true
      on x = x
