-- The loader's file after line 3's start: a call and a put for each of its 94 rows, 5 + 15 · 188 bytes.
-- Assumes nothing.
use mathlib.Core.Path.{◌≡◌, refl, sym, ap, ◌∙◌}
use mathlib.Core.Bool.{true, not}
use mathlib.Core.List.{List, [], ◌∷◌}
use Prim.Native.Nat.{ℕ, ◌+◌, ◌*◌, ◌≤◌}
use native.Mathlib.Omega.{arith}
use lib.ListN.{length, drop}
use Rattle.base.specs.Words.{at16}
use Rattle.base.specs.Lists.{select, within, least_of, greatest_of, least, greatest}
use Rattle.base.proofs.Tests.{and_i, eqb_self}
use Rattle.grid.specs.Grid.{up_by, band, grid_of, distance, nearest_from, nearest, next_higher, next_lower, neighbours, required, required_low, required_high, close_taken}
use Rattle.rules.specs.Rulebook.{rules}
use Rattle.rules.specs.Rulebook as Rulebook
use Rattle.calls.specs.declared.Call.TheVariants.{Start}
use Rattle.calls.specs.Listing.{start_body}
use Rattle.calls.specs.Answers.{after_at}
use Rattle.layout.specs.Rows.{new_entry, ladder, rows_of}
use Rattle.layout.specs.Register.{Body}
use Rattle.layout.specs.Bytes.{rows_from, body_of, moment_of}
use Rattle.layout.specs.Spans.{runs_well}
use Rattle.layout.proofs.ByteLaws.{rows-count}
use Rattle.history.specs.Claim.{empty_register}
use Rattle.history.proofs.Written.{written_body, written_runs}
use Rattle.naming.specs.DayFile.{new_rows}
use Rattle.naming.proofs.Climbing.{new-append}
use Rattle.loader.specs.Loader.{file_at}
use Rattle.loader.proofs.Reader.{told}
use Rattle.worked.specs.Worked.{CanStart, Holds}
use Rattle.worked.proofs.Starts.{sizes, start-written, starts_by}

-- rows of one first day are all new on it
module _ (d o : ℕ) where
  ladder_new : (m : ℕ) (ps : List ℕ) → new_rows d (ladder m (λ p. new_entry d o) ps) ≡ ladder m (λ p. new_entry d o) ps
  unfolding new_rows ladder
  ladder_new m [] = refl
  ladder_new m (p ∷ ps) = rw (eqb_self d, ladder_new m ps)

  rows_new : (L : List ℕ) (G : ℕ → List ℕ) → new_rows d (rows_of L G (λ m p. new_entry d o)) ≡ rows_of L G (λ m p. new_entry d o)
  unfolding new_rows rows_of
  rows_new [] G = refl
  rows_new (m ∷ ms) G = new-append d (ladder m (λ p. new_entry d o) (G m)) (rows_of ms G (λ m p. new_entry d o)) ∙ rw (ladder_new m (G m), rows_new ms G)

module _ (cal : List ℕ) (day c : ℕ) (can : CanStart cal day) (ok : close_taken c ≡ true) where
  abbrev bs : List ℕ
  bs = after_at (rules cal) (Start day c) empty_register

  abbrev b : Body
  b = start_body (rules cal) ((rules cal).begin day) c

  body_is : body_of bs ≡ b
  body_is = written_body cal bs b (start-written cal day c can ok)

  day_is : at16 bs 2 ≡ day
  unfolding body_of moment_of start_body rules Rulebook.begun
  day_is = ap (λ (x : Body). x.at.day) body_is

  all_new : new_rows day b.rows ≡ b.rows
  unfolding start_body rules Rulebook.begun
  all_new = rows_new day 5 _ _

  -- as many rows are new as it has
  new-number : length (new_rows (at16 bs 2) (body_of bs).rows) ≡ at16 bs 4
  unfolding body_of
  new-number =
      let rs = ap (λ (x : Body). x.rows) body_is in
      ap (λ (d : ℕ). length (new_rows d (body_of bs).rows)) day_is
      ∙ ap length (ap (new_rows day) rs ∙ all_new ∙ sym rs)
      ∙ rows-count (at16 bs 4) (drop rows_from bs)

  start_runs : (length bs ≡ 11264) × (runs_well cal bs ≡ true)
  unfolding runs_well
  start_runs = let w = written_runs cal bs b (start-written cal day c can ok) in (w.0, and_i (ap not w.1) w.2)

-- wherever a start can be
pub start_file : (cal out : List ℕ) (day : ℕ) → CanStart cal day → 2825 ≤ length out
    → file_at cal (after_at (rules cal) (Start day 241337) empty_register) out ≡ record { number = 0; length = 2825 }
unfolding Holds grid_of band up_by distance nearest_from nearest next_higher next_lower neighbours required required_low required_high close_taken select least_of greatest_of least greatest within sizes
start_file cal out day can room =
    let bs : List ℕ = after_at (rules cal) (Start day 241337) empty_register in
    let w = start_runs cal day 241337 can refl in
    let rows = (starts_by 241337 33 34 27 94 refl refl refl refl refl refl cal day can).5 in
    let size : 5 + 30 * length (new_rows (at16 bs 2) (body_of bs).rows) ≡ 2825 = omega (arith, new-number cal day 241337 can refl) in
    told cal bs out can.passes w.0 w.1 (omega arith) ∙ (λ i. record { number = 0; length = size i })
