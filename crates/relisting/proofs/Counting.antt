-- Counts of the rows that a day has added, of which it is the first day, where old rows have earlier first days.
-- Assumes nothing.
use mathlib.Core.Path.{◌≡◌, refl}
use mathlib.Core.Bool.{true, false, false≢true}
use mathlib.Core.List.{List, [], ◌∷◌}
use Prim.Native.Nat.{ℕ, suc, ◌+◌}
use native.Mathlib.Omega.{arith}
use lib.ListN.{length, length-append}
use borrow.Author.Tests.{eq-eqb}
use Rattle.base.proofs.Tests.{by_bool}
use Rattle.layout.specs.Rows.{Row, row}
use Rattle.ladders.specs.declared.Plan.{Plan}
use Rattle.ladders.specs.Writing.{prices_in, is_next, entry_at, left_at, ladder_by, left_by}
use Rattle.ladders.proofs.OldRows.{entry_next, entry_new}
use Rattle.ladders.proofs.Ladder.{ladder-count}
use Rattle.ladders.proofs.Relisted.{ladders_over, left_over}
use Rattle.calls.specs.Answers.{count}
use Rattle.calls.proofs.CountLaws.{count-append, none_first, none_rest, on}

module _ (d : ℕ) where
  -- each price has an old row or adds one
  module _ (m : Plan) (today : m.day ≡ d) where
    pub count_by : (ps : List ℕ) (old : List Row) → count (on d) old ≡ 0
        → (count (on d) (ladder_by m ps old) + length old ≡ length ps + length (left_by m ps old)) × (count (on d) (left_by m ps old) ≡ 0)
    unfolding count ladder_by left_by is_next
    count_by [] old z = (refl, z)
    count_by (p ∷ ps) old z = by_bool (is_next m p old) (λ e. kept old z e (λ o z. count_by ps o z)) (λ e. new e (count_by ps old z))
      where
        kept : (old : List Row) → count (on d) old ≡ 0 → is_next m p old ≡ true
            → ((o : List Row) → count (on d) o ≡ 0 → (count (on d) (ladder_by m ps o) + length o ≡ length ps + length (left_by m ps o)) × (count (on d) (left_by m ps o) ≡ 0))
            → (count (on d) (row m.month p (entry_at m p old) ∷ ladder_by m ps (left_at m p old)) + length old ≡ suc (length ps) + length (left_by m ps (left_at m p old)))
            × (count (on d) (left_by m ps (left_at m p old)) ≡ 0)
        kept [] z e ih = absurd (false≢true e)
        kept (r ∷ rs) z e ih =
            let n = entry_next m p r rs e in
            let i = ih rs (none_rest (on d) r rs z) in
            rw (n.0, n.1, none_first (on d) r rs z) (omega (arith, i.0), i.1)

        new : is_next m p old ≡ false
            → ((count (on d) (ladder_by m ps old) + length old ≡ length ps + length (left_by m ps old)) × (count (on d) (left_by m ps old) ≡ 0))
            → (count (on d) (row m.month p (entry_at m p old) ∷ ladder_by m ps (left_at m p old)) + length old ≡ suc (length ps) + length (left_by m ps (left_at m p old)))
            × (count (on d) (left_by m ps (left_at m p old)) ≡ 0)
        new e ih =
            let n = entry_new m p old e in
            rw (n.0, n.1, eq-eqb m.day d today) (omega (arith, ih.0), ih.1)

  pub count_months : (F : ℕ → Plan) → ((m : ℕ) → (F m).day ≡ d) → (ms : List ℕ) (old : List Row) → count (on d) old ≡ 0
      → count (on d) (ladders_over F ms old) + length old ≡ length (ladders_over F ms old) + length (left_over F ms old)
  unfolding count ladders_over left_over
  count_months F today [] old z = refl
  count_months F today (m ∷ ms) old z =
      let ps : List ℕ = prices_in (F m) in
      let c = count_by (F m) (today m) ps old z in
      let i = count_months F today ms (left_by (F m) ps old) c.1 in
      rw (count-append (on d) (ladder_by (F m) ps old), length-append (ladder_by (F m) ps old), ladder-count (F m) ps old) (omega (arith, c.0, i))
