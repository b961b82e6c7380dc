-- Old rows are taken up one by one from the front.
-- Assumes nothing.
use mathlib.Core.Path.{◌≡◌, refl, sym}
use mathlib.Core.Bool.{true, false}
use mathlib.Core.List.{List, [], ◌∷◌}
use Prim.Native.Nat.{ℕ}
use Rattle.layout.specs.Rows.{new_entry, Row}
use Rattle.ladders.specs.declared.Plan.{Plan}
use Rattle.ladders.specs.Writing.{added_origin, is_next, entry_at, left_at, Entered}

module _ (m : Plan) (p : ℕ) where
  pub entry_next : (r : Row) (rs : List Row) → is_next m p (r ∷ rs) ≡ true → (entry_at m p (r ∷ rs) ≡ r.entry) × (left_at m p (r ∷ rs) ≡ rs)
  unfolding entry_at left_at
  entry_next r rs e = (rw e, rw e)

  pub entry_new : (rs : List Row) → is_next m p rs ≡ false → (entry_at m p rs ≡ new_entry m.day (added_origin m p)) × (left_at m p rs ≡ rs)
  unfolding entry_at left_at
  entry_new [] e = (refl, refl)
  entry_new (r ∷ rs) e = (rw e, rw e)

  pub entered-next : (r : Row) (rs : List Row) → is_next m p (r ∷ rs) ≡ true → Entered m (r ∷ rs) p r.entry.first r.entry.origin rs
  entered-next r rs e = let n = entry_next r rs e in record { first_is = rw n.0; origin_is = rw n.0; left_is = sym n.1 }

  pub entered_new : (rs : List Row) → is_next m p rs ≡ false → Entered m rs p m.day (added_origin m p) rs
  entered_new rs e = let n = entry_new rs e in record { first_is = rw n.0; origin_is = rw n.0; left_is = sym n.1 }
