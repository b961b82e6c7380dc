-- Laws of the bytes of a name of which each can stand where it stands.
-- Assumes nothing.
use mathlib.Core.Path.{◌≡◌}
use mathlib.Core.Bool.{true}
use mathlib.Core.List.{List, [], ◌∷◌}
use Prim.Native.Nat.{ℕ, ◌+◌, ◌-◌, ◌*◌, ◌%◌, ◌≤◌, ◌<◌}
use native.Mathlib.Omega.{arith}
use lib.ListN.{length, get_or}
use lib.Seq.{drop-cons}
use borrow.Author.Tests.{not-false, lt-ltb, le-ltb, ne_eqb, eqb-true}
use Rattle.base.specs.Search.{first_in}
use Rattle.base.specs.Lists.{within}
use Rattle.base.proofs.SearchLaws.{first-before}
use Rattle.names.specs.Names.{name_length, prefix, value_from, can_stand, misplaced, month_read, price_read}

module _ (bs : List ℕ) (placed : name_length ≤ first_in (misplaced bs) 0 name_length) where
  stands : (i : ℕ) → i < name_length → can_stand i (get_or bs i 0) ≡ true
  unfolding misplaced
  stands i h = not-false _ (first-before (misplaced bs) 0 name_length i (omega arith) (omega arith))

  pub is-prefix : (i : ℕ) → i < 4 → get_or bs i 0 ≡ get_or prefix i 0
  unfolding can_stand
  is-prefix i h =
      let e = stands i (omega arith) in
      eqb-true (get_or bs i 0) (get_or prefix i 0) (rw (lt-ltb i 4 h) at e)

  pub is-letter : within 65 88 (get_or bs 4 0) ≡ true
  unfolding can_stand
  is-letter = stands 4 (omega arith)

  pub is_digit : (i : ℕ) → 4 < i → i < name_length → within 48 57 (get_or bs i 0) ≡ true
  unfolding can_stand
  is_digit i l h =
      let e = stands i h in
      rw (le-ltb i 4 (omega arith), ne_eqb i 4 (omega arith)) at e

-- the digits of month and price as the code reads them, two by two
module _ (bs : List ℕ) (long : length bs ≡ name_length) where
  pub month_pair : month_read bs ≡ 12 * value_from 0 (get_or bs 5 0 ∷ get_or bs 6 0 ∷ []) + (get_or bs 4 0 - 65) % 12
  unfolding month_read
  month_pair = rw (drop-cons bs 5 0 (omega arith), drop-cons bs 6 0 (omega arith))

  pub price_pairs :
      price_read bs ≡
      100 * value_from 0 (get_or bs 7 0 ∷ get_or bs 8 0 ∷ []) + value_from 0 (get_or bs 9 0 ∷ get_or bs 10 0 ∷ [])
  unfolding price_read value_from
  price_pairs =
      rw (drop-cons bs 7 0 (omega arith), drop-cons bs 8 0 (omega arith), drop-cons bs 9 0 (omega arith), drop-cons bs 10 0 (omega arith))
      (omega arith)
