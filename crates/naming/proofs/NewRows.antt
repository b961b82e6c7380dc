-- Rows as they are read one by one, and those of them that are new on a day.
-- Assumes nothing.
use mathlib.Core.Path.{◌≡◌, refl, sym, ap, ◌∙◌}
use mathlib.Core.Bool.{true, false, cond}
use mathlib.Core.List.{List, [], ◌∷◌, ◌++◌, map, append-nil, map-append}
use Prim.Native.Nat.{ℕ, ◌+◌, ◌≤◌, ◌<◌}
use native.Mathlib.Omega.{arith}
use lib.Dec.{eqb, leb, ltb}
use lib.ListN.{length, get_or, take, drop, length-append, take-append-drop}
use Rattle.std.specs.List.{fold, count_by, position, position_or_len}
use Rattle.std.specs.Prelude.{Some, None}
use Rattle.std.proofs.lemmas.List.Sums.{prefix_len-le-length}
use borrow.Author.Tests.{lt-ltb, le-ltb}
use Rattle.std.specs.Option.{unwrap_or}
use Rattle.std.proofs.lemmas.List.{take_more}
use Rattle.base.specs.Words.{at16}
use Rattle.base.proofs.Tests.{by_bool, by_le}
use Rattle.layout.specs.Rows.{Row}
use Rattle.layout.specs.Bytes.{row_of}
use Rattle.naming.specs.DayFile.{new_rows}
use Rattle.naming.specs.Parts.{before}
use Rattle.naming.proofs.Climbing.{new-append}

-- those of some rows that are new on a day, as the rows are read
abbrev pub new_in : ℕ → List (List ℕ) → List Row
new_in day xs = new_rows day (map row_of xs)

new_join : (day : ℕ) (xs ys : List (List ℕ)) → new_in day (xs ++ ys) ≡ new_in day xs ++ new_in day ys
new_join day xs ys = ap (new_rows day) (map-append row_of xs ys) ∙ new-append day (map row_of xs) (map row_of ys)

module _ (day : ℕ) (xs : List (List ℕ)) where
  -- each is of the rows before a row, or of those from it on
  pub new_split : (k : ℕ) → length (new_in day (take k xs)) + length (new_in day (drop k xs)) ≡ length (new_in day xs)
  new_split k =
      sym (length-append (new_in day (take k xs)) (new_in day (drop k xs)))
      ∙ ap length (sym (new_join day (take k xs) (drop k xs)) ∙ ap (new_in day) (take-append-drop k xs))

  -- one row more
  module _ (i : ℕ) (h : i < length xs) where
    new_last : new_in day (take (i + 1) xs) ≡ new_in day (take i xs) ++ new_rows day (row_of (get_or xs i []) ∷ [])
    new_last = ap (new_in day) (take_more xs i [] h) ∙ new_join day (take i xs) (get_or xs i [] ∷ [])

    pub new-here : eqb (at16 (get_or xs i []) 4) day ≡ true → new_in day (take (i + 1) xs) ≡ new_in day (take i xs) ++ (row_of (get_or xs i []) ∷ [])
    unfolding new_rows
    new-here e = new_last ∙ rw e

    pub one_more : eqb (at16 (get_or xs i []) 4) day ≡ true → length (new_in day (take (i + 1) xs)) ≡ length (new_in day (take i xs)) + 1
    one_more e = ap length (new-here e) ∙ length-append (new_in day (take i xs)) (row_of (get_or xs i []) ∷ [])

    pub new_other : eqb (at16 (get_or xs i []) 4) day ≡ false → new_in day (take (i + 1) xs) ≡ new_in day (take i xs)
    unfolding new_rows
    new_other e = new_last ∙ rw (e, append-nil)

-- how many they are, and how many rows stand before the first of a month or a later one, as they are counted
count-from : (day a : ℕ) (xs : List (List ℕ)) → fold (λ a b. a + cond (eqb (at16 b 4) day) 1 0) a xs ≡ a + length (new_in day xs)
unfolding new_rows
count-from day a [] = omega arith
count-from day a (x ∷ xs) =
    by_bool (eqb (at16 x 4) day)
    (λ e. rw e (count-from day (a + 1) xs ∙ omega arith))
    (λ e. rw e (count-from day (a + 0) xs ∙ omega arith))

pub new_count : (day : ℕ) (xs : List (List ℕ)) → count_by (λ b. eqb (at16 b 4) day) xs ≡ length (new_in day xs)
new_count day xs = count-from day 0 xs ∙ omega arith

-- where the first of them stands, or behind them all
place-or : (n l : ℕ) → n ≤ l → unwrap_or (cond (ltb n l) (Some n) None) l ≡ n
place-or n l h = by_le l n (λ k. rw (le-ltb n l k) (omega arith)) (λ k. rw (lt-ltb n l k))

before-bytes : (month : ℕ) (xs : List (List ℕ)) → position_or_len (λ b. leb month (at16 b 0)) xs ≡ before month (map row_of xs)
before-bytes month [] = refl
before-bytes month (x ∷ xs) = by_bool (leb month (at16 x 0)) (λ e. rw e) (λ e. rw (e, before-bytes month xs))

pub before-count : (month : ℕ) (xs : List (List ℕ)) → unwrap_or (position (λ b. leb month (at16 b 0)) xs) (length xs) ≡ before month (map row_of xs)
before-count month xs = place-or _ _ (prefix_len-le-length _ xs) ∙ before-bytes month xs
