-- Keys ascend as the names do; a key's last four digits are the price.
-- Assumes nothing.
use mathlib.Core.Path.{◌≡◌, refl, ap, ◌∙◌}
use mathlib.Core.Bool.{true, ◌&&◌, ◌||◌}
use mathlib.Core.List.{List, [], ◌∷◌, ◌++◌}
use Prim.Native.Nat.{ℕ, suc, ◌+◌, ◌-◌, ◌*◌, ◌%◌, ◌^◌, ◌≤◌, ◌<◌}
use native.Mathlib.Nat.{pow-suc, mul-le-mul_right}
use native.Mathlib.Numerals.{add-one}
use native.Mathlib.Omega.{arith}
use lib.Dec.{eqb, ltb}
use lib.ListN.{length, get_or, take, drop, length-take, length-drop, drop_of_length-le}
use lib.Seq.{take_all, take-add, drop-drop, drop-cons, get_or-take, get_or-drop}
use borrow.Author.Tests.{lt-ltb, le-ltb, eq-eqb, ne_eqb}
use Rattle.base.specs.Lists.{within}
use Rattle.base.proofs.Tests.{by_le, by_three}
use Rattle.base.proofs.ListLaws.{within_l, within_r}
use Rattle.names.specs.Names.{name_length, prefix, digits, value_from, price_read}
use Rattle.names.proofs.DigitLaws.{digits_value}
use Rattle.names.proofs.RefusalLaws.{Formed}
use Rattle.names.proofs.ReadLaws.{is-prefix, is-letter, is_digit}
use Rattle.fields.specs.Fields.{below}
use Rattle.fields.proofs.Digits.{ordered}
use Rattle.parsing.specs.Keys.{key_of}

-- ---- the value of digits

value-append : (v : ℕ) (xs ys : List ℕ) → value_from v (xs ++ ys) ≡ value_from (value_from v xs) ys
unfolding value_from
value-append v [] ys = refl
value-append v (x ∷ xs) ys = value-append (10 * v + (x - 48)) xs ys

-- behind a value
shifted : (v d p x : ℕ) → (10 * v + d) * p + x ≡ v * (p * 10) + ((10 * 0 + d) * p + x)
shifted v d p x = omega arith

value-behind : (v : ℕ) (bs : List ℕ) → value_from v bs ≡ v * 10 ^ length bs + value_from 0 bs
unfolding value_from
value-behind v [] = omega arith
value-behind v (b ∷ bs) =
    rw (value-behind (10 * v + (b - 48)) bs, value-behind (10 * 0 + (b - 48)) bs, pow-suc 10 (length bs)) (shifted v (b - 48) (10 ^ length bs) (value_from 0 bs))

value-below : (bs : List ℕ) → ((i : ℕ) → i < length bs → within 48 57 (get_or bs i 0) ≡ true) → value_from 0 bs < 10 ^ length bs
unfolding value_from
value-below [] h = omega arith
value-below (b ∷ bs) h =
    let first = within_r 48 57 b (h 0 (omega arith)) in
    let rest = value-below bs (λ i l. h (suc i) (omega arith)) in
    let e = value-behind (10 * 0 + (b - 48)) bs in
    let n : b - 48 ≤ 9 = omega arith in
    omega (arith, pow-suc 10 (length bs), mul-le-mul_right (10 ^ length bs) n)

pub value-least : (v : ℕ) (bs : List ℕ) → v ≤ value_from v bs
unfolding value_from
value-least v [] = omega arith
value-least v (b ∷ bs) = let h = value-least (10 * v + (b - 48)) bs in omega arith

-- ---- a name whose bytes can all stand

module _ (xs : List ℕ) (formed : Formed xs) where
  part_length : (a n : ℕ) → a + n ≤ name_length → length (take n (drop a xs)) ≡ n
  part_length a n h = simp (length-take, length-drop) (omega (arith, formed.long))

  part_digit : (a n : ℕ) → 4 < a → a + n ≤ name_length → (i : ℕ) → i < n → within 48 57 (get_or (take n (drop a xs)) i 0) ≡ true
  part_digit a n l h i k = rw (get_or-take n (drop a xs) i 0 k, get_or-drop) (is_digit xs formed.placed (a + i) (omega arith) (omega arith))

  part-below : (a n : ℕ) → 4 < a → a + n ≤ name_length → value_from 0 (take n (drop a xs)) < 10 ^ n
  part-below a n l h =
      let e = part_length a n h in
      rw e at (value-below (take n (drop a xs)) (λ i k. part_digit a n l h i (omega arith)))

  letter-low : 65 ≤ get_or xs 4 0
  letter-low = within_l 65 88 (get_or xs 4 0) (is-letter xs formed.placed)

  letter-high : get_or xs 4 0 ≤ 88
  letter-high = within_r 65 88 (get_or xs 4 0) (is-letter xs formed.placed)

  pub key_bound : key_of xs < 24000000
  unfolding key_of
  key_bound = omega (arith, letter-low, letter-high, part-below 5 6 (omega arith) (omega arith))

  pub key-price : key_of xs % 10000 ≡ price_read xs
  unfolding key_of price_read
  key-price =
      let year : ℕ = value_from 0 (take 2 (drop 5 xs)) in
      let price : ℕ = value_from 0 (take 4 (drop 7 xs)) in
      let four : price < 10000 = part-below 7 4 (omega arith) (omega arith) in
      let six : value_from 0 (take 6 (drop 5 xs)) ≡ year * 10000 + price =
      rw (take-add 2 4 (drop 5 xs), drop-drop 2 5 xs, value-append 0 (take 2 (drop 5 xs)) (take 4 (drop 7 xs)), value-behind year (take 4 (drop 7 xs)), part_length 7 4 (omega arith)) in
      rw six (omega arith)

  spelled : xs ≡ prefix ++ (get_or xs 4 0 ∷ digits 6 (value_from 0 (take 6 (drop 5 xs))))
  spelled =
      let byte : (i : ℕ) → i < name_length → drop i xs ≡ get_or xs i 0 ∷ drop (suc i) xs = λ i h. drop-cons xs i 0 (omega (arith, formed.long)) in
      let same = is-prefix xs formed.placed in
      let rest : digits 6 (value_from 0 (take 6 (drop 5 xs))) ≡ drop 5 xs =
      digits_value 6 (take 6 (drop 5 xs)) (part_length 5 6 (omega arith)) (part_digit 5 6 (omega arith) (omega arith)) ∙ take_all 6 (drop 5 xs) (simp length-drop (omega (arith, formed.long))) in
      cc (
        byte 0 (omega arith),
        byte 1 (omega arith),
        byte 2 (omega arith),
        byte 3 (omega arith),
        byte 4 (omega arith),
        same 0 (omega arith),
        same 1 (omega arith),
        same 2 (omega arith),
        same 3 (omega arith),
        rest,
      )

-- letters decide, and where they are the same the digits
spelled-below : (l m v w : ℕ) → v < 10 ^ 6 → w < 10 ^ 6 → below (prefix ++ (l ∷ digits 6 v)) (prefix ++ (m ∷ digits 6 w)) ≡ (ltb l m || (eqb l m && ltb v w))
unfolding below
spelled-below l m v w h g = rw (ordered 6 v w h g).0

key_below : (l m v w : ℕ) → 65 ≤ l → 65 ≤ m → v < 10 ^ 6 → w < 10 ^ 6 → (ltb l m || (eqb l m && ltb v w)) ≡ ltb (1000000 * (l - 65) + v) (1000000 * (m - 65) + w)
key_below l m v w a b h g =
    by_three l m
    (λ k. rw (lt-ltb l m k, lt-ltb (1000000 * (l - 65) + v) (1000000 * (m - 65) + w) (omega arith)))
    (λ e. rw (e, le-ltb m m (omega arith), eq-eqb m m refl)
    (by_le w v (λ k. rw (le-ltb v w k, le-ltb (1000000 * (m - 65) + v) (1000000 * (m - 65) + w) (omega arith))) (λ k. rw (lt-ltb v w k, lt-ltb (1000000 * (m - 65) + v) (1000000 * (m - 65) + w) (omega arith)))))
    (λ k. rw (le-ltb l m (omega arith), ne_eqb l m (omega arith), le-ltb (1000000 * (l - 65) + v) (1000000 * (m - 65) + w) (omega arith)))

pub below_key : (xs ys : List ℕ) → Formed xs → Formed ys → below xs ys ≡ ltb (key_of xs) (key_of ys)
unfolding key_of
below_key xs ys f g =
    let v : ℕ = value_from 0 (take 6 (drop 5 xs)) in
    let w : ℕ = value_from 0 (take 6 (drop 5 ys)) in
    let h : v < 10 ^ 6 = part-below xs f 5 6 (omega arith) (omega arith) in
    let k : w < 10 ^ 6 = part-below ys g 5 6 (omega arith) (omega arith) in
    let e : below xs ys ≡ below (prefix ++ (get_or xs 4 0 ∷ digits 6 v)) (prefix ++ (get_or ys 4 0 ∷ digits 6 w)) =
    ap (λ (z : List ℕ). below z ys) (spelled xs f) ∙ ap (below (prefix ++ (get_or xs 4 0 ∷ digits 6 v))) (spelled ys g) in
    e ∙ spelled-below (get_or xs 4 0) (get_or ys 4 0) v w h k ∙ key_below (get_or xs 4 0) (get_or ys 4 0) v w (letter-low xs f) (letter-low ys g) h k

-- ---- the key, digit by digit
module _ (xs : List ℕ) (long : length xs ≡ name_length) where
  pub key_begins : key_of xs ≡ value_from (get_or xs 4 0 - 65) (drop 5 xs)
  unfolding key_of
  key_begins =
      let l : length (drop 5 xs) ≡ 6 = simp length-drop (omega arith) in
      rw (take_all 6 (drop 5 xs) (omega arith), value-behind (get_or xs 4 0 - 65) (drop 5 xs), l) (omega arith)

  pub key_digit : (v i : ℕ) → i < name_length → value_from v (drop i xs) ≡ value_from (10 * v + (get_or xs i 0 - 48)) (drop (i + 1) xs)
  unfolding value_from
  key_digit v i h = rw (drop-cons xs i 0 (omega arith), add-one i)

  pub key_end : (v i : ℕ) → name_length ≤ i → value_from v (drop i xs) ≡ v
  unfolding value_from
  key_end v i h = rw (drop_of_length-le xs {i = i} (omega arith))
