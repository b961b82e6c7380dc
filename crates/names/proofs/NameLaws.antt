-- Laws of names: a series' name reads back to that series, and bytes that read without refusal are the name of what they read.
-- Assumes nothing.
use mathlib.Core.Path.{◌≡◌, refl, sym, ap, ◌∙◌}
use mathlib.Core.Bool.{true, false}
use mathlib.Core.List.{List, ◌∷◌, ◌++◌}
use Prim.Native.Nat.{ℕ, suc, ◌+◌, ◌-◌, ◌*◌, ◌/◌, ◌%◌, ◌^◌, ◌≤◌, ◌<◌}
use native.Mathlib.Omega.{arith}
use lib.ListN.{length, get_or, take, drop, length-take, length-drop, take-append-drop}
use lib.Seq.{take_all, take_at, drop_at, drop-drop, drop-cons, get_or-take, get_or-drop}
use borrow.Author.Tests.{lt-ltb, le-ltb}
use Rattle.base.specs.Search.{first_from, first_in}
use Rattle.base.specs.Lists.{elem, within}
use Rattle.base.specs.declared.Tier.TheVariants.{N}
use Rattle.base.proofs.ListLaws.{within_i, within_l, within_r}
use Rattle.grid.specs.Grid.{grid_of}
use Rattle.grid.proofs.GridLaws.{price_le}
use Rattle.names.specs.declared.Series.{Series}
use Rattle.names.specs.Names.{digits, letter, name_of, name_length, no_series, value_from, can_stand, misplaced, month_read, kind_read, price_read, read_cause, read_of}
use Rattle.names.proofs.DigitLaws.{digits-length, digit-within, value-digits, digits_value}
use Rattle.names.proofs.RefusalLaws.{read_0, Formed, read_formed}
use Rattle.names.proofs.ReadLaws.{is-prefix, is-letter, is_digit}

four-digits : (p : ℕ) → elem p (grid_of N) ≡ true → p < 10 ^ 4
four-digits p h = let l = price_le N p h in omega arith

-- ---- what the bytes of a name tell

module _ (m k p : ℕ) (month : m < 1200) (kind : k < 2) (price : elem p (grid_of N) ≡ true) where
  letter-stands : within 65 88 (letter m k) ≡ true
  unfolding letter
  letter-stands = within_i (omega arith) (omega arith)

  all_stand : first_in (misplaced (name_of m k p)) 0 name_length ≡ name_length
  unfolding first_from misplaced can_stand name_of digits
  all_stand = simp (digit-within, letter-stands)

  month-told : month_read (name_of m k p) ≡ m
  unfolding month_read name_of letter
  month-told =
      let year = value-digits 2 (m / 12) (omega arith) in
      rw (take_at (digits 2 (m / 12)) (digits 4 p) 2 (digits-length 2 (m / 12)), year) (omega arith)

  kind-told : kind_read (name_of m k p) ≡ k
  unfolding kind_read name_of letter
  kind-told = omega arith

  price-told : price_read (name_of m k p) ≡ p
  unfolding price_read name_of
  price-told =
      rw (drop_at (digits 2 (m / 12)) (digits 4 p) 2 (digits-length 2 (m / 12)), take_all 4 (digits 4 p) (omega (arith, digits-length 4 p)))
      (value-digits 4 p (four-digits p price))

  is-series : no_series m k p ≡ false
  unfolding no_series
  is-series = rw (lt-ltb m 1200 month, le-ltb 1 k (omega arith), price)

-- ---- what is written of well-formed bytes

module _ (bs : List ℕ) (formed : Formed bs) where
  digits_again : (a n : ℕ) → 4 < a → a + n ≤ name_length → digits n (value_from 0 (take n (drop a bs))) ≡ take n (drop a bs)
  digits_again a n l h =
      digits_value n (take n (drop a bs))
      (simp (length-take, length-drop) (omega (arith, formed.long)))
      (λ i k. rw (get_or-take n (drop a bs) i 0 k, get_or-drop) (is_digit bs formed.placed (a + i) (omega arith) (omega arith)))

  letter_again : letter (month_read bs) (kind_read bs) ≡ get_or bs 4 0
  unfolding letter month_read kind_read
  letter_again =
      let w = is-letter bs formed.placed in
      omega (arith, within_l _ _ _ w, within_r _ _ _ w)

  year_again : digits 2 (month_read bs / 12) ≡ take 2 (drop 5 bs)
  unfolding month_read
  year_again =
      let year : ℕ = value_from 0 (take 2 (drop 5 bs)) in
      let e : (12 * year + (get_or bs 4 0 - 65) % 12) / 12 ≡ year = omega arith in
      rw e (digits_again 5 2 (omega arith) (omega arith))

  rest_again : drop 5 bs ≡ digits 2 (month_read bs / 12) ++ digits 4 (price_read bs)
  unfolding price_read
  rest_again =
      let l : length (drop 7 bs) ≤ 4 = simp length-drop (omega (arith, formed.long)) in
      rw (year_again, digits_again 7 4 (omega arith) (omega arith), take_all 4 (drop 7 bs) l, ← drop-drop 2 5 bs)
      (sym (take-append-drop 2 (drop 5 bs)))

  byte : (i : ℕ) → i < name_length → drop i bs ≡ get_or bs i 0 ∷ drop (suc i) bs
  byte i h = drop-cons bs i 0 (omega (arith, formed.long))

  name_again : bs ≡ name_of (month_read bs) (kind_read bs) (price_read bs)
  unfolding name_of
  name_again =
      let same = is-prefix bs formed.placed in
      cc (
        byte 0 (omega arith),
        byte 1 (omega arith),
        byte 2 (omega arith),
        byte 3 (omega arith),
        byte 4 (omega arith),
        same 0 (omega arith),
        same 1 (omega arith),
        same 2 (omega arith),
        same 3 (omega arith),
        letter_again,
        rest_again,
      )

-- ---- demand 2: names and series are one to one

-- every name is 11 bytes long
pub name-length : (m k p : ℕ) → length (name_of m k p) ≡ 11
unfolding name_of digits
name-length m k p = refl

-- every series of grid N, of every month and type, has a name that reads back to exactly that series
pub reads_back :
    (m k p : ℕ) →
    m < 1200 →
    k < 2 →
    elem p (grid_of N) ≡ true →
    read_of (name_of m k p) ≡ record { number = 0; month = m; kind = k; price = p }
unfolding read_of
reads_back m k p month kind price =
    let month-is = month-told m k p month kind price in
    let kind-is = kind-told m k p month kind price in
    let price-is = price-told m k p month kind price in
    let none : read_cause (name_of m k p) ≡ 0 =
    read_0 (name_of m k p) (name-length m k p) (omega (arith, all_stand m k p month kind price))
    (rw (month-is, kind-is, price-is) (is-series m k p month kind price)) in
    rw (none, month-is, kind-is, price-is)

-- two different series have different names
pub names_differ :
    (m k p m' k' p' : ℕ) →
    m < 1200 →
    k < 2 →
    elem p (grid_of N) ≡ true →
    m' < 1200 →
    k' < 2 →
    elem p' (grid_of N) ≡ true →
    name_of m k p ≡ name_of m' k' p' →
    (m ≡ m') × (k ≡ k') × (p ≡ p')
names_differ m k p m' k' p' a b c a' b' c' e =
    let same = sym (reads_back m k p a b c) ∙ ap read_of e ∙ reads_back m' k' p' a' b' c' in
    (ap (λ (s : Series). s.month) same, ap (λ (s : Series). s.kind) same, ap (λ (s : Series). s.price) same)

-- bytes that read without refusal are the name of what they read
pub writes_back :
    (bs : List ℕ) →
    (read_of bs).number ≡ 0 →
    bs ≡ name_of (read_of bs).month (read_of bs).kind (read_of bs).price
unfolding read_of
writes_back bs h = rw h (name_again bs (read_formed bs h))
