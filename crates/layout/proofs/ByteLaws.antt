-- The register reads back what was written.
-- Assumes nothing.
use mathlib.Core.Path.{◌≡◌, refl, ap, sym}
use mathlib.Core.Bool.{true, false, ◌&&◌, false≢true, and-true}
use mathlib.Core.List.{List, [], ◌∷◌, ◌++◌, append_assoc}
use Prim.Native.Nat.{ℕ, zero, suc, ◌+◌, ◌-◌, ◌*◌, ◌≤◌, ◌<◌, max}
use native.Mathlib.Omega.{arith}
use lib.Dec.{eqb}
use Rattle.std.specs.List.{fold}
use lib.ListN.{length, replicate, length-append, length-replicate, drop}
use lib.Seq.{drop_at, drop-drop}
use Rattle.base.proofs.Tests.{and_i, eqb_self, and_l, and_r, by_bool}
use Rattle.layout.specs.Rows.{Row}
use Rattle.layout.specs.Register.{Body, Reg, empty, running}
use Rattle.base.specs.Words.{two, at16}
use Rattle.layout.specs.Bytes.{places_bytes, rows_bytes, padded, body_bytes, bytes_of, read_places, read_rows, moment_of, body_of, all_zero, reg_of, same_bytes, in_layout, most_rows, register_length, places_length, rows_length}
use native.Mathlib.Nat.{add-zero}
use Rattle.base.proofs.WordLaws.{at16-drop, word_back}
use borrow.Author.Tests.{eqb-false, eqb-true, ne_eqb}
use Rattle.layout.specs.Spans.{places_at}

-- ---- read back

abbrev pub PlacesFit : List (ℕ × ℕ) → Type 0
PlacesFit [] = Unit {0}
PlacesFit (w ∷ ws) = (w.0 < 65536) × (w.1 < 65536) × PlacesFit ws

pub record RowFits (r : Row) : Type 0 where
  pub month_fits : r.month < 65536
  pub price_fits : r.price < 65536
  pub first_fits : r.entry.first < 65536

abbrev pub RowsFit : List Row → Type 0
RowsFit [] = Unit {0}
RowsFit (r ∷ rs) = RowFits r × RowsFit rs

pub record Fits (b : Body) : Type 0 where
  pub day_fits : b.at.day < 65536
  pub waiting_fits : length b.waiting ≤ 32
  pub rows_fit : length b.rows ≤ most_rows
  pub places : PlacesFit b.waiting
  pub each : RowsFit b.rows

pub places_back : (ws : List (ℕ × ℕ)) (rest : List ℕ) → PlacesFit ws → read_places (length ws) (places_bytes ws ++ rest) ≡ ws
unfolding read_places places_bytes at16 two
places_back [] rest f = refl
places_back (w ∷ ws) rest f = rw (word_back w.0 f.0, word_back w.1 f.1, places_back ws rest f.2)

pub rows_back : (rs : List Row) (rest : List ℕ) → RowsFit rs → read_rows (length rs) (rows_bytes rs ++ rest) ≡ rs
unfolding read_rows rows_bytes at16 two
rows_back [] rest f = refl
rows_back (r ∷ rs) rest f =
    rw (word_back r.month f.0.month_fits, word_back r.price f.0.price_fits, word_back r.entry.first f.0.first_fits, rows_back rs rest f.1)

pub places-length : (ws : List (ℕ × ℕ)) → length (places_bytes ws) ≡ 4 * length ws
unfolding places_bytes two
places-length [] = refl
places-length (w ∷ ws) = rw (places-length ws) (omega arith)

pub rows-length : (rs : List Row) → length (rows_bytes rs) ≡ 8 * length rs
unfolding rows_bytes two
rows-length [] = refl
rows-length (r ∷ rs) = rw (rows-length rs) (omega arith)

pub padded-length : (n : ℕ) (xs : List ℕ) → length xs ≤ n → length (padded n xs) ≡ n
unfolding padded
padded-length n xs h = rw (length-append, length-replicate) (omega arith)

module _ (b : Body) (f : Fits b) where
  pub body-length : length (body_bytes b) ≡ register_length
  unfolding body_bytes two
  body-length =
      let p = places-length b.waiting in
      let r = rows-length b.rows in
      let w = f.waiting_fits in
      let n = f.rows_fit in
      rw (
        length-append (padded places_length (places_bytes b.waiting)),
        padded-length places_length (places_bytes b.waiting) (omega arith),
        padded-length rows_length (rows_bytes b.rows) (omega arith),
      )

  pub day_back : at16 (body_bytes b) 2 ≡ b.at.day
  unfolding body_bytes at16 two
  day_back = word_back b.at.day f.day_fits

  pub moment_back : moment_of (body_bytes b) ≡ b.at
  unfolding moment_of
  moment_back = λ i. record { day = day_back i }

  pub waiting_back : (body_of (body_bytes b)).waiting ≡ b.waiting
  unfolding body_of body_bytes two padded
  waiting_back = rw append_assoc (places_back b.waiting _ f.places)

  pub rows_back' : (body_of (body_bytes b)).rows ≡ b.rows
  unfolding body_of body_bytes at16 two padded
  rows_back' =
      let n = f.rows_fit in
      let p = places-length b.waiting in
      let w = f.waiting_fits in
      rw (
        word_back (length b.rows) (omega arith),
        drop_at (padded places_length (places_bytes b.waiting)) (padded rows_length (rows_bytes b.rows)) places_length (padded-length places_length (places_bytes b.waiting) (omega arith)),
      )
      (rows_back b.rows (replicate (rows_length - length (rows_bytes b.rows)) 0) f.each)

  pub count_back : at16 (body_bytes b) 4 ≡ length b.rows
  unfolding body_bytes at16 two
  count_back = let n = f.rows_fit in word_back (length b.rows) (omega arith)

  pub body_back : body_of (body_bytes b) ≡ b
  unfolding body_of
  body_back = λ i. record { at = moment_back i; waiting = waiting_back i; rows = rows_back' i }

  not_zero : all_zero (body_bytes b) ≡ false
  unfolding all_zero body_bytes
  not_zero = refl

  pub reg_back : reg_of (body_bytes b) ≡ running b
  unfolding reg_of
  reg_back = rw (not_zero, body_back)

pub zeros_zero : (n : ℕ) → all_zero (replicate n 0) ≡ true
unfolding all_zero
zeros_zero zero = refl
zeros_zero (suc n) = zeros_zero n

pub same_self : (xs : List ℕ) → same_bytes xs xs ≡ true
unfolding same_bytes
same_self [] = refl
same_self (x ∷ xs) = and_i (eqb_self x) (same_self xs)

-- the registers that fit
abbrev pub RegFits : Reg → Type 0
RegFits empty = Unit {0}
RegFits (running b) = Fits b

pub back : (r : Reg) → RegFits r → reg_of (bytes_of r) ≡ r
unfolding bytes_of reg_of
back empty f = rw (zeros_zero register_length)
back (running b) f = reg_back b f

pub bytes-length : (r : Reg) → RegFits r → length (bytes_of r) ≡ register_length
unfolding bytes_of
bytes-length empty f = length-replicate {A = ℕ} register_length 0
bytes-length (running b) f = body-length b f

pub layout-kept : (r : Reg) → RegFits r → in_layout (bytes_of r) ≡ true
unfolding in_layout
layout-kept r f = rw (back r f) (same_self (bytes_of r))

-- ---- zeros: the greatest of the bytes tells of them all
pub greatest_zero : (g : ℕ) (bs : List ℕ) → eqb (fold max g bs) 0 ≡ (eqb g 0 && all_zero bs)
unfolding all_zero
greatest_zero g [] = sym (and-true _)
greatest_zero g (b ∷ bs) =
    by_bool (eqb g 0)
    (λ e. let z = eqb-true g 0 e in let m : max g b ≡ b = omega arith in rw (greatest_zero (max g b) bs, e, m))
    (λ e. let n = eqb-false g 0 e in rw (greatest_zero (max g b) bs, e, ne_eqb (max g b) 0 (λ q. n (omega arith))))

pub zeros_are : (xs : List ℕ) (n : ℕ) → length xs ≡ n → all_zero xs ≡ true → xs ≡ replicate n 0
unfolding all_zero
zeros_are [] n l h = rw (← l)
zeros_are (x ∷ xs) n l h =
    rw (← l, eqb-true x 0 (and_l _ _ h)) (ap (λ (ys : List ℕ). 0 ∷ ys) (zeros_are xs (length xs) refl (and_r (eqb x 0) _ h)))

pub same_eq : (xs ys : List ℕ) → same_bytes xs ys ≡ true → xs ≡ ys
unfolding same_bytes
same_eq [] [] h = refl
same_eq [] (y ∷ ys) h = absurd (false≢true h)
same_eq (x ∷ xs) [] h = absurd (false≢true h)
same_eq (x ∷ xs) (y ∷ ys) h = rw (eqb-true x y (and_l _ _ h), same_eq xs ys (and_r (eqb x y) _ h))

-- ---- how much is read
pub places_count : (w : ℕ) (xs : List ℕ) → length (read_places w xs) ≡ w
unfolding read_places
places_count zero xs = refl
places_count (suc w) xs = ap suc (places_count w (drop 4 xs))

pub rows-count : (n : ℕ) (xs : List ℕ) → length (read_rows n xs) ≡ n
unfolding read_rows
rows-count zero xs = refl
rows-count (suc n) xs = ap suc (rows-count n (drop 8 xs))

pub places_none : (bs : List ℕ) (at n : ℕ) → n ≤ 0 → places_at bs at n ≡ []
unfolding read_places
places_none bs at zero h = refl
places_none bs at (suc n) h = absurd (omega arith)

pub places_some : (bs : List ℕ) (at n : ℕ) → 0 < n → places_at bs at n ≡ (at16 bs at, at16 bs (at + 2)) ∷ places_at bs (at + 4) (n - 1)
unfolding read_places
places_some bs at zero h = absurd (omega arith)
places_some bs at (suc n) h =
    let e : suc n - 1 ≡ n = omega arith in
    rw (at16-drop bs at 0, at16-drop bs at 2, drop-drop 4 at bs, add-zero at, e)

pub rows_append : (xs ys : List Row) → rows_bytes (xs ++ ys) ≡ rows_bytes xs ++ rows_bytes ys
unfolding rows_bytes two
rows_append [] ys = refl
rows_append (x ∷ xs) ys = rw (rows_append xs ys)
