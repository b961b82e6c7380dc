-- What holds of each of some rows, and rows that climb by month, then price; both hold of those of them that are new on a day.
-- Assumes nothing.
use mathlib.Core.Path.{◌≡◌, refl}
use mathlib.Core.Bool.{true}
use mathlib.Core.List.{List, [], ◌∷◌, ◌++◌}
use Prim.Native.Nat.{ℕ, suc, ◌+◌, ◌*◌, ◌≤◌, ◌<◌}
use native.Mathlib.Omega.{arith}
use lib.Dec.{eqb}
use lib.ListN.{length}
use Rattle.base.specs.Lists.{elem}
use Rattle.base.proofs.Tests.{by_bool}
use Rattle.base.proofs.ListLaws.{elem-here, elem_there}
use Rattle.base.proofs.Rising.{rises, rises_head, rises_tail, rises_all}
use Rattle.layout.specs.Rows.{Entry, Row, row, ladder, rows_of}
use Rattle.naming.specs.DayFile.{new_rows}

-- ---- something holds of each of some rows
abbrev pub Each : (Row → Type 0) → List Row → Type 0
Each P [] = Unit {0}
Each P (r ∷ rs) = P r × Each P rs

pub each_so : (P Q : Row → Type 0) → ((r : Row) → P r → Q r) → (rs : List Row) → Each P rs → Each Q rs
each_so P Q f [] h = tt
each_so P Q f (r ∷ rs) h = (f r h.0, each_so P Q f rs h.1)

pub each_both : (P Q S : Row → Type 0) → ((r : Row) → P r → Q r → S r) → (rs : List Row) → Each P rs → Each Q rs → Each S rs
each_both P Q S f [] a b = tt
each_both P Q S f (r ∷ rs) a b = (f r a.0 b.0, each_both P Q S f rs a.1 b.1)

pub each_front : (P : Row → Type 0) (xs ys : List Row) → Each P (xs ++ ys) → Each P xs
each_front P [] ys h = tt
each_front P (x ∷ xs) ys h = (h.0, each_front P xs ys h.1)

pub each_back : (P : Row → Type 0) (xs ys : List Row) → Each P (xs ++ ys) → Each P ys
each_back P [] ys h = h
each_back P (x ∷ xs) ys h = each_back P xs ys h.1

each_join : (P : Row → Type 0) (xs ys : List Row) → Each P xs → Each P ys → Each P (xs ++ ys)
each_join P [] ys a b = b
each_join P (x ∷ xs) ys a b = (a.0, each_join P xs ys a.1 b)

pub each_new : (P : Row → Type 0) (day : ℕ) (rs : List Row) → Each P rs → Each P (new_rows day rs)
unfolding new_rows
each_new P day [] h = tt
each_new P day (r ∷ rs) h = by_bool (eqb r.entry.first day) (λ e. rw e (h.0, each_new P day rs h.1)) (λ e. rw e (each_new P day rs h.1))

each-ladder : (P : Row → Type 0) (m : ℕ) (g : ℕ → Entry) (ps : List ℕ) → ((p : ℕ) → elem p ps ≡ true → P (row m p (g p))) → Each P (ladder m g ps)
unfolding ladder
each-ladder P m g [] h = tt
each-ladder P m g (p ∷ ps) h = (h p (elem-here p ps), each-ladder P m g ps (λ q e. h q (elem_there q p ps e)))

pub each_rows : (P : Row → Type 0) (L : List ℕ) (G : ℕ → List ℕ) (f : ℕ → ℕ → Entry)
    → ((m p : ℕ) → elem m L ≡ true → elem p (G m) ≡ true → P (row m p (f m p))) → Each P (rows_of L G f)
unfolding rows_of
each_rows P [] G f h = tt
each_rows P (m ∷ ms) G f h =
    each_join P (ladder m (f m) (G m)) (rows_of ms G f)
    (each-ladder P m (f m) (G m) (λ p e. h m p (elem-here m ms) e))
    (each_rows P ms G f (λ n p e. h n p (elem_there n m ms e)))

-- ---- rows that climb by month, then price: prices have four digits, so one number tells both
abbrev pub key_of : Row → ℕ
key_of r = 10000 * r.month + r.price

-- from a number on
abbrev pub Climbs : ℕ → List Row → Type 0
Climbs k [] = Unit {0}
Climbs k (r ∷ rs) = (k ≤ key_of r) × Climbs (suc (key_of r)) rs

pub climbs_lower : (k n : ℕ) (rs : List Row) → k ≤ n → Climbs n rs → Climbs k rs
climbs_lower k n [] l h = tt
climbs_lower k n (r ∷ rs) l h = let a = h.0 in (omega arith, h.1)

pub climbs_front : (k : ℕ) (xs ys : List Row) → Climbs k (xs ++ ys) → Climbs k xs
climbs_front k [] ys h = tt
climbs_front k (x ∷ xs) ys h = (h.0, climbs_front (suc (key_of x)) xs ys h.1)

pub climbs_back : (k : ℕ) (xs ys : List Row) → Climbs k (xs ++ ys) → Climbs k ys
climbs_back k [] ys h = h
climbs_back k (x ∷ xs) ys h = let a = h.0 in climbs_lower k (suc (key_of x)) ys (omega arith) (climbs_back (suc (key_of x)) xs ys h.1)

pub climbs_new : (k day : ℕ) (rs : List Row) → Climbs k rs → Climbs k (new_rows day rs)
unfolding new_rows
climbs_new k day [] h = tt
climbs_new k day (r ∷ rs) h =
    let i = climbs_new (suc (key_of r)) day rs h.1 in
    let a = h.0 in
    by_bool (eqb r.entry.first day)
    (λ e. rw e (a, i))
    (λ e. rw e (climbs_lower k (suc (key_of r)) (new_rows day rs) (omega arith) i))

climbs-ladder : (m : ℕ) (g : ℕ → Entry) (k p : ℕ) (ps : List ℕ) (rest : List Row) → k ≤ suc (10000 * m + p) → p < 10000 → rises p ps ≡ true
    → ((q : ℕ) → elem q ps ≡ true → q < 10000) → Climbs (10000 * suc m) rest → Climbs k (ladder m g ps ++ rest)
unfolding ladder
climbs-ladder m g k p [] rest l u r h c = climbs_lower k (10000 * suc m) rest (omega arith) c
climbs-ladder m g k p (q ∷ qs) rest l u r h c =
    let a = rises_head p q qs r in
    (omega arith, climbs-ladder m g (suc (10000 * m + q)) q qs rest (omega arith) (h q (elem-here q qs)) (rises_tail p q qs r) (λ n e. h n (elem_there n q qs e)) c)

module _ (G : ℕ → List ℕ) (f : ℕ → ℕ → Entry) (ascend : (m : ℕ) → rises 0 (G m) ≡ true) (small : (m p : ℕ) → elem p (G m) ≡ true → p < 10000) where
  climbs_after : (k : ℕ) (ms : List ℕ) → rises k ms ≡ true → Climbs (10000 * suc k) (rows_of ms G f)
  unfolding rows_of
  climbs_after k [] r = tt
  climbs_after k (m ∷ ms) r =
      let a = rises_head k m ms r in
      climbs-ladder m (f m) (10000 * suc k) 0 (G m) (rows_of ms G f) (omega arith) (omega arith) (ascend m) (small m) (climbs_after m ms (rises_tail k m ms r))

  pub climbs-rows : (ms : List ℕ) → rises_all ms ≡ true → Climbs 0 (rows_of ms G f)
  unfolding rows_of rises_all
  climbs-rows [] r = tt
  climbs-rows (m ∷ ms) r = climbs-ladder m (f m) 0 0 (G m) (rows_of ms G f) (omega arith) (omega arith) (ascend m) (small m) (climbs_after m ms r)

-- ---- which rows are new
pub new-append : (day : ℕ) (xs ys : List Row) → new_rows day (xs ++ ys) ≡ new_rows day xs ++ new_rows day ys
unfolding new_rows
new-append day [] ys = refl
new-append day (x ∷ xs) ys = by_bool (eqb x.entry.first day) (λ e. rw (e, new-append day xs ys)) (λ e. rw (e, new-append day xs ys))

pub new-count : (day : ℕ) (rs : List Row) → length (new_rows day rs) ≤ length rs
unfolding new_rows
new-count day [] = omega arith
new-count day (r ∷ rs) = let i = new-count day rs in by_bool (eqb r.entry.first day) (λ e. rw e (omega arith)) (λ e. rw e (omega arith))
