-- The rows that a history tells ascend by month, then price.
-- Assumes nothing but the laws of the rules.
use mathlib.Core.Path.{◌≡◌, refl}
use mathlib.Core.Bool.{true, ◌&&◌, ◌||◌}
use mathlib.Core.List.{List, [], ◌∷◌, ◌++◌}
use Prim.Native.Nat.{ℕ, ◌<◌}
use lib.Dec.{eqb, ltb}
use borrow.Author.Tests.{lt-ltb, ltb-true}
use Rattle.base.specs.Lists.{within}
use Rattle.base.proofs.Tests.{and_l, and_r, and_i, or_l, or_r, eqb_self}
use Rattle.rules.specs.Rules.{Moment, Rules}
use Rattle.rules.proofs.Laws.{Laws}
use Rattle.history.specs.History.{History, between, month_told, months_told, rows_told}
use Rattle.base.proofs.Rising.{rises, skip, rises_all, select_rises}
use Rattle.history.specs.Claim.{ascend_from, ascending}

drop-first : (m : ℕ) (es : List (ℕ × ℕ × ℕ)) → ascend_from m 0 es ≡ true → ascending es ≡ true
unfolding ascend_from ascending
drop-first m [] o = refl
drop-first m (e ∷ es) o = and_r (ltb m e.0 || (eqb m e.0 && ltb 0 e.1)) (ascend_from e.0 e.1 es) o

module _ (R : Rules) (h : History) where
  month_ordered : (m p : ℕ) (ps : List ℕ) (rest : List (ℕ × ℕ × ℕ)) → rises p ps ≡ true → ((q : ℕ) → ascend_from m q rest ≡ true)
      → ascend_from m p (month_told R h m ps ++ rest) ≡ true
  unfolding month_told ascend_from rises
  month_ordered m p [] rest r k = k p
  month_ordered m p (q ∷ qs) rest r k =
      and_i (or_r (ltb m m) (eqb m m && ltb p q) (and_i (eqb_self m) (and_l (ltb p q) (rises q qs) r)))
      (month_ordered m q qs rest (and_r (ltb p q) (rises q qs) r) k)

  -- a later month's rows_told follow any price
  later-month : (m n p : ℕ) (ps : List ℕ) (rest : List (ℕ × ℕ × ℕ)) → m < n → rises 0 ps ≡ true → ((q : ℕ) → ascend_from n q rest ≡ true) → ((q : ℕ) → ascend_from m q rest ≡ true)
      → ascend_from m p (month_told R h n ps ++ rest) ≡ true
  unfolding month_told ascend_from rises
  later-month m n p [] rest l r k k' = k' p
  later-month m n p (q ∷ qs) rest l r k k' =
      and_i (or_l (ltb m n) (eqb m n && ltb p q) (lt-ltb m n l))
      (month_ordered n q qs rest (and_r (ltb 0 q) (rises q qs) r) k)

  module _ (x : Moment) (up : (m : ℕ) → rises 0 (R.grid x m) ≡ true) where
    prices_rise : (m : ℕ) → rises 0 (between R x h.low h.high m) ≡ true
    unfolding between
    prices_rise m = select_rises (within (h.low m) (h.high m)) 0 (R.grid x m) (up m)

    months_ordered : (m : ℕ) (ms : List ℕ) → rises m ms ≡ true → (p : ℕ) → ascend_from m p (months_told R h x ms) ≡ true
    unfolding months_told rises ascend_from
    months_ordered m [] r p = refl
    months_ordered m (n ∷ ns) r p =
        let l = ltb-true m n (and_l (ltb m n) (rises n ns) r) in
        let rn = and_r (ltb m n) (rises n ns) r in
        later-month m n p (between R x h.low h.high n) (months_told R h x ns) l (prices_rise n) (months_ordered n ns rn)
        (months_ordered m ns (skip m n ns l rn))

    first-month : (m : ℕ) (ps : List ℕ) (rest : List (ℕ × ℕ × ℕ)) → rises 0 ps ≡ true → ((q : ℕ) → ascend_from m q rest ≡ true) → ascending (month_told R h m ps ++ rest) ≡ true
    unfolding month_told ascending rises
    first-month m [] rest r k = drop-first m rest (k 0)
    first-month m (p ∷ ps) rest r k = month_ordered m p ps rest (and_r (ltb 0 p) (rises p ps) r) k

    all-ascend : (ms : List ℕ) → rises_all ms ≡ true → ascending (months_told R h x ms) ≡ true
    unfolding months_told rises_all ascending
    all-ascend [] r = refl
    all-ascend (m ∷ ms) r = first-month m (between R x h.low h.high m) (months_told R h x ms) (prices_rise m) (months_ordered m ms r)

pub rows-ascend : (R : Rules) (L : Laws R) (h : History) (x : Moment) → ascending (rows_told R h x) ≡ true
unfolding rows_told
rows-ascend R L h x = all-ascend R h x (L.grid_rises x) (R.live x) (L.live_rises x)
