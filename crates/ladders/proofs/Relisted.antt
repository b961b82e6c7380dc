-- What is written by plans is the months' ladders: a row once listed keeps its entry, any other has a new one. The old rows have to be
-- those of some of the months, each at some of its prices, in the same order.
-- Assumes nothing.
use mathlib.Core.Path.{◌≡◌, refl, sym, ap, subst, ◌∙◌}
use mathlib.Core.Bool.{true, false, cond, ◌&&◌, false≢true}
use mathlib.Core.List.{List, [], ◌∷◌, ◌++◌}
use mathlib.Core.Option.{none, some}
use Prim.Native.Nat.{ℕ, suc, ◌+◌, ◌≤◌, ◌<◌}
use native.Mathlib.Nat.{add-zero, add-suc, suc-add}
use native.Mathlib.Omega.{arith}
use lib.Dec.{eqb}
use lib.ListN.{length, get_or}
use borrow.Author.Tests.{eqb-true, eqb-false, ne_eqb, lt-ltb}
use Rattle.base.specs.Lists.{elem}
use Rattle.base.proofs.Tests.{by_bool, clash, and_i, or_e, eqb_self}
use Rattle.base.proofs.ListLaws.{elem-here, elem_there}
use Rattle.base.proofs.Rising.{rises, rises_tail, rises-all, rises_all}
use Rattle.rules.proofs.Laws.{total}
use Rattle.layout.specs.Rows.{Entry, new_entry, Row, row, ladder, rows_of, find}
use Rattle.layout.proofs.RowLaws.{find-rows_of, ladder_same, rows_of_same}
use Rattle.ladders.specs.declared.Plan.{Plan}
use Rattle.ladders.specs.Writing.{prices_in, added_origin, is_next, ladder_by, left_by, ladders_from, count_from}
use Rattle.ladders.proofs.OldRows.{entry_next, entry_new}

-- what ascends above k does not have what is not above k
not_in : (k x : ℕ) (xs : List ℕ) → rises k xs ≡ true → x ≤ k → elem x xs ≡ false
not_in k x xs h l = by_bool (elem x xs) (λ e. let a = rises-all k x xs h e in absurd (omega arith)) (λ e. e)

-- an element that is not the first is among the others
among : (x y : ℕ) (ys : List ℕ) → y < x → elem x (y ∷ ys) ≡ true → elem x ys ≡ true
unfolding elem
among x y ys l e = or_e (eqb x y) (elem x ys) e (λ t. let q = eqb-true x y t in absurd (omega arith)) (λ t. t)

-- the first is not met again
elem_other : (x y : ℕ) (ys : List ℕ) → y < x → elem x (y ∷ ys) ≡ elem x ys
unfolding elem
elem_other x y ys l = rw (ne_eqb x y (λ q. omega arith))

abbrev In : List ℕ → List ℕ → Type 0
In xs ys = (x : ℕ) → elem x xs ≡ true → elem x ys ≡ true

-- ---- one month
module _ (m : Plan) where
  abbrev pub added : ℕ → Entry
  added p = new_entry m.day (added_origin m p)

  -- rows among which there is none of the month
  abbrev pub NoneOf : List Row → Type 0
  NoneOf rest = (p : ℕ) → find m.month p rest ≡ none

  not-next : (p : ℕ) (rest : List Row) → NoneOf rest → is_next m p rest ≡ false
  unfolding is_next find
  not-next p [] h = refl
  not-next p (r ∷ rs) h =
      by_bool (eqb m.month r.month && eqb p r.price)
      (λ e. let z : some r.entry ≡ none = rw e at (h p) in absurd (never z))
      (λ e. e)
    where
      never : {x : Entry} → some x ≡ none → ⊥
      never z = let q : ◌≡◌ {A = ℕ} 0 1 = cc in omega arith

  pub ladder-by : (k : ℕ) (ps qs : List ℕ) (e : ℕ → Entry) (rest : List Row)
      → rises k ps ≡ true → rises k qs ≡ true → In qs ps → NoneOf rest
      → (ladder_by m ps (ladder m.month e qs ++ rest) ≡ ladder m.month (λ p. cond (elem p qs) (e p) (added p)) ps)
      × (left_by m ps (ladder m.month e qs ++ rest) ≡ rest)
  unfolding ladder_by left_by ladder elem is_next rises
  ladder-by k [] [] e rest a b s h = (refl, refl)
  ladder-by k [] (q ∷ qs) e rest a b s h = absurd (false≢true (s q (elem-here q qs)))
  ladder-by k (p ∷ ps) [] e rest a b s h =
      let n = entry_new m p rest (not-next p rest h) in
      let i = ladder-by p ps [] e rest (rises_tail k p ps a) refl (λ x t. absurd (false≢true t)) h in
      (rw (n.0, n.1, i.0), rw n.1 i.1)
  ladder-by k (p ∷ ps) (q ∷ qs) e rest a b s h =
      let up = rises_tail k p ps a in
      let uq = rises_tail k q qs b in
      let others : List Row = ladder m.month e qs ++ rest in
      let next : Row = row m.month q (e q) in
      by_bool (eqb p q)
      (λ t.
      let same : p ≡ q = eqb-true p q t in
      let n = entry_next m p next others (and_i (eqb_self m.month) t) in
      let i = ladder-by p ps qs e rest up (rw same uq) (λ x w. among x p ps (omega (arith, rises-all q x qs uq w)) (s x (elem_there x q qs w))) h in
      let tail : ladder m.month (λ x. cond (elem x qs) (e x) (added x)) ps ≡ ladder m.month (λ x. cond (elem x (q ∷ qs)) (e x) (added x)) ps =
      ladder_same m.month _ _ ps (λ x w. let l = rises-all p x ps up w in rw (elem_other x q qs (omega arith))) in
      (rw (n.0, n.1, i.0, t, same) (ap (λ (rs : List Row). row m.month q (e q) ∷ rs) tail), rw n.1 i.1))
      (λ t.
      let first : p < q = rises-all p q ps up (or_e (eqb q p) (elem q ps) (s q (elem-here q qs)) (λ w. absurd (eqb-false p q t (sym (eqb-true q p w)))) (λ w. w)) in
      let uq' : rises p (q ∷ qs) ≡ true = and_i (lt-ltb p q first) uq in
      let n = entry_new m p (next ∷ others) (rw (eqb_self m.month) t) in
      let i = ladder-by p ps (q ∷ qs) e rest up uq' (λ x w. among x p ps (rises-all p x (q ∷ qs) uq' w) (s x w)) h in
      (rw (n.0, n.1, i.0, t, not_in q p qs uq (omega arith)), rw n.1 i.1))

-- ---- some months, where F gives a month's plan
unfoldable pub ladders_over : (ℕ → Plan) → List ℕ → List Row → List Row
ladders_over F [] old = []
ladders_over F (m ∷ ms) old = ladder_by (F m) (prices_in (F m)) old ++ ladders_over F ms (left_by (F m) (prices_in (F m)) old)

unfoldable pub left_over : (ℕ → Plan) → List ℕ → List Row → List Row
left_over F [] old = old
left_over F (m ∷ ms) old = left_over F ms (left_by (F m) (prices_in (F m)) old)

rises-on : (k : ℕ) (xs : List ℕ) → rises k xs ≡ true → rises_all xs ≡ true
unfolding rises_all
rises-on k [] h = refl
rises-on k (x ∷ xs) h = rises_tail k x xs h

module _ (F : ℕ → Plan) (month-is : (m : ℕ) → (F m).month ≡ m) (G : ℕ → List ℕ) (e : ℕ → ℕ → Entry)
    (new-rise : (m : ℕ) → rises 0 (prices_in (F m)) ≡ true) (old-rise : (m : ℕ) → rises 0 (G m) ≡ true) where
  -- a row's entry, where the old rows are those of the months ns
  abbrev entry_over : List ℕ → ℕ → ℕ → Entry
  entry_over ns m p = cond (elem m ns && elem p (G m)) (e m p) (added (F m) p)

  ladder_for : (m : ℕ) (qs : List ℕ) (f : ℕ → Entry) (rest : List Row) → rises 0 qs ≡ true → In qs (prices_in (F m)) → ((p : ℕ) → find m p rest ≡ none)
      → (ladder_by (F m) (prices_in (F m)) (ladder m f qs ++ rest) ≡ ladder m (λ p. cond (elem p qs) (f p) (added (F m) p)) (prices_in (F m)))
      × (left_by (F m) (prices_in (F m)) (ladder m f qs ++ rest) ≡ rest)
  ladder_for m qs f rest b s n =
      subst (λ (x : ℕ). (ladder_by (F m) (prices_in (F m)) (ladder x f qs ++ rest) ≡ ladder x (λ p. cond (elem p qs) (f p) (added (F m) p)) (prices_in (F m)))
      × (left_by (F m) (prices_in (F m)) (ladder x f qs ++ rest) ≡ rest))
      (month-is m)
      (ladder-by (F m) 0 (prices_in (F m)) qs f rest (new-rise m) b s (λ p. ap (λ (x : ℕ). find x p rest) (month-is m) ∙ n p))

  none_of : (m p : ℕ) (ns : List ℕ) → elem m ns ≡ false → find m p (rows_of ns G e) ≡ none
  none_of m p ns n = find-rows_of m p ns G e ∙ rw n

  abbrev Over : List ℕ → List ℕ → Type 0
  Over ms ns = (ladders_over F ms (rows_of ns G e) ≡ rows_of ms (λ m. prices_in (F m)) (entry_over ns)) × (left_over F ms (rows_of ns G e) ≡ [])

  -- a month that has no old rows, and one that has the first of them
  over_new : (m : ℕ) (ms ns : List ℕ) → elem m ns ≡ false → Over ms ns → Over (m ∷ ms) ns
  unfolding ladders_over left_over rows_of ladder elem rises
  over_new m ms ns n i =
      let l = ladder_for m [] (e m) (rows_of ns G e) refl (λ x w. absurd (false≢true w)) (λ p. none_of m p ns n) in
      let here : ladder m (λ p. cond (elem p []) (e m p) (added (F m) p)) (prices_in (F m)) ≡ ladder m (entry_over ns m) (prices_in (F m)) =
      ladder_same m _ (entry_over ns m) (prices_in (F m)) (λ p w. rw n) in
      (rw (l.0, l.1, i.0) (ap (λ (rs : List Row). rs ++ rows_of ms (λ m. prices_in (F m)) (entry_over ns)) here), rw l.1 i.1)

  over_old : (m : ℕ) (ms ns : List ℕ) → rises m ms ≡ true → rises m ns ≡ true → In (G m) (prices_in (F m)) → Over ms ns → Over (m ∷ ms) (m ∷ ns)
  unfolding ladders_over left_over rows_of
  over_old m ms ns a b s i =
      let l = ladder_for m (G m) (e m) (rows_of ns G e) (old-rise m) s (λ p. none_of m p ns (not_in m m ns b (omega arith))) in
      let tail : rows_of ms (λ m. prices_in (F m)) (entry_over ns) ≡ rows_of ms (λ m. prices_in (F m)) (entry_over (m ∷ ns)) =
      rows_of_same ms _ _ (entry_over ns) (entry_over (m ∷ ns)) (λ x w. refl) (λ x p w v. rw (elem_other x m ns (rises-all m x ms a w))) in
      let here : ladder m (λ p. cond (elem p (G m)) (e m p) (added (F m) p)) (prices_in (F m)) ≡ ladder m (entry_over (m ∷ ns) m) (prices_in (F m)) =
      ladder_same m _ (entry_over (m ∷ ns) m) (prices_in (F m)) (λ p w. rw (elem-here m ns)) in
      (rw (l.0, l.1, i.0, here) (ap (λ (rs : List Row). ladder m (entry_over (m ∷ ns) m) (prices_in (F m)) ++ rs) tail), rw l.1 i.1)

  pub ladders-over : (ms ns : List ℕ) → rises_all ms ≡ true → rises_all ns ≡ true → In ns ms → ((m : ℕ) → elem m ns ≡ true → In (G m) (prices_in (F m))) → Over ms ns
  unfolding ladders_over left_over rows_of rises_all elem
  ladders-over [] [] a b s t = (refl, refl)
  ladders-over [] (n ∷ ns) a b s t = absurd (false≢true (s n (elem-here n ns)))
  ladders-over (m ∷ ms) ns a b s t =
      by_bool (elem m ns)
      (λ w. with_first ns w b s t (λ ns b s t. ladders-over ms ns (rises-on m ms a) b s t))
      (λ w. over_new m ms ns w (ladders-over ms ns (rises-on m ms a) b (λ x v. or_e (eqb x m) (elem x ms) (s x v) (λ q. clash (elem m ns) (rw (eqb-true x m q) at v) w) (λ q. q)) t))
    where
      with_first : (ns : List ℕ) → elem m ns ≡ true → rises_all ns ≡ true → In ns (m ∷ ms) → ((n : ℕ) → elem n ns ≡ true → In (G n) (prices_in (F n)))
          → ((ns : List ℕ) → rises_all ns ≡ true → In ns ms → ((n : ℕ) → elem n ns ≡ true → In (G n) (prices_in (F n))) → Over ms ns) → Over (m ∷ ms) ns
      with_first [] w b s t rest = absurd (false≢true w)
      with_first (n ∷ ns) w b s t rest =
          let low : m ≤ n = or_e (eqb n m) (elem n ms) (s n (elem-here n ns)) (λ q. let k = eqb-true n m q in omega arith) (λ q. let k = rises-all m n ms a q in omega arith) in
          let high : n ≤ m = or_e (eqb m n) (elem m ns) w (λ q. let k = eqb-true m n q in omega arith) (λ q. let k = rises-all n m ns b q in omega arith) in
          let same : n ≡ m = omega arith in
          let b' : rises m ns ≡ true = rw same at b in
          rw same
          (over_old m ms ns a b' (t m w)
          (rest ns (rises-on m ns b') (λ x v. among x m ms (rises-all m x ns b' v) (s x (elem_there x n ns v))) (λ x v. t x (elem_there x n ns v))))

-- ---- the plans at the positions of a list are those of its months
module _ (F : ℕ → Plan) where
  abbrev pub At : (ℕ → Plan) → ℕ → List ℕ → Type 0
  At plans i L = (k : ℕ) → k < length L → plans (i + k) ≡ F (get_or L k 0)

  module _ (plans : ℕ → Plan) (i m : ℕ) (ms : List ℕ) (h : At plans i (m ∷ ms)) where
    here : plans i ≡ F m
    here = rw (add-zero i) at (h 0 (omega arith))

    rest : At plans (suc i) ms
    rest k l = rw (add-suc i k ∙ sym (suc-add i k)) at (h (suc k) (omega arith))

  pub from_over : (plans : ℕ → Plan) (i : ℕ) (L : List ℕ) (old : List Row) → At plans i L → ladders_from plans i (length L) old ≡ ladders_over F L old
  unfolding ladders_from ladders_over
  from_over plans i [] old h = refl
  from_over plans i (m ∷ ms) old h =
      rw (here plans i m ms h)
      (ap (λ (rs : List Row). ladder_by (F m) (prices_in (F m)) old ++ rs) (from_over plans (suc i) ms (left_by (F m) (prices_in (F m)) old) (rest plans i m ms h)))

  pub count_over : (plans : ℕ → Plan) (i : ℕ) (L : List ℕ) → At plans i L → count_from plans i (length L) ≡ total (λ m. prices_in (F m)) L
  unfolding count_from total
  count_over plans i [] h = refl
  count_over plans i (m ∷ ms) h = rw (here plans i m ms h, count_over plans (suc i) ms (rest plans i m ms h))
