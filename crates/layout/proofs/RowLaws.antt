-- Laws of rows: reading rows that were written from functions of the key.
-- Assumes nothing.
use mathlib.Core.Path.{◌≡◌, refl, ap, ◌∙◌}
use mathlib.Core.Bool.{Bool, true, false, cond, ◌&&◌, false≢true}
use mathlib.Core.List.{List, [], ◌∷◌, ◌++◌}
use mathlib.Core.Option.{Option, none, some}
use Prim.Native.Nat.{ℕ, ◌≤◌, suc}
use native.Mathlib.Omega.{arith}
use lib.Dec.{leb, eqb, ltb}
use borrow.Author.Tests.{eqb-true, leb-true, le-leb, lt-ltb}
use Rattle.base.specs.Lists.{elem, within}
use Rattle.base.proofs.Tests.{by_bool, and_l, and_r, and_i, and_no}
use Rattle.base.proofs.ListLaws.{elem-here, elem_there}
use Rattle.layout.specs.Rows.{Entry, new_entry, Row, ladder, rows_of, find, prices_of, entry_ok}
use Rattle.layout.specs.Register.{Body, non_empty, span_low}
use lib.ListN.{length}

pub entry_later : (d e : ℕ) (x : Entry) → d ≤ e → entry_ok d x ≡ true → entry_ok e x ≡ true
unfolding entry_ok
entry_later d e x h k =
    let f = leb-true x.first d (and_l _ _ k) in
    and_i (le-leb x.first e (omega arith)) (and_r (leb x.first d) _ k)

pub entry_new : (d o : ℕ) → within 1 5 o ≡ true → entry_ok d (new_entry d o) ≡ true
unfolding entry_ok
entry_new d o w = and_i (le-leb d d (omega arith)) w

pub entry_first : (d : ℕ) (x : Entry) → entry_ok d x ≡ true → x.first ≤ d
unfolding entry_ok
entry_first d x k = leb-true x.first d (and_l _ _ k)

-- ---- reading

pub find-ladder : (m p n : ℕ) (f : ℕ → Entry) (ps : List ℕ) (rest : List Row)
    → find m p (ladder n f ps ++ rest) ≡ cond (eqb m n && elem p ps) (some (f p)) (find m p rest)
unfolding find ladder elem
find-ladder m p n f [] rest = by_bool (eqb m n) (λ e. rw e) (λ e. rw e)
find-ladder m p n f (q ∷ qs) rest =
    by_bool (eqb m n)
    (λ e. by_bool (eqb p q)
    (λ g. rw (e, g, eqb-true p q g))
    (λ g. rw (e, g) (find-ladder m p n f qs rest ∙ rw e)))
    (λ e. rw e (find-ladder m p n f qs rest ∙ rw e))

same : (n : ℕ) (ns : List ℕ) (p : ℕ) (G : ℕ → List ℕ) (f : ℕ → ℕ → Entry)
    → find n p (rows_of ns G f) ≡ cond (elem n ns && elem p (G n)) (some (f n p)) none
    → cond (elem p (G n)) (some (f n p)) (find n p (rows_of ns G f)) ≡ cond (elem p (G n)) (some (f n p)) none
same n ns p G f ih =
    by_bool (elem p (G n))
    (λ e. rw e)
    (λ e. rw e (ih ∙ rw (and_no (elem n ns) (elem p (G n)) e)))

pub find-rows_of : (m p : ℕ) (L : List ℕ) (G : ℕ → List ℕ) (f : ℕ → ℕ → Entry)
    → find m p (rows_of L G f) ≡ cond (elem m L && elem p (G m)) (some (f m p)) none
unfolding find rows_of elem
find-rows_of m p [] G f = refl
find-rows_of m p (n ∷ ns) G f =
    find-ladder m p n (f n) (G n) (rows_of ns G f)
    ∙ by_bool (eqb m n)
    (λ e. rw (e, eqb-true m n e) (same n ns p G f (find-rows_of n p ns G f)))
    (λ e. rw e (find-rows_of m p ns G f))

-- a row is found where its price is among the month's prices
unfoldable pub is_some {ℓ} : {A : Type ℓ} → Option A → Bool
is_some none = false
is_some (some a) = true

pub prices-find : (m p : ℕ) (rs : List Row) → elem p (prices_of m rs) ≡ is_some (find m p rs)
unfolding find prices_of elem is_some
prices-find m p [] = refl
prices-find m p (r ∷ rs) =
    by_bool (eqb m r.month)
    (λ e. by_bool (eqb p r.price)
    (λ g. rw (e, g))
    (λ g. rw (e, g) (prices-find m p rs)))
    (λ e. rw e (prices-find m p rs))

pub elem_prices : (m p : ℕ) (L : List ℕ) (G : ℕ → List ℕ) (f : ℕ → ℕ → Entry) → elem p (prices_of m (rows_of L G f)) ≡ (elem m L && elem p (G m))
unfolding is_some
elem_prices m p L G f =
    prices-find m p (rows_of L G f) ∙ ap is_some (find-rows_of m p L G f)
    ∙ by_bool (elem m L && elem p (G m)) (λ e. rw e) (λ e. rw e)

-- ---- two writings agree

pub ladder_same : (m : ℕ) (f g : ℕ → Entry) (ps : List ℕ) → ((p : ℕ) → elem p ps ≡ true → f p ≡ g p) → ladder m f ps ≡ ladder m g ps
unfolding ladder
ladder_same m f g [] h = refl
ladder_same m f g (p ∷ ps) h = rw (h p (elem-here p ps), ladder_same m f g ps (λ q e. h q (elem_there q p ps e)))

pub rows_of_same : (L : List ℕ) (G H : ℕ → List ℕ) (f g : ℕ → ℕ → Entry)
    → ((m : ℕ) → elem m L ≡ true → G m ≡ H m)
    → ((m p : ℕ) → elem m L ≡ true → elem p (H m) ≡ true → f m p ≡ g m p)
    → rows_of L G f ≡ rows_of L H g
unfolding rows_of
rows_of_same [] G H f g h k = refl
rows_of_same (m ∷ ms) G H f g h k =
    rw (
      h m (elem-here m ms),
      ladder_same m (f m) (g m) (H m) (λ p e. k m p (elem-here m ms) e),
      rows_of_same ms G H f g (λ n e. h n (elem_there n m ms e)) (λ n p e. k n p (elem_there n m ms e)),
    )

-- ---- rows and their bytes
pub ladder-length : (m : ℕ) (g : ℕ → Entry) (ps : List ℕ) → length (ladder m g ps) ≡ length ps
unfolding ladder
ladder-length m g [] = refl
ladder-length m g (p ∷ ps) = ap suc (ladder-length m g ps)

some_in : (p : ℕ) (xs : List ℕ) → elem p xs ≡ true → ltb 0 (length xs) ≡ true
unfolding elem
some_in p [] e = absurd (false≢true e)
some_in p (y ∷ ys) e = lt-ltb 0 (suc (length ys)) (omega arith)

pub all_some : (b : Body) (ms : List ℕ) → ((m : ℕ) → elem m ms ≡ true → elem (span_low b m) (prices_of m b.rows) ≡ true) → non_empty b ms ≡ true
unfolding non_empty
all_some b [] h = refl
all_some b (m ∷ ms) h = and_i (some_in (span_low b m) (prices_of m b.rows) (h m (elem-here m ms))) (all_some b ms (λ n e. h n (elem_there n m ms e)))
