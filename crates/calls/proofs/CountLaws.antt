-- Counts of rows that pass a test.
-- Assumes nothing.
use mathlib.Core.Path.{◌≡◌, refl, sym, ◌∙◌}
use mathlib.Core.Bool.{Bool, true, false}
use mathlib.Core.List.{List, [], ◌∷◌, ◌++◌}
use Prim.Native.Nat.{ℕ, suc, ◌+◌, ◌<◌}
use native.Mathlib.Nat.{suc-add}
use native.Mathlib.Omega.{arith}
use lib.Dec.{eqb}
use lib.ListN.{length}
use borrow.Author.Tests.{ne_eqb}
use Rattle.base.specs.Lists.{elem}
use Rattle.base.proofs.Tests.{by_bool, and_l, and_r}
use Rattle.base.proofs.ListLaws.{elem-here, elem_there}
use Rattle.layout.specs.Rows.{Entry, Row, ladder, rows_of, entry_ok}
use Rattle.layout.specs.Register.{entries_ok}
use Rattle.layout.proofs.RowLaws.{entry_first}
use Rattle.calls.specs.Answers.{count}

pub count-append : (f : Row → Bool) (xs ys : List Row) → count f (xs ++ ys) ≡ count f xs + count f ys
unfolding count
count-append f [] ys = omega arith
count-append f (x ∷ xs) ys =
    by_bool (f x)
    (λ e. rw (e, count-append f xs ys) (sym (suc-add (count f xs) (count f ys))))
    (λ e. rw (e, count-append f xs ys))

-- rows none of which passes
module _ (f : Row → Bool) (r : Row) (rs : List Row) (h : count f (r ∷ rs) ≡ 0) where
  pub none_first : f r ≡ false
  unfolding count
  none_first = by_bool (f r) (λ e. let z : suc (count f rs) ≡ 0 = rw e at h in absurd (omega arith)) (λ e. e)

  pub none_rest : count f rs ≡ 0
  unfolding count
  none_rest = rw none_first at h

module _ (d : ℕ) where
  abbrev pub on : Row → Bool
  on r = eqb r.entry.first d

  pub none_yet : (day : ℕ) (rs : List Row) → day < d → entries_ok day rs ≡ true → count on rs ≡ 0
  unfolding count entries_ok
  none_yet day [] l h = refl
  none_yet day (r ∷ rs) l h =
      let a = entry_first day r.entry (and_l (entry_ok day r.entry) _ h) in
      rw (ne_eqb r.entry.first d (λ q. omega arith)) (none_yet day rs l (and_r (entry_ok day r.entry) _ h))

-- ---- rows of months that are live still, and of one that is not
module _ (t : ℕ → Bool) where
  abbrev pub of : Row → Bool
  of r = t r.month

  ladder_none : (m : ℕ) (e : ℕ → Entry) (ps : List ℕ) → t m ≡ false → count of (ladder m e ps) ≡ 0
  unfolding count ladder
  ladder_none m e [] h = refl
  ladder_none m e (p ∷ ps) h = rw h (ladder_none m e ps h)

  pub ladder_all : (m : ℕ) (e : ℕ → Entry) (ps : List ℕ) → t m ≡ true → count of (ladder m e ps) ≡ length (ladder m e ps)
  unfolding count ladder
  ladder_all m e [] h = refl
  ladder_all m e (p ∷ ps) h = rw (h, ladder_all m e ps h)

  pub rows_none : (L : List ℕ) (G : ℕ → List ℕ) (e : ℕ → ℕ → Entry) → ((m : ℕ) → elem m L ≡ true → t m ≡ false) → count of (rows_of L G e) ≡ 0
  unfolding count rows_of
  rows_none [] G e h = refl
  rows_none (m ∷ ms) G e h =
      count-append of (ladder m (e m) (G m)) (rows_of ms G e)
      ∙ rw (ladder_none m (e m) (G m) (h m (elem-here m ms)), rows_none ms G e (λ n w. h n (elem_there n m ms w)))
