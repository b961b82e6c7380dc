-- A month's ladder among those of several months, and the rows of an origin.
-- Assumes nothing.
use mathlib.Core.Path.{◌≡◌, refl, ap, ◌∙◌}
use mathlib.Core.Bool.{true, false, cond, false≢true}
use mathlib.Core.List.{List, [], ◌∷◌, ◌++◌, append-nil}
use Prim.Native.Nat.{ℕ}
use lib.Dec.{eqb}
use borrow.Author.Tests.{eqb-true}
use Rattle.base.specs.Lists.{elem, select}
use Rattle.base.proofs.Tests.{by_bool, or_fl, or_fr}
use Rattle.layout.specs.Rows.{Entry, Row, row, ladder, rows_of, prices_of}
use Rattle.layout.proofs.Held.{Apart}
use Rattle.worked.specs.Worked.{of_origin}

module _ (m : ℕ) where
  prices-ladder : (n : ℕ) (e : ℕ → Entry) (ps : List ℕ) (rest : List Row) → prices_of m (ladder n e ps ++ rest) ≡ cond (eqb m n) ps [] ++ prices_of m rest
  unfolding prices_of ladder
  prices-ladder n e [] rest = by_bool (eqb m n) (λ q. rw q) (λ q. rw q)
  prices-ladder n e (p ∷ ps) rest =
      by_bool (eqb m n)
      (λ q. rw q (ap (λ (l : List ℕ). p ∷ l) (prices-ladder n e ps rest ∙ rw q)))
      (λ q. rw q (prices-ladder n e ps rest ∙ rw q))

  module _ (G : ℕ → List ℕ) (e : ℕ → ℕ → Entry) where
    prices_none : (L : List ℕ) → elem m L ≡ false → prices_of m (rows_of L G e) ≡ []
    unfolding prices_of rows_of elem
    prices_none [] h = refl
    prices_none (n ∷ ns) h = prices-ladder n (e n) (G n) (rows_of ns G e) ∙ rw (or_fl (eqb m n) (elem m ns) h) (prices_none ns (or_fr (eqb m n) (elem m ns) h))

    pub month_prices : (L : List ℕ) → Apart L → elem m L ≡ true → prices_of m (rows_of L G e) ≡ G m
    unfolding rows_of elem
    month_prices [] a h = absurd (false≢true h)
    month_prices (n ∷ ns) a h =
        prices-ladder n (e n) (G n) (rows_of ns G e)
        ∙ by_bool (eqb m n)
        (λ q. let s = eqb-true m n q in rw (q, prices_none ns (rw (← s) at a.0), append-nil, s))
        (λ q. rw q (month_prices ns a.1 (rw q at h)))

module _ (o : ℕ) where
  origin-ladder : (n : ℕ) (e : ℕ → Entry) (ps : List ℕ) (rest : List Row)
      → of_origin o (ladder n e ps ++ rest) ≡ ladder n e (select (λ p. eqb (e p).origin o) ps) ++ of_origin o rest
  unfolding of_origin ladder select
  origin-ladder n e [] rest = refl
  origin-ladder n e (p ∷ ps) rest =
      by_bool (eqb (e p).origin o)
      (λ q. rw q (ap (λ (l : List Row). row n p (e p) ∷ l) (origin-ladder n e ps rest)))
      (λ q. rw q (origin-ladder n e ps rest))

  pub origin-rows : (L : List ℕ) (G : ℕ → List ℕ) (e : ℕ → ℕ → Entry)
      → of_origin o (rows_of L G e) ≡ rows_of L (λ m. select (λ p. eqb (e m p).origin o) (G m)) e
  unfolding of_origin rows_of
  origin-rows [] G e = refl
  origin-rows (m ∷ ms) G e = origin-ladder m (e m) (G m) (rows_of ms G e) ∙ rw (origin-rows ms G e)
