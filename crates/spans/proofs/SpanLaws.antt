-- Laws of the six spans: a table filled from the front, a month's span among others, spans that agree, and what waits taken in one by one.
-- Assumes nothing.
use mathlib.Core.Path.{◌≡◌, refl, sym, ◌∙◌}
use mathlib.Core.Bool.{cond}
use mathlib.Core.List.{List, [], ◌∷◌}
use Prim.Native.Nat.{ℕ, zero, suc, ◌+◌, ◌≤◌, ◌<◌, min, max}
use native.Mathlib.Omega.{arith}
use lib.Dec.{eqb, ltb}
use lib.ListN.{length, get_or}
use lib.Seq.{ext_get_or}
use borrow.Author.Tests.{eq-eqb, ne_eqb, lt-ltb, le-ltb}
use Rattle.std.specs.Prelude.{Option, Some, None, ◌==◌, position}
use Rattle.std.specs.List.{position_or_len}
use Rattle.base.proofs.Tests.{by_bool, by_le}
use Rattle.base.specs.Lists.{least_of, greatest_of}
use Rattle.base.proofs.ListLaws.{least_step}
use Rattle.layout.specs.Register.{waiting_of}
use Rattle.layout.specs.Spans.{span_in}
use Rattle.spans.specs.Spans.{six, announced_pair}

-- ---- six in a row
pub by-six : (P : ℕ → Type 0) → P 0 → P 1 → P 2 → P 3 → P 4 → P 5 → (i : ℕ) → i < 6 → P i
by-six P a b c d e f zero h = a
by-six P a b c d e f (suc zero) h = b
by-six P a b c d e f (suc (suc zero)) h = c
by-six P a b c d e f (suc (suc (suc zero))) h = d
by-six P a b c d e f (suc (suc (suc (suc zero)))) h = e
by-six P a b c d e f (suc (suc (suc (suc (suc zero))))) h = f
by-six P a b c d e f (suc (suc (suc (suc (suc (suc n)))))) h = absurd (omega arith)

module _ (f : ℕ → List ℕ) where
  pub six-at : (i : ℕ) → i < 6 → get_or (six f) i [] ≡ f i
  six-at = by-six (λ i. get_or (six f) i [] ≡ f i) refl refl refl refl refl refl

  -- the first i places are filled
  abbrev pub Filled : List (List ℕ) → ℕ → Type 0
  Filled l i = (k : ℕ) → k < i → get_or l k [] ≡ f k

  pub filled : (l : List (List ℕ)) (i : ℕ) → 6 ≤ i → length l ≡ 6 → Filled l i → l ≡ six f
  filled l i h n e = ext_get_or [] l (six f) n (λ k u. e k (omega arith) ∙ sym (six-at k (omega arith)))

-- ---- a month's span among those of some months: it stands where the month does
abbrev place : ℕ → List ℕ → ℕ
place m ms = position_or_len (λ n. m == n) ms

span_at : (m : ℕ) (ms : List ℕ) (ss : List (List ℕ)) → length ms ≤ length ss
    → span_in ms ss m ≡ cond (ltb (place m ms) (length ms)) (get_or ss (place m ms) []) (0 ∷ 0 ∷ [])
unfolding span_in
span_at m [] ss h = refl
span_at m (n ∷ ns) [] h = absurd (omega arith)
span_at m (n ∷ ns) (s ∷ ss) h =
    by_bool (eqb m n)
    (λ e. rw (e, lt-ltb 0 (suc (length ns)) (omega arith)))
    (λ e.
    let f : 1 + place m ns ≡ suc (place m ns) = omega arith in
    by_le (length ns) (place m ns)
    (λ l. rw (e, f, span_at m ns ss (omega arith), le-ltb (place m ns) (length ns) l, le-ltb (suc (place m ns)) (suc (length ns)) (omega arith)))
    (λ l. rw (e, f, span_at m ns ss (omega arith), lt-ltb (place m ns) (length ns) l, lt-ltb (suc (place m ns)) (suc (length ns)) (omega arith))))

-- what a search for the month finds
abbrev pub Finds : ℕ → List ℕ → List (List ℕ) → Option ℕ → Type 0
Finds m ms ss (Some i) = get_or ss i [] ≡ span_in ms ss m
Finds m ms ss None = (0 ∷ 0 ∷ []) ≡ span_in ms ss m

pub finds : (m : ℕ) (ms : List ℕ) (ss : List (List ℕ)) → length ms ≤ length ss → (o : Option ℕ) → o ≡ position (λ n. m == n) ms → Finds m ms ss o
finds m ms ss l None h =
    by_bool (ltb (place m ms) (length ms))
    (λ e. let z : None ≡ Some (place m ms) = rw e at h in absurd (cc))
    (λ e. sym (span_at m ms ss l ∙ rw e))
finds m ms ss l (Some i) h =
    by_bool (ltb (place m ms) (length ms))
    (λ e.
    let z : Some i ≡ Some (place m ms) = rw e at h in
    let q : i ≡ place m ms = cc in
    rw q (sym (span_at m ms ss l ∙ rw e)))
    (λ e. let z : Some i ≡ None = rw e at h in absurd (cc))

-- ---- what waits
-- the greatest is taken step by step from the front, as the least is
greatest-step : (x y : ℕ) (ys : List ℕ) → greatest_of x (y ∷ ys) ≡ greatest_of (max y x) ys
unfolding greatest_of
greatest-step x y [] = refl
greatest-step x y (z ∷ zs) = let h = greatest-step x y zs in omega arith

module _ (ws : List (ℕ × ℕ)) (m low high : ℕ) where
  pub announced-next : (n p : ℕ) → n ≡ m → announced_pair ((n, p) ∷ ws) m (low ∷ high ∷ []) ≡ announced_pair ws m (min p low ∷ max p high ∷ [])
  unfolding announced_pair waiting_of
  announced-next n p e = rw (eq-eqb m n (sym e), least_step low p (waiting_of m ws), greatest-step high p (waiting_of m ws))

  pub announced_other : (n p : ℕ) → (n ≡ m → ⊥) → announced_pair ((n, p) ∷ ws) m (low ∷ high ∷ []) ≡ announced_pair ws m (low ∷ high ∷ [])
  unfolding announced_pair waiting_of
  announced_other n p e = rw (ne_eqb m n (λ q. e (sym q)))

pub announced-none : (m low high : ℕ) → announced_pair [] m (low ∷ high ∷ []) ≡ low ∷ high ∷ []
unfolding announced_pair waiting_of least_of greatest_of
announced-none m low high = refl

-- a span is its two ends
pub announced-ends : (ws : List (ℕ × ℕ)) (m : ℕ) (span : List ℕ) → announced_pair ws m (get_or span 0 0 ∷ get_or span 1 0 ∷ []) ≡ announced_pair ws m span
unfolding announced_pair
announced-ends ws m span = refl
