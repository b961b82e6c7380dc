-- The span of a month among those of some months.
-- Assumes nothing.
use mathlib.Core.Path.{◌≡◌, refl}
use mathlib.Core.Bool.{cond}
use mathlib.Core.List.{List, [], ◌∷◌}
use Prim.Native.Nat.{ℕ}
use lib.Dec.{eqb}
use borrow.Author.Tests.{eqb-true}
use Rattle.base.specs.Lists.{elem}
use Rattle.base.proofs.Tests.{by_bool}
use Rattle.layout.specs.Register.{Body, span_low, span_high}
use Rattle.layout.specs.Spans.{spans_of, span_in}

pub span-in : (b : Body) (m : ℕ) (ms : List ℕ) → span_in ms (spans_of b ms) m ≡ cond (elem m ms) (span_low b m ∷ span_high b m ∷ []) (0 ∷ 0 ∷ [])
unfolding span_in spans_of elem
span-in b m [] = refl
span-in b m (n ∷ ns) =
    by_bool (eqb m n)
    (λ e. rw (e, eqb-true m n e))
    (λ e. rw e (span-in b m ns))
