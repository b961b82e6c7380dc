-- Where the first live month moves on by one, the other months stay live.
-- Assumes nothing.
use mathlib.Core.Path.{◌≡◌, refl, sym, ◌∙◌}
use mathlib.Core.Bool.{true, false≢true}
use mathlib.Core.List.{List, [], ◌∷◌}
use Prim.Native.Nat.{ℕ, ◌+◌, ◌*◌, ◌/◌, ◌≤◌, ◌<◌}
use native.Mathlib.Omega.{arith}
use lib.Dec.{eqb}
use lib.ListN.{length, get_or}
use borrow.Author.Tests.{eqb-true}
use Rattle.base.specs.Lists.{elem}
use Rattle.base.proofs.Tests.{by_le, or_e}
use Rattle.base.proofs.Rising.{rises_all, rises-all}
use Rattle.calendar.specs.Live.{next_quarter, live_months}
use Rattle.calendar.proofs.LiveLaws.{quarter_is}
use Rattle.rules.proofs.RulebookLaws.{live_rises}
use Rattle.relisting.proofs.Plans.{elem_at}

-- the live months behind the first
abbrev pub behind : ℕ → List ℕ
behind f = (f + 1) ∷ (f + 2) ∷ next_quarter f ∷ (next_quarter f + 3) ∷ (next_quarter f + 6) ∷ []

-- they are live too where the first month is the next one
stands_at : (xs : List ℕ) (i x : ℕ) → i < length xs → get_or xs i 0 ≡ x → elem x xs ≡ true
stands_at xs i x l e = rw e at (elem_at xs i l)

pub stay-live : (f m : ℕ) → elem m (behind f) ≡ true → elem m (live_months (f + 1)) ≡ true
unfolding elem live_months
stay-live f m e =
    let q : ℕ = next_quarter f in
    let qe : q ≡ (f + 3) / 3 * 3 + 2 = quarter_is f in
    let re : next_quarter (f + 1) ≡ (f + 1 + 3) / 3 * 3 + 2 = quarter_is (f + 1) in
    let at : (i x : ℕ) → i < 6 → get_or (live_months (f + 1)) i 0 ≡ x → m ≡ x → elem m (live_months (f + 1)) ≡ true =
    λ i x l g k. stands_at (live_months (f + 1)) i m l (g ∙ sym k) in
    or_e (eqb m (f + 1)) _ e (λ t. at 0 (f + 1) (omega arith) refl (eqb-true m (f + 1) t)) λ e₁.
    or_e (eqb m (f + 2)) _ e₁ (λ t. at 1 (f + 2) (omega arith) (omega arith) (eqb-true m (f + 2) t)) λ e₂.
    or_e (eqb m q) _ e₂ (λ t. by_le q (f + 3) (λ l. at 2 q (omega arith) (omega arith) (eqb-true m q t)) (λ l. at 3 q (omega arith) (omega arith) (eqb-true m q t))) λ e₃.
    or_e (eqb m (q + 3)) _ e₃ (λ t. by_le q (f + 3) (λ l. at 3 (q + 3) (omega arith) (omega arith) (eqb-true m (q + 3) t)) (λ l. at 4 (q + 3) (omega arith) (omega arith) (eqb-true m (q + 3) t))) λ e₄.
    or_e (eqb m (q + 6)) _ e₄ (λ t. by_le q (f + 3) (λ l. at 4 (q + 6) (omega arith) (omega arith) (eqb-true m (q + 6) t)) (λ l. at 5 (q + 6) (omega arith) (omega arith) (eqb-true m (q + 6) t))) λ e₅.
    absurd (false≢true e₅)

-- no month before the first is live
pub live-from : (f m : ℕ) → elem m (live_months f) ≡ true → f ≤ m
unfolding elem live_months rises_all
live-from f m e =
    or_e (eqb m f) (elem m (behind f)) e
    (λ t. let q = eqb-true m f t in omega arith)
    (λ t. let l = rises-all f m (behind f) (live_rises f) t in omega arith)
