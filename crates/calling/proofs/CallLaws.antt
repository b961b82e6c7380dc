-- A call by its kind and its pairs: each kind has one pair.
-- Assumes nothing.
use mathlib.Core.Path.{◌≡◌, refl, sym, ◌∙◌}
use mathlib.Core.Bool.{true, false, true≢false}
use mathlib.Core.List.{List, [], ◌∷◌}
use Prim.Native.Nat.{ℕ, suc, ◌≤◌, ◌<◌}
use native.Mathlib.Omega.{arith}
use lib.Dec.{eqb}
use lib.ListN.{length, get_or}
use Rattle.std.specs.Prelude.{Option, Some, None}
use borrow.Author.Tests.{eq-eqb, ne_eqb, eqb-true, eqb-false}
use Rattle.base.proofs.Tests.{by_bool, by_le, clash}
use Rattle.calls.specs.declared.Call.{Call}
use Rattle.calls.specs.declared.Call.TheVariants.{Start, Session, Announce}
use Rattle.calls.specs.Calls.{of_one, call_of, is_call}

one_fits : (call : ℕ → ℕ → Call) (ps : List (List ℕ)) → is_call (of_one call ps) ≡ eqb (length ps) 1
unfolding of_one is_call
one_fits call [] = refl
one_fits call (p ∷ []) = refl
one_fits call (p ∷ q ∷ ps) = rw (ne_eqb (suc (suc (length ps))) 1 (λ e. omega arith))

one_is : (call : ℕ → ℕ → Call) (ps : List (List ℕ)) → length ps ≡ 1 → of_one call ps ≡ Some (call (get_or (get_or ps 0 []) 0 0) (get_or (get_or ps 0 []) 1 0))
unfolding of_one
one_is call [] h = absurd (omega arith)
one_is call (p ∷ []) h = refl
one_is call (p ∷ q ∷ ps) h = absurd (omega arith)

pub none_is : (j : Option Call) → is_call j ≡ false → None ≡ j
unfolding is_call
none_is None h = refl
none_is (Some k) h = absurd (true≢false h)

-- ---- whether a kind and its pairs are a call
module _ (kind : ℕ) (ps : List (List ℕ)) where
  pub kind_fits : kind ≤ 2 → is_call (call_of kind ps) ≡ eqb (length ps) 1
  unfolding call_of
  kind_fits l =
      by_bool (eqb kind 0) (λ e. rw e (one_fits Start ps))
      (λ e. by_bool (eqb kind 1) (λ f. rw (e, f) (one_fits Session ps))
      (λ f. rw (e, f, eq-eqb kind 2 (omega (arith, eqb-false kind 0 e, eqb-false kind 1 f))) (one_fits Announce ps)))

  pub no_kind : 2 < kind → is_call (call_of kind ps) ≡ false
  unfolding call_of is_call
  no_kind l = rw (ne_eqb kind 0 (λ e. omega arith), ne_eqb kind 1 (λ e. omega arith), ne_eqb kind 2 (λ e. omega arith))

  pub fits_kind : is_call (call_of kind ps) ≡ true → kind ≤ 2
  fits_kind h = by_le kind 2 (λ l. l) (λ l. clash (is_call (call_of kind ps)) h (no_kind l))

  pub fits_one : is_call (call_of kind ps) ≡ true → length ps ≡ 1
  fits_one h = eqb-true (length ps) 1 (sym (kind_fits (fits_kind h)) ∙ h)

  -- ---- and which
  module _ (one : length ps ≡ 1) where
    pub is-start : kind ≡ 0 → call_of kind ps ≡ Some (Start (get_or (get_or ps 0 []) 0 0) (get_or (get_or ps 0 []) 1 0))
    unfolding call_of
    is-start e = rw (eq-eqb kind 0 e) (one_is Start ps one)

    module _ (n : kind ≡ 0 → ⊥) where
      pub is-session : kind ≡ 1 → call_of kind ps ≡ Some (Session (get_or (get_or ps 0 []) 0 0) (get_or (get_or ps 0 []) 1 0))
      unfolding call_of
      is-session e = rw (ne_eqb kind 0 n, eq-eqb kind 1 e) (one_is Session ps one)

      pub is-announce : (kind ≡ 1 → ⊥) → kind ≤ 2 → call_of kind ps ≡ Some (Announce (get_or (get_or ps 0 []) 0 0) (get_or (get_or ps 0 []) 1 0))
      unfolding call_of
      is-announce m l = rw (ne_eqb kind 0 n, ne_eqb kind 1 m, eq-eqb kind 2 (omega arith)) (one_is Announce ps one)
