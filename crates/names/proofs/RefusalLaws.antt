-- The causes of writing and of reading a name: one law for each number that a call returns, and what is known where none holds.
-- Assumes nothing.
use mathlib.Core.Path.{◌≡◌, ap, ◌∙◌}
use mathlib.Core.Bool.{true, false, not}
use mathlib.Core.List.{List, [], ◌∷◌}
use Prim.Native.Nat.{ℕ, ◌≤◌, ◌<◌}
use lib.Dec.{eqb, ltb}
use lib.ListN.{length}
use borrow.Author.Tests.{not-false, lt-ltb, le-ltb, ltb-false, eq-eqb, ne_eqb, eqb-true}
use Rattle.base.specs.Search.{first_in}
use Rattle.base.specs.Causes.{cause, first_cause}
use Rattle.base.proofs.Tests.{or_l, or_r}
use Rattle.base.proofs.CauseLaws.{none_of, not-cause, caused, passed}
use Rattle.dates.specs.Months.{month_count}
use Rattle.names.specs.Names.{name_length, no_series, write_cause, misplaced, month_read, kind_read, price_read, read_cause}

module _ (bs ns : List ℕ) where
  not_eleven : (length bs ≡ name_length → ⊥) → first_cause (cause (not (eqb (length bs) name_length)) 27 ∷ ns) ≡ 27
  not_eleven h = caused _ 26 ns (ap not (ne_eqb (length bs) name_length h))

  eleven : length bs ≡ name_length → first_cause (cause (not (eqb (length bs) name_length)) 27 ∷ ns) ≡ first_cause ns
  eleven h = passed _ 27 ns (ap not (eq-eqb (length bs) name_length h))

module _ (m k p : ℕ) where
  not-series : no_series m k p ≡ true → first_cause (cause (no_series m k p) 28 ∷ []) ≡ 28
  not-series h = caused _ 27 [] h

  a-series : no_series m k p ≡ false → first_cause (cause (no_series m k p) 28 ∷ []) ≡ 0
  unfolding first_cause
  a-series h = passed _ 28 [] h

  pub no_kind : 1 < k → no_series m k p ≡ true
  unfolding no_series
  no_kind h = or_r (not (ltb m month_count)) _ (or_l (ltb 1 k) _ (lt-ltb 1 k h))

  module _ (bs : List ℕ) where
    pub write_27 : (length bs ≡ name_length → ⊥) → write_cause bs m k p ≡ 27
    unfolding write_cause
    write_27 h = not_eleven bs _ h

    pub write_28 : length bs ≡ name_length → no_series m k p ≡ true → write_cause bs m k p ≡ 28
    unfolding write_cause
    write_28 l h = eleven bs _ l ∙ not-series h

    pub write_0 : length bs ≡ name_length → no_series m k p ≡ false → write_cause bs m k p ≡ 0
    unfolding write_cause
    write_0 l h = eleven bs _ l ∙ a-series h

module _ (bs : List ℕ) where
  pub read_27 : (length bs ≡ name_length → ⊥) → read_cause bs ≡ 27
  unfolding read_cause
  read_27 h = not_eleven bs _ h

  module _ (long : length bs ≡ name_length) where
    pub read_29 : first_in (misplaced bs) 0 name_length < name_length → read_cause bs ≡ 29
    unfolding read_cause
    read_29 h = eleven bs _ long ∙ caused _ 28 _ (lt-ltb _ name_length h)

    module _ (placed : name_length ≤ first_in (misplaced bs) 0 name_length) where
      formed : read_cause bs ≡ first_cause (cause (no_series (month_read bs) (kind_read bs) (price_read bs)) 28 ∷ [])
      unfolding read_cause
      formed = eleven bs _ long ∙ passed _ 29 _ (le-ltb (first_in (misplaced bs) 0 name_length) name_length placed)

      pub read_28 : no_series (month_read bs) (kind_read bs) (price_read bs) ≡ true → read_cause bs ≡ 28
      read_28 h = formed ∙ not-series _ _ _ h

      pub read_0 : no_series (month_read bs) (kind_read bs) (price_read bs) ≡ false → read_cause bs ≡ 0
      read_0 h = formed ∙ a-series _ _ _ h

-- bytes of a name's length, each of which can stand where it stands
pub record Formed (bs : List ℕ) : Type 0 where
  pub long : length bs ≡ name_length
  pub placed : name_length ≤ first_in (misplaced bs) 0 name_length

pub read_formed : (bs : List ℕ) → read_cause bs ≡ 0 → Formed bs
unfolding read_cause
read_formed bs h =
    let first = none_of _ _ h in
    let second = none_of _ _ first.1 in
    record {
      long = eqb-true (length bs) name_length (not-false _ (not-cause _ 26 first.0));
      placed = ltb-false _ name_length (not-cause _ 28 second.0);
    }
