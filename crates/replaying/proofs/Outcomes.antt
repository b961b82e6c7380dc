-- What each outcome of a replay leaves.
-- Assumes nothing.
use mathlib.Core.Path.{◌≡◌, refl}
use mathlib.Core.Bool.{true, false}
use mathlib.Core.List.{List, [], ◌∷◌}
use Prim.Native.Nat.{ℕ}
use lib.Dec.{eqb}
use lib.ListN.{length, length-replicate}
use borrow.Author.Tests.{eqb-true, eq-eqb, ne_eqb}
use Rattle.std.specs.Prelude.{Result, Ok, Err}
use Rattle.base.proofs.Tests.{and_l, and_r, and_i}
use Rattle.rules.specs.Rulebook.{rules}
use Rattle.calls.specs.declared.Call.{Call}
use Rattle.calls.specs.declared.Call.TheVariants.{Start, Session, Announce}
use Rattle.calls.specs.Calls.{of_one, call_of, is_call}
use Rattle.layout.specs.Bytes.{register_length, all_zero}
use Rattle.layout.proofs.ByteLaws.{zeros_are, zeros_zero}
use Rattle.history.specs.Claim.{empty_register, final_at, numbers_at}
use Rattle.history.proofs.Closing.{closing}
use Rattle.replaying.specs.Replay.{is_empty, outcome_of, Left}
use Rattle.replaying.specs.Journal.{call_then, journal, all_calls, well_kept, outcome_of as journal_outcome, Left as JournalLeft}
use Rattle.replaying.specs.declared.NotRun.{NotRun}
use Rattle.replaying.specs.declared.NotRun.TheVariants.{NotEmpty, Lengths, Malformed}

empty_is : (bs : List ℕ) → is_empty bs ≡ true → bs ≡ empty_register
unfolding is_empty
empty_is bs e =
    let l : length bs ≡ register_length = eqb-true (length bs) register_length (and_l (eqb (length bs) register_length) (all_zero bs) e) in
    zeros_are bs register_length l (and_r (eqb (length bs) register_length) (all_zero bs) e)

error_not : {why : NotRun} → ◌≡◌ {A = Result (Unit {0}) NotRun} (Err why) (Ok tt) → ⊥
error_not e = cc

module _ (calendar : List ℕ) (calls : List Call) (register numbers : List ℕ) where
  pub left-not-empty : is_empty register ≡ false → Left calendar calls register numbers register numbers (Err NotEmpty)
  unfolding outcome_of
  left-not-empty e = record {
    outcome_is = rw e;
    done = λ d. absurd (error_not d);
    claim = λ d. absurd (error_not d);
    refused = λ n. (refl, refl);
  }

  module _ (e : is_empty register ≡ true) where
    pub left_lengths : (length numbers ≡ length calls → ⊥) → Left calendar calls register numbers register numbers (Err Lengths)
    unfolding outcome_of
    left_lengths n = record {
      outcome_is = rw (e, ne_eqb (length numbers) (length calls) n);
      done = λ d. absurd (error_not d);
      claim = λ d. absurd (error_not d);
      refused = λ n. (refl, refl);
    }

    pub left-done : (after numbers_after : List ℕ) → length numbers ≡ length calls
        → after ≡ final_at (rules calendar) calls register
        → numbers_after ≡ numbers_at (rules calendar) calls register
        → Left calendar calls register numbers after numbers_after (Ok tt)
    unfolding outcome_of
    left-done after numbers_after l a n = record {
      outcome_is = rw (e, eq-eqb (length numbers) (length calls) l);
      done = λ d. (a, n);
      claim = λ d. rw (a, n, empty_is register e) (closing calendar calls);
      refused = λ d. absurd (d refl);
    }

empty_is-empty : is_empty empty_register ≡ true
unfolding is_empty
empty_is-empty =
    let l : length empty_register ≡ register_length = length-replicate {A = ℕ} register_length 0 in
    and_i (eq-eqb (length empty_register) register_length l) (zeros_zero register_length)

-- calls are run: all lists of them, from the empty register, where each has a place for its number
pub all_run : (calls : List Call) (numbers : List ℕ) → length numbers ≡ length calls → outcome_of calls empty_register numbers ≡ Ok tt
unfolding outcome_of
all_run calls numbers l = rw (empty_is-empty, eq-eqb (length numbers) (length calls) l)

-- ---- of a journal: what one that is well kept has
pub record Kept (kinds counts : List ℕ) (pool : List (List ℕ)) (numbers : List ℕ) : Type 0 where
  pub counted : length counts ≡ length kinds
  pub places : length numbers ≡ length kinds
  pub calls : all_calls kinds counts pool ≡ true

pub kept : (kinds counts : List ℕ) (pool : List (List ℕ)) (numbers : List ℕ) → well_kept kinds counts pool numbers ≡ true → Kept kinds counts pool numbers
unfolding well_kept
kept kinds counts pool numbers w =
    let rest = and_r (eqb (length counts) (length kinds)) _ w in
    record {
      counted = eqb-true (length counts) (length kinds) (and_l (eqb (length counts) (length kinds)) _ w);
      places = eqb-true (length numbers) (length kinds) (and_l (eqb (length numbers) (length kinds)) _ rest);
      calls = and_r (eqb (length numbers) (length kinds)) _ rest;
    }

module _ (calendar kinds counts : List ℕ) (pool : List (List ℕ)) (register numbers : List ℕ) where
  pub journal-not-empty : is_empty register ≡ false → JournalLeft calendar kinds counts pool register numbers register numbers (Err NotEmpty)
  unfolding journal_outcome
  journal-not-empty e = record {
    outcome_is = rw e;
    done = λ d. absurd (error_not d);
    claim = λ d. absurd (error_not d);
    refused = λ n. (refl, refl);
  }

  module _ (e : is_empty register ≡ true) where
    pub left_malformed : well_kept kinds counts pool numbers ≡ false → JournalLeft calendar kinds counts pool register numbers register numbers (Err Malformed)
    unfolding journal_outcome
    left_malformed w = record {
      outcome_is = rw (e, w);
      done = λ d. absurd (error_not d);
      claim = λ d. absurd (error_not d);
      refused = λ n. (refl, refl);
    }

    pub journal-done : (after numbers_after : List ℕ) → well_kept kinds counts pool numbers ≡ true
        → after ≡ final_at (rules calendar) (journal kinds counts pool) register
        → numbers_after ≡ numbers_at (rules calendar) (journal kinds counts pool) register
        → JournalLeft calendar kinds counts pool register numbers after numbers_after (Ok tt)
    unfolding journal_outcome
    journal-done after numbers_after w a n = record {
      outcome_is = rw (e, w);
      done = λ d. (a, n);
      claim = λ d. rw (a, n, empty_is register e) (closing calendar (journal kinds counts pool));
      refused = λ d. absurd (d refl);
    }

-- journals are run: three calls of one pair each, whatever their numbers, from the empty register
pub three_run : (d c e f m p x y z : ℕ) →
    let kinds : List ℕ = 0 ∷ 1 ∷ 2 ∷ [] in
    let counts : List ℕ = 1 ∷ 1 ∷ 1 ∷ [] in
    let pool : List (List ℕ) = (d ∷ c ∷ []) ∷ (e ∷ f ∷ []) ∷ (m ∷ p ∷ []) ∷ [] in
    (journal_outcome kinds counts pool empty_register (x ∷ y ∷ z ∷ []) ≡ Ok tt)
    × (journal kinds counts pool ≡ Start d c ∷ Session e f ∷ Announce m p ∷ [])
unfolding journal_outcome well_kept all_calls journal call_then call_of of_one is_call
three_run d c e f m p x y z = (rw empty_is-empty refl, refl)
