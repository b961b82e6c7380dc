-- A journal's calls from a place on, and what one of them did.
-- Assumes nothing.
use mathlib.Core.Path.{◌≡◌, refl, sym, ap, ◌∙◌}
use mathlib.Core.Bool.{Bool, true, false, ◌&&◌, false≢true}
use mathlib.Core.List.{List, [], ◌∷◌}
use Prim.Native.Nat.{ℕ, suc, ◌+◌, ◌≤◌, ◌<◌}
use native.Mathlib.Numerals.{add-one}
use native.Mathlib.Omega.{arith}
use lib.Dec.{eqb, leb}
use lib.ListN.{length, get_or, take, drop, drop_of_length-le}
use lib.Seq.{drop-cons}
use borrow.Author.Tests.{leb-true, lt-leb, le-leb}
use Rattle.std.specs.Prelude.{Option, Some, None, Result, option_map}
use Rattle.base.proofs.Tests.{and_l, and_r, and_no}
use Rattle.base.specs.Numbers.{number_in}
use Rattle.base.specs.declared.causes.Cause.{Cause}
use Rattle.rules.specs.Rulebook.{rules}
use Rattle.calls.specs.declared.Call.{Call}
use Rattle.calls.specs.declared.Answer.{Answer}
use Rattle.calls.specs.Calls.{call_of, is_call}
use Rattle.calls.specs.Results.{answered_of}
use Rattle.calls.specs.Answers.{number_at, after_at, answer_at, called_at, after_called}
use Rattle.replaying.specs.Journal.{call_then, journal, all_calls}
use Rattle.replaying.proofs.Running.{made-number}

-- ---- a journal that fits has a call for each kind
then_length : (o : Option Call) (ks : List Call) → is_call o ≡ true → length (call_then o ks) ≡ suc (length ks)
unfolding call_then is_call
then_length None ks h = absurd (false≢true h)
then_length (Some k) ks h = refl

pub journal_length : (kinds counts : List ℕ) (pool : List (List ℕ)) → all_calls kinds counts pool ≡ true → length (journal kinds counts pool) ≡ length kinds
unfolding all_calls journal
journal_length [] counts pool h = refl
journal_length (k ∷ kinds) [] pool h = absurd (false≢true h)
journal_length (k ∷ kinds) (c ∷ counts) pool h =
    let r = and_r (leb c (length pool)) _ h in
    then_length (call_of k (take c pool)) (journal kinds counts (drop c pool)) (and_l (is_call (call_of k (take c pool))) _ r)
    ∙ ap suc (journal_length kinds counts (drop c pool) (and_r (is_call (call_of k (take c pool))) _ r))

module _ (kinds counts : List ℕ) where
  -- the calls from a place of the kinds on, with the pairs that are left, and whether each is one
  abbrev pub calls_from : ℕ → List (List ℕ) → List Call
  calls_from i rest = journal (drop i kinds) (drop i counts) rest

  abbrev pub fit_from : ℕ → List (List ℕ) → Bool
  fit_from i rest = all_calls (drop i kinds) (drop i counts) rest

  -- the call there, which has n pairs, and what stands behind it
  module _ (i n : ℕ) (rest pairs behind : List (List ℕ)) (l : i < length kinds) (m : i < length counts)
      (e : n ≡ get_or counts i 0) (p : pairs ≡ take n rest) (b : behind ≡ drop n rest) where
    abbrev call : Option Call
    call = call_of (get_or kinds i 0) pairs

    fit-step : fit_from i rest ≡ (leb n (length rest) && (is_call call && fit_from (i + 1) behind))
    unfolding all_calls
    fit-step = rw (p, b, e, drop-cons kinds i 0 l, drop-cons counts i 0 m, add-one)

    calls-more : calls_from i rest ≡ call_then call (calls_from (i + 1) behind)
    unfolding journal
    calls-more = rw (p, b, e, drop-cons kinds i 0 l, drop-cons counts i 0 m, add-one)

    pub fit-short : length rest < n → fit_from i rest ≡ false
    fit-short h = fit-step ∙ rw (lt-leb n (length rest) h)

    pub fit_other : is_call call ≡ false → fit_from i rest ≡ false
    fit_other h = fit-step ∙ rw h (and_no (leb n (length rest)) false refl)

    pub fit-more : n ≤ length rest → is_call call ≡ true → fit_from i rest ≡ fit_from (i + 1) behind
    fit-more h k = fit-step ∙ rw (le-leb n (length rest) h, k)

    -- where all fit
    module _ (h : fit_from i rest ≡ true) where
      all : (leb n (length rest) && (is_call call && fit_from (i + 1) behind)) ≡ true
      all = sym fit-step ∙ h

      pub fits_pool : n ≤ length rest
      fits_pool = leb-true n (length rest) (and_l (leb n (length rest)) _ all)

      pub fits_call : is_call call ≡ true
      fits_call = and_l (is_call call) _ (and_r (leb n (length rest)) _ all)

      pub fits_rest : fit_from (i + 1) behind ≡ true
      fits_rest = and_r (is_call call) _ (and_r (leb n (length rest)) _ all)

  pub fit_end : (i : ℕ) (rest : List (List ℕ)) → length kinds ≤ i → fit_from i rest ≡ eqb (length rest) 0
  unfolding all_calls
  fit_end i rest l = rw (drop_of_length-le kinds l)

-- ---- what a kind with its pairs answered and left, where they are a call
pub record Ran (calendar register after : List ℕ) (o : Option Call) (number : ℕ) : Type 0 where
  pub call : Call
  pub is : o ≡ Some call
  pub number_is : number ≡ number_at (rules calendar) call register
  pub after_is : after ≡ after_at (rules calendar) call register

module _ (calendar register : List ℕ) where
  pub ran : (after : List ℕ) (o : Option Call) (r : Result Answer Cause) → option_map answered_of (Some r) ≡ called_at calendar o register → after ≡ after_called (rules calendar) o register → Ran calendar register after o (number_in r)
  unfolding called_at after_called
  ran after None r a h = let z : ◌≡◌ {A = ℕ} 0 1 = cc in absurd (omega arith)
  ran after (Some k) r a h =
      let e : answered_of r ≡ answer_at calendar k register = cc in
      record { call = k; is = refl; number_is = made-number calendar k register r e; after_is = h }

  pub not_ran {ℓ} : {X : Type ℓ} (o : Option Call) → is_call o ≡ true → option_map answered_of None ≡ called_at calendar o register → X
  unfolding called_at is_call
  not_ran None h e = absurd (false≢true h)
  not_ran (Some k) h e = let z : ◌≡◌ {A = ℕ} 0 1 = cc in absurd (omega arith)

-- ---- a run that has come to a place: the calls of the whole journal from there on are those that the pairs left make
pub record Come (kinds counts : List ℕ) (pool : List (List ℕ)) (i : ℕ) (rest : List (List ℕ)) : Type 0 where
  pub fit : fit_from kinds counts i rest ≡ true
  pub calls : drop i (journal kinds counts pool) ≡ calls_from kinds counts i rest

module _ (kinds counts : List ℕ) (pool : List (List ℕ)) where
  pub come_none : all_calls kinds counts pool ≡ true → Come kinds counts pool 0 pool
  come_none h = record { fit = h; calls = refl }

  -- the call there is the journal's
  module _ (i n : ℕ) (rest pairs behind : List (List ℕ)) (l : i < length kinds) (m : i < length counts)
      (e : n ≡ get_or counts i 0) (p : pairs ≡ take n rest) (b : behind ≡ drop n rest)
      (d call : Call) (c : call_of (get_or kinds i 0) pairs ≡ Some call)
      (w : all_calls kinds counts pool ≡ true) (h : Come kinds counts pool i rest) where
    pub in_journal : i < length (journal kinds counts pool)
    in_journal = rw (journal_length kinds counts pool w) l

    same : get_or (journal kinds counts pool) i d ∷ drop (suc i) (journal kinds counts pool) ≡ call ∷ calls_from kinds counts (i + 1) behind
    unfolding call_then
    same = sym (drop-cons (journal kinds counts pool) i d in_journal) ∙ h.calls ∙ calls-more kinds counts i n rest pairs behind l m e p b ∙ rw c

    pub call_is : get_or (journal kinds counts pool) i d ≡ call
    call_is = let s = same in cc

    behind_is : drop (suc i) (journal kinds counts pool) ≡ calls_from kinds counts (i + 1) behind
    behind_is = let s = same in cc

    pub come_more : Come kinds counts pool (i + 1) behind
    come_more = record { fit = fits_rest kinds counts i n rest pairs behind l m e p b h.fit; calls = rw add-one (rw add-one at behind_is) }
