-- Calls from a place on: what one call more does to the register and the numbers.
-- Assumes nothing.
use mathlib.Core.Path.{◌≡◌, refl, sym, ap, ◌∙◌}
use mathlib.Core.List.{List, ◌∷◌, ◌++◌, append-nil}
use Prim.Native.Nat.{ℕ, ◌+◌, ◌≤◌, ◌<◌}
use native.Mathlib.Numerals.{add-one}
use lib.ListN.{length, get_or, take, drop, set, drop_of_length-le}
use lib.Seq.{take_all, take-suc-set, drop-cons, append_snoc}
use Rattle.std.specs.Prelude.{Result, Ok, Err}
use Rattle.base.specs.Numbers.{number_in}
use Rattle.base.specs.declared.causes.Cause.{Cause}
use Rattle.rules.specs.Rules.{Rules}
use Rattle.rules.specs.Rulebook.{rules}
use Rattle.calls.specs.declared.Call.{Call}
use Rattle.calls.specs.declared.Call.TheVariants.{Start, Session, Announce}
use Rattle.calls.specs.declared.Answer.{Answer}
use Rattle.calls.specs.declared.Answer.TheVariants.{Listed as Totalled, Announced}
use Rattle.calls.specs.Results.{Answered, answered_of}
use Rattle.calls.specs.Answers.{number_at, after_at, listed_at, announced_at, told_at, answer_at}
use Rattle.history.specs.Claim.{final_at, numbers_at}

-- ---- an answer's number is the call's
answer-number : (calendar : List ℕ) (k : Call) (bs : List ℕ) → (answer_at calendar k bs).number ≡ number_at (rules calendar) k bs
unfolding answer_at listed_at announced_at told_at
answer-number calendar (Start d c) bs = refl
answer-number calendar (Session d c) bs = refl
answer-number calendar (Announce m p) bs = refl

result-number : (r : Result Answer Cause) → number_in r ≡ (answered_of r).number
result-number (Ok (Totalled t)) = refl
result-number (Ok (Announced n)) = refl
result-number (Err why) = refl

pub made-number : (calendar : List ℕ) (k : Call) (bs : List ℕ) (r : Result Answer Cause) → answered_of r ≡ answer_at calendar k bs → number_in r ≡ number_at (rules calendar) k bs
made-number calendar k bs r e = result-number r ∙ ap (λ (a : Answered). a.number) e ∙ answer-number calendar k bs

-- ---- a run that has come to a place: what is left of it gives what the whole gives
pub record Behind (R : Rules) (calls : List Call) (from : List ℕ) (i : ℕ) (register numbers : List ℕ) : Type 0 where
  pub register_is : final_at R calls from ≡ final_at R (drop i calls) register
  pub numbers_are : numbers_at R calls from ≡ take i numbers ++ numbers_at R (drop i calls) register

module _ (R : Rules) (calls : List Call) (from : List ℕ) where
  pub behind_none : (numbers : List ℕ) → Behind R calls from 0 from numbers
  behind_none numbers = record { register_is = refl; numbers_are = refl }

  pub behind_more : (i : ℕ) (d : Call) (register numbers after : List ℕ) (number : ℕ)
      → i < length calls → i < length numbers
      → number ≡ number_at R (get_or calls i d) register → after ≡ after_at R (get_or calls i d) register
      → Behind R calls from i register numbers
      → Behind R calls from (i + 1) after (set numbers i number)
  unfolding final_at numbers_at
  behind_more i d register numbers after number l m n a h =
      let more : drop i calls ≡ get_or calls i d ∷ drop (i + 1) calls = drop-cons calls i d l ∙ rw add-one in
      record {
        register_is = h.register_is ∙ rw (more, a);
        numbers_are = h.numbers_are ∙ rw (more, add-one, take-suc-set numbers i number m, append_snoc (take i numbers) number, n, a);
      }

  pub behind_all : (i : ℕ) (register numbers : List ℕ) → length calls ≤ i → length numbers ≡ length calls
      → Behind R calls from i register numbers
      → (register ≡ final_at R calls from) × (numbers ≡ numbers_at R calls from)
  unfolding final_at numbers_at
  behind_all i register numbers l p h =
      let none_left = drop_of_length-le calls {i = i} l in
      (sym (h.register_is ∙ rw none_left), sym (h.numbers_are ∙ rw none_left (append-nil (take i numbers) ∙ take_all i numbers (rw p l))))
