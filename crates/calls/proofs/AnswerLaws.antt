-- What a call tells and leaves, by the way in which it opens.
-- Assumes nothing.
use mathlib.Core.Path.{◌≡◌, refl, ap, ◌∙◌}
use mathlib.Core.Bool.{Bool, true, false, true≢false, false≢true}
use mathlib.Core.List.{List, [], ◌∷◌}
use Prim.Native.Nat.{ℕ}
use native.Mathlib.Omega.{arith}
use lib.Dec.{eqb}
use lib.ListN.{length}
use Rattle.std.specs.Prelude.{Result, Ok, Err, is_ok, MatchResult}
use borrow.Author.Tests.{ne_eqb}
use Rattle.base.specs.Lists.{within}
use Rattle.base.specs.Causes.{cause, first_cause}
use Rattle.base.specs.Numbers.{number_of, month_of, number_in}
use Rattle.base.specs.declared.causes.Cause.{Cause}
use Rattle.base.proofs.NumberLaws.{number-from}
use Rattle.base.proofs.Tests.{by_bool}
use Rattle.rules.specs.Rules.{Rules}
use Rattle.rules.specs.Rulebook.{rules}
use Rattle.layout.specs.Register.{Reg, empty, running, announce_causes}
use Rattle.layout.specs.Bytes.{bytes_of, reg_of}
use Rattle.layout.specs.Opening.{Refused, Reads}
use Rattle.layout.proofs.OpeningLaws.{reads_own, refused_own}
use Rattle.calls.specs.declared.Call.{Call}
use Rattle.calls.specs.declared.Call.TheVariants.{Start, Session, Announce}
use Rattle.calls.specs.Listing.{number, accepted}
use Rattle.calls.specs.Answers.{number_at, after_at, rows_held, added, removed, beside, listed_at, told_at}
use Rattle.calls.specs.Results.{listed_of, told_of}
use Rattle.calls.specs.declared.Totals.{Totals}

-- ---- a call's own number is 0 or a cause from 16 on: 11 to 15 are what every call opens with
abbrev Own : ℕ → Type 0
Own n = within 1 15 n ≡ false

none : Own (first_cause [])
unfolding first_cause within
none = refl

first : (n : ℕ) (ns : List ℕ) → Own n → Own (first_cause ns) → Own (first_cause (n ∷ ns))
unfolding first_cause
first n ns a b = by_bool (eqb n 0) (λ e. rw e b) (λ e. rw e a)

held : (b : Bool) (n : ℕ) (ns : List ℕ) → Own n → Own (first_cause ns) → Own (first_cause (cause b n ∷ ns))
unfolding cause within
held true n ns a r = first n ns a r
held false n ns a r = first 0 ns refl r

own-number : (R : Rules) (k : Call) (r : Reg) → Own (number R k r)
unfolding number announce_causes within
own-number R (Start d c) empty = held _ _ _ refl (held _ _ _ refl (held _ _ _ refl none))
own-number R (Start d c) (running b) = refl
own-number R (Session d c) empty = refl
own-number R (Session d c) (running b) = held _ _ _ refl (held _ _ _ refl (held _ _ _ refl none))
own-number R (Announce m p) empty = refl
own-number R (Announce m p) (running b) = first _ _ (held _ _ _ refl (held _ _ _ refl (held _ _ _ refl (held _ _ _ refl none)))) (held _ _ _ refl none)

module _ (cal bs : List ℕ) (k : Call) where
  -- ---- a refusal tells its number, zeros and beside 13 the month, and leaves the bytes as they are
  module _ {why : Cause} (x : Refused cal bs (number (rules cal) k (reg_of bs)) why) where
    some : number_of why ≡ 0 → ⊥
    some z = omega (arith, number-from why)

    left : bs ≡ after_at (rules cal) k bs
    unfolding after_at number_at
    left = rw (x.says, ne_eqb (number_of why) 0 some)

    value : (v : ℕ) → month_of why ≡ beside cal (number_at (rules cal) k bs) v
    unfolding number_at
    value v = rw (x.says, ne_eqb (number_of why) 0 some) x.month

    pub refused-listed : (listed_of (Err why) ≡ listed_at cal k bs) × (bs ≡ after_at (rules cal) k bs)
    unfolding listed_at number_at
    refused-listed = (rw (← value (added (accepted (rules cal) k (reg_of bs))), x.says, ne_eqb (number_of why) 0 some), left)

    pub refused-told : (v : ℕ) → (told_of (Err why) ≡ told_at cal (number_at (rules cal) k bs) v) × (bs ≡ after_at (rules cal) k bs)
    unfolding told_at number_at
    refused-told v = (rw (← value v, x.says), left)

  -- ---- a call that reads the register
  module _ (r : Reg) (x : Reads cal bs r) where
    -- is refused by a cause of its own
    pub own-refused : (why : Cause) → number_of why ≡ number (rules cal) k r → Refused cal bs (number (rules cal) k (reg_of bs)) why
    unfolding within
    own-refused why e =
        refused_own cal bs r x (number (rules cal) k) why e (λ q. true≢false (rw (← e, q) at (own-number (rules cal) k r)))

    -- or accepted
    module _ (e : number (rules cal) k r ≡ 0) where
      zero : number_at (rules cal) k bs ≡ 0
      unfolding number_at
      zero = reads_own cal bs r x (number (rules cal) k) ∙ e

      pub accepted-listed : (t : Totals) (out : List ℕ) → let new = accepted (rules cal) k r in
          t ≡ record { added = added new; removed = removed (rules cal) r new; rows = length (rows_held new) } → out ≡ bytes_of new
          → (listed_of (Ok t) ≡ listed_at cal k bs) × (out ≡ after_at (rules cal) k bs)
      unfolding listed_at after_at
      accepted-listed t out a o = (rw (zero, x.reg_is, a), rw (zero, x.reg_is) o)

      -- the value may be one of the register before the call as well as of that after it
      pub accepted-told : (value : Reg → ℕ) (v : ℕ) (out : List ℕ)
          → v ≡ value r → out ≡ bytes_of (accepted (rules cal) k r)
          → (told_of (Ok v) ≡ told_at cal (number_at (rules cal) k bs) (value (reg_of bs))) × (out ≡ after_at (rules cal) k bs)
      unfolding told_at after_at
      accepted-told value v out a o = (rw (zero, x.reg_is, a), rw (zero, x.reg_is) o)

-- ---- a result whose value is mapped has the number that it had
pub mapped-number : {A B : Type 0} (r : Result A Cause) (s : Result B Cause) (P : A → Type 0)
    → MatchResult r P (λ why. s ≡ Err why) → is_ok s ≡ is_ok r → number_in s ≡ number_in r
mapped-number (Ok x) (Ok y) P m k = refl
mapped-number (Ok x) (Err why) P m k = absurd (false≢true k)
mapped-number (Err why) s P m k = ap number_in m
