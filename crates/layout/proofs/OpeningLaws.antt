-- How a call opens: the causes that every call tries first, one after the other, and the two ways on from them.
-- Assumes nothing.
use mathlib.Core.Path.{◌≡◌, refl, sym, ap, ◌∙◌}
use mathlib.Core.Bool.{true, false, not}
use mathlib.Core.List.{List, [], ◌∷◌}
use Prim.Native.Nat.{ℕ}
use native.Mathlib.Omega.{arith}
use lib.Dec.{eqb}
use lib.ListN.{length, get_or}
use borrow.Author.Tests.{eqb-true, eq-eqb, ne_eqb, not-true, not-false}
use Rattle.base.specs.Causes.{cause, first_cause}
use Rattle.base.specs.Numbers.{number_of}
use Rattle.base.specs.declared.causes.Cause.{Cause}
use Rattle.base.proofs.NumberLaws.{month-beside}
use Rattle.base.proofs.Tests.{and_l, and_r}
use Rattle.base.proofs.CauseLaws.{none_of, not-cause, decides, goes_on, alone, caused, passed}
use Rattle.calendar.specs.Calendar.{Passes}
use Rattle.rules.specs.Rules.{Rules}
use Rattle.rules.specs.Rulebook.{rules}
use Rattle.layout.specs.Register.{Reg, empty, running}
use Rattle.layout.specs.Bytes.{register_length, body_bytes, bytes_of, body_of, all_zero, reg_of, same_bytes, in_layout}
use Rattle.layout.specs.Opening.{empty_or_well, stands, opened, Refused, Reads}
use Rattle.layout.specs.Spans.{runs_well}
use Rattle.layout.proofs.ByteLaws.{same_self, zeros_are}

-- ---- the number of a call, by the causes that hold
module _ (R : Rules) (bs : List ℕ) (own : ℕ) where
  pub says_calendar : (R.calendar_cause ≡ 0 → ⊥) → opened R bs own ≡ R.calendar_cause
  unfolding opened
  says_calendar h = decides R.calendar_cause _ h

  module _ (p : R.calendar_cause ≡ 0) where
    pub says_14 : (length bs ≡ register_length → ⊥) → opened R bs own ≡ 14
    unfolding opened
    says_14 h = goes_on R.calendar_cause _ p ∙ caused (not (eqb (length bs) register_length)) 13 _ (ap not (ne_eqb (length bs) register_length h))

    module _ (l : length bs ≡ register_length) where
      says : opened R bs own ≡ first_cause (cause (not (stands R bs)) 15 ∷ own ∷ [])
      unfolding opened
      says = goes_on R.calendar_cause _ p ∙ passed (not (eqb (length bs) register_length)) 14 _ (ap not (eq-eqb (length bs) register_length l))

      pub says_15 : stands R bs ≡ false → opened R bs own ≡ 15
      says_15 h = says ∙ caused (not (stands R bs)) 14 _ (ap not h)

      pub says_own : stands R bs ≡ true → opened R bs own ≡ own
      says_own h = says ∙ passed (not (stands R bs)) 15 _ (ap not h) ∙ alone own

  -- an accepted call has none of them, nor one of its own
  pub none-opened : opened R bs own ≡ 0 → (R.calendar_cause ≡ 0) × (length bs ≡ register_length) × (stands R bs ≡ true) × (own ≡ 0)
  unfolding opened
  none-opened h =
      let z = none_of _ _ h in
      let y = none_of _ _ z.1 in
      let x = none_of _ _ y.1 in (
        z.0,
        eqb-true (length bs) register_length (not-false _ (not-cause (not (eqb (length bs) register_length)) 13 y.0)),
        not-false _ (not-cause (not (stands R bs)) 14 x.0),
        (none_of _ _ x.1).0,
      )

-- ---- a call that reads the register
-- has the number that is its own
module _ (cal bs : List ℕ) (r : Reg) (x : Reads cal bs r) (own : Reg → ℕ) where
  pub reads_own : opened (rules cal) bs (own (reg_of bs)) ≡ own r
  unfolding rules
  reads_own = says_own (rules cal) bs (own (reg_of bs)) x.passes x.size x.stood ∙ ap own x.reg_is

  pub refused_own : (why : Cause) → number_of why ≡ own r → (number_of why ≡ 13 → ⊥) → Refused cal bs (own (reg_of bs)) why
  refused_own why e t = record { says = reads_own ∙ sym e; month = rw (ne_eqb (number_of why) 13 t) (month-beside why t) }

-- ---- which registers stand
-- bytes that begin with 0 are not those of a running register
not_one : (bs rest : List ℕ) → get_or bs 0 0 ≡ 0 → same_bytes bs (1 ∷ rest) ≡ false
unfolding same_bytes
not_one [] rest e = refl
not_one (y ∷ ys) rest e = rw (ne_eqb y 1 (λ q. omega arith))

pub zero-status : (bs : List ℕ) → all_zero bs ≡ true → get_or bs 0 0 ≡ 0
unfolding all_zero
zero-status [] h = refl
zero-status (x ∷ xs) h = eqb-true x 0 (and_l (eqb x 0) _ h)

module _ (cal bs : List ℕ) where
  pub no-status : all_zero bs ≡ false → get_or bs 0 0 ≡ 0 → stands (rules cal) bs ≡ false
  unfolding stands in_layout reg_of bytes_of body_bytes
  no-status z e = rw (z, not_one bs _ e)

  pub stands_else : all_zero bs ≡ false → stands (rules cal) bs ≡ runs_well cal bs
  unfolding runs_well
  stands_else z = rw z

  module _ (p : Passes cal) (l : length bs ≡ register_length) where
    pub reads-empty : all_zero bs ≡ true → Reads cal bs empty
    unfolding stands in_layout reg_of bytes_of empty_or_well
    reads-empty z = record { passes = p; size = l; stood = rw (z, ← zeros_are bs register_length l z) (rw (same_self bs)); reg_is = rw z }

    pub reads-running : runs_well cal bs ≡ true → Reads cal bs (running (body_of bs))
    unfolding runs_well reg_of
    reads-running h = record {
      passes = p;
      size = l;
      stood = and_r (not (all_zero bs)) _ h;
      reg_is = rw (not-true (all_zero bs) (and_l (not (all_zero bs)) _ h));
    }
