-- How a call opens: a refusal by a cause that every call has, tried downwards.
-- Assumes nothing.
use mathlib.Core.Path.{◌≡◌, refl, sym, ap, ◌∙◌}
use mathlib.Core.Bool.{false, cond}
use mathlib.Core.List.{List}
use Prim.Native.Nat.{ℕ}
use native.Mathlib.Omega.{arith}
use lib.Dec.{eqb}
use lib.ListN.{length, get_or}
use Rattle.base.specs.Numbers.{number_of, month_of}
use Rattle.base.specs.declared.causes.Cause.{Cause}
use Rattle.base.specs.declared.causes.Cause.TheVariants.{RegisterLength, RegisterForm}
use Rattle.base.proofs.NumberLaws.{number-from}
use Rattle.base.proofs.Tests.{by_bool}
use Rattle.std.specs.Prelude.{Ok, Err}
use Rattle.calendar.specs.Calendar.{calendar_cause, first_lacking, check_of, checked_of, Passes}
use Rattle.calendar.specs.declared.Checked.{Checked}
use Rattle.rules.specs.Rulebook.{rules}
use Rattle.layout.specs.Bytes.{register_length, all_zero}
use Rattle.layout.specs.Opening.{Refused}
use Rattle.layout.specs.Spans.{runs_well}
use Rattle.layout.proofs.OpeningLaws.{says_calendar, says_14, says_15, zero-status, no-status, stands_else}

module _ (cal bs : List ℕ) where
  -- the calendar's check, in numbers
  pub passes-checked : checked_of {A = ℕ} (Ok 0) ≡ check_of cal → Passes cal
  unfolding check_of
  passes-checked e = sym (ap (λ (x : Checked). x.number) e)

  pub refused-calendar : (why : Cause) → checked_of {A = ℕ} (Err why) ≡ check_of cal → (own : ℕ) → Refused cal bs own why
  unfolding rules check_of
  refused-calendar why e own =
      let n : number_of why ≡ calendar_cause cal = ap (λ (x : Checked). x.number) e in
      let m : month_of why ≡ cond (eqb (calendar_cause cal) 13) (first_lacking cal) 0 = ap (λ (x : Checked). x.month) e in
      record {
        says = says_calendar (rules cal) bs own (λ z. omega (arith, number-from why, n, z)) ∙ sym n;
        month = rw n m;
      }

  module _ (p : Passes cal) where
    pub refused-length : (length bs ≡ register_length → ⊥) → (own : ℕ) → Refused cal bs own RegisterLength
    unfolding rules
    refused-length h own = record { says = says_14 (rules cal) bs own p h; month = refl }

    module _ (l : length bs ≡ register_length) where
      -- a register with a status that does not run, and one without that is not empty
      pub refused_run : (get_or bs 0 0 ≡ 0 → ⊥) → runs_well cal bs ≡ false → (own : ℕ) → Refused cal bs own RegisterForm
      unfolding rules
      refused_run s w own = record { says = says_15 (rules cal) bs own p l (stands_else cal bs (some-status s) ∙ w); month = refl }
        where
          some-status : (get_or bs 0 0 ≡ 0 → ⊥) → all_zero bs ≡ false
          some-status s = by_bool (all_zero bs) (λ z. absurd (s (zero-status bs z))) (λ z. z)

      pub refused-zero : get_or bs 0 0 ≡ 0 → all_zero bs ≡ false → (own : ℕ) → Refused cal bs own RegisterForm
      unfolding rules
      refused-zero s z own = record { says = says_15 (rules cal) bs own p l (no-status cal bs z s); month = refl }
