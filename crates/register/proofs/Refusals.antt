-- The causes of an announcement by numbers, tried downwards.
-- Assumes nothing.
use mathlib.Core.Path.{◌≡◌, refl}
use mathlib.Core.Bool.{Bool, true, false, false≢true, true≢false}
use mathlib.Core.List.{List}
use Prim.Native.Nat.{ℕ, ◌≤◌, ◌<◌}
use native.Mathlib.Omega.{arith}
use Rattle.std.specs.Prelude.{Result, Ok, Err, is_err}
use Rattle.base.specs.Numbers.{number_in}
use Rattle.base.specs.declared.causes.Cause.{Cause}
use Rattle.base.proofs.NumberLaws.{number-from}
use lib.ListN.{get_or}
use borrow.Author.Tests.{lt-ltb, le-ltb}
use Rattle.base.specs.Lists.{elem, within}
use Rattle.base.specs.Causes.{cause, first_cause}
use Rattle.base.proofs.Tests.{or_r}
use Rattle.calendar.specs.Live.{live_months, tier_of}
use Rattle.grid.specs.Grid.{grid_of}
use Rattle.rules.specs.Rules.{last_first_month}
use Rattle.register.specs.Check.{causes_at}

-- an error has a number
module _ {A : Type 0} where
  pub error-some : (r : Result A Cause) → is_err r ≡ true → number_in r ≡ 0 → ⊥
  error-some (Ok x) h z = absurd (false≢true h)
  error-some (Err why) h z = omega (arith, number-from why)

  pub error_none : (r : Result A Cause) → is_err r ≡ false → number_in r ≡ 0
  error_none (Ok x) h = refl
  error_none (Err why) h = absurd (true≢false h)

module _ (first next : ℕ) (span : List ℕ) (waits : Bool) (m p : ℕ) where
  pub late : last_first_month < next → causes_at first next span waits m p ≡ 20
  unfolding causes_at cause first_cause
  late h = rw (lt-ltb last_first_month next h)

  module _ (l : next ≤ last_first_month) where
    pub not_live : elem m (live_months first) ≡ false → causes_at first next span waits m p ≡ 22
    unfolding causes_at cause first_cause
    not_live e = rw (le-ltb last_first_month next l, e)

    module _ (e : elem m (live_months first) ≡ true) where
      pub expired : m < next → causes_at first next span waits m p ≡ 22
      unfolding causes_at cause first_cause
      expired h = rw (le-ltb last_first_month next l, e, lt-ltb m next h)

      module _ (h : next ≤ m) where
        pub off-grid : elem p (grid_of (tier_of next m)) ≡ false → causes_at first next span waits m p ≡ 23
        unfolding causes_at cause first_cause
        off-grid g = rw (le-ltb last_first_month next l, e, le-ltb m next h, g)

        module _ (g : elem p (grid_of (tier_of next m)) ≡ true) where
          pub waiting : waits ≡ true → causes_at first next span waits m p ≡ 24
          unfolding causes_at cause first_cause
          waiting w = rw (le-ltb last_first_month next l, e, le-ltb m next h, g, or_r (within (get_or span 0 0) (get_or span 1 0) p) waits w)

          pub inside : within (get_or span 0 0) (get_or span 1 0) p ≡ true → causes_at first next span waits m p ≡ 24
          unfolding causes_at cause first_cause
          inside a = rw (le-ltb last_first_month next l, e, le-ltb m next h, g, a)

          pub outside : waits ≡ false → within (get_or span 0 0) (get_or span 1 0) p ≡ false → causes_at first next span waits m p ≡ 0
          unfolding causes_at cause first_cause
          outside w a = rw (le-ltb last_first_month next l, e, le-ltb m next h, g, a, w)
