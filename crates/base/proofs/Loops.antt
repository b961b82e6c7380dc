-- A loop over n things, k bytes each, from a byte on.
-- Assumes nothing.
use mathlib.Core.Path.{◌≡◌}
use Prim.Native.Nat.{ℕ, ◌+◌, ◌-◌, ◌*◌}
use native.Mathlib.Nat.{mul-add, mul-zero}
use native.Mathlib.Omega.{arith}

-- ---- a loop over n things, k bytes each, from a byte on: what is left at its start, and after one more
pub start_of : {X : Type 0} (F : ℕ → ℕ → X) (k n at : ℕ) → F n at ≡ F (n - 0) (at + k * 0)
start_of F k n at = let e : n - 0 ≡ n = omega arith in let f : at + k * 0 ≡ at = omega (arith, mul-zero k) in rw (e, f)

pub next_of : {X : Type 0} (F : ℕ → ℕ → X) (k n at i : ℕ) → F (n - i - 1) (at + k * i + k) ≡ F (n - (i + 1)) (at + k * (i + 1))
next_of F k n at i =
    let e : n - i - 1 ≡ n - (i + 1) = omega arith in
    let f : at + k * i + k ≡ at + k * (i + 1) = omega (arith, mul-add k i 1) in
    rw (e, f)
