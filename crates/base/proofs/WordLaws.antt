-- A number in two bytes reads back, and stands where it was written.
-- Assumes nothing.
use mathlib.Core.Path.{◌≡◌, refl, sym}
use mathlib.Core.List.{List, ◌++◌, ◌∷◌}
use Prim.Native.Nat.{ℕ, suc, ◌+◌, ◌*◌, ◌/◌, ◌%◌, ◌<◌, ◌≤◌}
use native.Mathlib.Nat.{add-suc}
use native.Mathlib.Omega.{arith}
use lib.ListN.{drop, length, get_or}
use lib.Seq.{get_or-drop, drop-cons}
use Rattle.base.specs.Words.{two, at16}

pub word_back : (n : ℕ) → n < 65536 → n % 256 + 256 * (n / 256) ≡ n
word_back n h = omega arith

-- read behind some bytes
pub at16-drop : (bs : List ℕ) (a k : ℕ) → at16 (drop a bs) k ≡ at16 bs (a + k)
unfolding at16
at16-drop bs a k = rw (get_or-drop a bs k 0, get_or-drop a bs (suc k) 0, add-suc a k)

pub two-append : (n : ℕ) (xs ys : List ℕ) → two n xs ++ ys ≡ two n (xs ++ ys)
unfolding two
two-append n xs ys = refl

-- a byte, or a number in two bytes, before what stands behind it
pub one_at : (bs : List ℕ) (at next v : ℕ) → next ≡ suc at → at < length bs → get_or bs at 0 ≡ v → v ∷ drop next bs ≡ drop at bs
one_at bs at next v e h g = rw (e, ← g) (sym (drop-cons bs at 0 h))

pub two_at : (bs : List ℕ) (bytes : (i : ℕ) → get_or bs i 0 < 256) (at next : ℕ) → next ≡ suc (suc at) → next ≤ length bs → two (at16 bs at) (drop next bs) ≡ drop at bs
unfolding two at16
two_at bs bytes at next e h =
    let low : (get_or bs at 0 + 256 * get_or bs (suc at) 0) % 256 ≡ get_or bs at 0 = omega (arith, bytes at) in
    let high : (get_or bs at 0 + 256 * get_or bs (suc at) 0) / 256 ≡ get_or bs (suc at) 0 = omega (arith, bytes at) in
    rw (low, high, e, drop-cons bs at 0 (omega arith), drop-cons bs (suc at) 0 (omega arith))
