-- A room of which the first bytes are taken, when more are put behind them.
use Rattle.std.proofs.Common.{arith, ◌≡◌, ◌≤◌, List, ℕ, ◌++◌, length, take, ◌+◌, ◌-◌, min, ap, sym, ◌∙◌}
use Rattle.std.proofs.lemmas.List.{take_min, length-take, length-take-le}
use Rattle.std.proofs.lemmas.Slice.{take-put_mid}
use Rattle.std.proofs.Math.Seq.{take-append-add}
use borrow.Rule.Slice.PartMut.{put_mid}

pub take-put_mid_more : (size k n : ℕ) (room new bs : List ℕ)
    → k ≤ size → length room ≡ size → n ≡ min (size - k) (length bs) → new ≡ take n bs
    → take (k + n) (put_mid k (k + n - k) room new) ≡ take size (take k room ++ bs)
take-put_mid_more size k n room new bs le full count is =
    let bytes : new ≡ take (size - k) bs = is ∙ rw count (take_min (size - k) bs) in
    let many : length new ≡ n = rw (is, length-take n bs, count) (omega arith) in
    let front : length (take k room) ≡ k = length-take-le k room (omega (arith, le, full)) in
    let whole : length (take k room) + (size - k) ≡ size = omega (arith, front, le) in
    take-put_mid k (k + n - k) room new (k + n) (omega (arith, many)) (omega (arith, le, full))
    ∙ ap (λ (x : List ℕ). take k room ++ x) bytes
    ∙ sym (ap (λ (m : ℕ). take m (take k room ++ bs)) (sym whole) ∙ take-append-add (take k room) bs (size - k))
