-- What the loops of `spans::with_announced` keep.
-- Assumes nothing.
use Rattle.std.proofs.Common.{◌≡◌, [], ◌∷◌, map, drop}
use Rattle.layout.specs.Bytes.{place_of}
use Rattle.spans.specs.Spans.{announced_pair}
use Rattle.spans.proofs.with_announced.Given as goal

abbrev pub invariant-loop-place : goal.invariant-loop-place
invariant-loop-place l =
    announced_pair (map place_of l.places) l.month (l.initial.low ∷ l.initial.high ∷ []) ≡ announced_pair (map place_of (drop l.place-index l.places)) l.month (l.low ∷ l.high ∷ [])
