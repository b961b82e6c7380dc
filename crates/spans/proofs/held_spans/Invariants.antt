-- What the loops of `spans::held_spans` keep.
-- Assumes nothing.
use Rattle.std.proofs.Common.{◌≡◌, ℕ, List, length, get_or}
use Rattle.layout.specs.Spans.{span_in}
use Rattle.spans.proofs.SpanLaws.{Filled}
use Rattle.spans.proofs.held_spans.Given as goal

abbrev pub pair : List ℕ → List (List ℕ) → List ℕ → ℕ → List ℕ
pair before spans months i = span_in before spans (get_or months i 0)

abbrev pub invariant-loop-i : goal.invariant-loop-i
invariant-loop-i l = record { six : length l.held ≡ 6; so_far : Filled (pair l.fn.before l.fn.spans l.fn.months) l.held l.i }
