-- What the loops of `spans::close_spans` keep.
-- Assumes nothing.
use Rattle.std.proofs.Common.{◌≡◌, [], ℕ, List, length, get_or}
use Rattle.calendar.specs.Live.{tier_of}
use Rattle.grid.specs.Grid.{required_low, required_high}
use Rattle.spans.specs.Spans.{close_pair}
use Rattle.spans.proofs.SpanLaws.{Filled}
use Rattle.spans.proofs.close_spans.Given as goal

abbrev pub pair : List ℕ → List (List ℕ) → ℕ → ℕ → List ℕ
pair months held close i =
    close_pair (get_or held i []) (required_low (tier_of (get_or months 0 0) (get_or months i 0)) close) (required_high (tier_of (get_or months 0 0) (get_or months i 0)) close)

abbrev pub invariant-loop-i : goal.invariant-loop-i
invariant-loop-i l = record { six : length l.spans ≡ 6; so_far : Filled (pair l.fn.months l.fn.held l.fn.close.hundredths) l.spans l.i }
