-- What the loops of `spans::new_spans` keep.
-- Assumes nothing.
use Rattle.std.proofs.Common.{◌≡◌, [], ℕ, List, map, length, get_or}
use Rattle.layout.specs.Bytes.{place_of}
use Rattle.spans.specs.Spans.{new_pair}
use Rattle.spans.proofs.SpanLaws.{Filled}
use Rattle.spans.proofs.new_spans.Given as goal

abbrev pub pair : List (List ℕ) → List ℕ → List (List ℕ) → List (List ℕ) → ℕ → List ℕ
pair places months held wide i = new_pair (map place_of places) (get_or months i 0) (get_or held i []) (get_or wide i [])

abbrev pub invariant-loop-i : goal.invariant-loop-i
invariant-loop-i l = record { six : length l.spans ≡ 6; so_far : Filled (pair l.places l.fn.months l.fn.held l.fn.wide) l.spans l.i }
