-- `spans::with_announced` meets its contract: the span so far takes in what is left to the same span.
-- Assumes nothing.
use Rattle.std.proofs.Common.{sym, ap, ◌∙◌, [], ◌∷◌, ℕ, ◌+◌, List, map, drop, rules}
use Rattle.std.proofs.lemmas.List.{drop_more, drop_all}
use Rattle.layout.specs.Bytes.{place_of}
use Rattle.spans.specs.Spans.{announced_pair}
use Rattle.spans.proofs.SpanLaws.{announced-next, announced_other, announced-none, announced-ends}
use Rattle.spans.proofs.with_announced.Goals.{then-word-month, else-word-month}
use Rattle.spans.proofs.with_announced.Goals as goal

pub loop-place-preserved : goal.loop-place-preserved
loop-place-preserved c =
    let l = c.loop-place in
    let a = c.args in
    let ps : List (List ℕ) = a.places.now in
    let e = l.invariant ∙ ap (λ (xs : List (List ℕ)). announced_pair (map place_of xs) a.month (l.low ∷ l.high ∷ [])) (drop_more ps l.place-index [] c.loop-place-test.true) in
    let ws : List (ℕ × ℕ) = map place_of (drop (l.place-index + 1) ps) in
    elim c.if-word-month.branch [
      | then-word-month w ↦
          rw (w.low-is, w.high-is, w.min-low.ensures, w.max-high.ensures, w.word-price.ensures)
          (e ∙ announced-next ws a.month l.low l.high _ _ (sym c.word.ensures ∙ w.if-word-month.true))
      | else-word-month w ↦
          rw (w.low-is, w.high-is) (e ∙ announced_other ws a.month l.low l.high _ _ (λ q. w.if-word-month.false (c.word.ensures ∙ q)))
    ]

pub returns : goal.returns
returns c =
    let l = c.loop-place in
    let a = c.args in
    let e = ap (λ (xs : List (List ℕ)). announced_pair (map place_of xs) a.month (l.low ∷ l.high ∷ [])) (drop_all l.place-index a.places.now (search rules)) in
    sym (announced-none a.month l.low l.high) ∙ sym (l.invariant ∙ e) ∙ announced-ends (map place_of a.places.now) a.month a.span
