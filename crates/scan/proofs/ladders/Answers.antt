-- `scan::ladders` meets its contract. The loop keeps an equation: the months left, on the rows left and beside the spans found, give what
-- all months give on all rows.
-- Assumes nothing.
use Rattle.std.proofs.Common.{◌≡◌, sym, ◌∙◌, [], ◌∷◌, ◌≤◌, refl, map, take, drop, length, get_or, length-set, arith}
use Rattle.std.proofs.lemmas.List.{take_more_set, take_all, drop_all}
use Rattle.calendar.specs.Live.{tier_of}
use Rattle.scan.specs.Scan.{scanned, ladder_rows, ladder_spans}
use Rattle.scan.proofs.Steps.{six_months, some-rows, no-rows, within_rest, spans_stop, spans-more, spans_end}
use Rattle.scan.proofs.ladders.Goals.{In_ok-n}
use Rattle.scan.proofs.ladders.Goals as goal

found : (c : In_ok-n) →
    let a = c.args in
    let m = get_or c.months-months.result c.loop-i.i 0 in
    (c.in_ok-n.n ≡ ladder_rows a.day m (tier_of a.live.first m) (map scanned c.loop-i.rest.now)) × (c.in_ok-n.n ≡ 0 → ⊥)
found c =
    let e = rw c.tier.ensures at c.in_ok-n.ensures in
    let r = some-rows _ _ e in
    (r.0, λ z. r.1 (sym r.0 ∙ z))

fits : (c : In_ok-n) → c.in_ok-n.n ≤ length c.loop-i.rest.now
fits c =
    let a = c.args in
    let l = c.loop-i in
    let v = c.months-months in
    within_rest a.day a.live.first (take l.i l.spans) v.result l.i (omega (arith, six_months _ _ v.ensures)) l.rest.now _ (found c).0

pub returns-in_err-n : goal.returns-in_err-n
returns-in_err-n c =
    let a = c.args in
    let l = c.loop-i in
    let v = c.months-months in
    let e = no-rows _ (rw c.tier.ensures at c.in_err-n.ensures) in
    c.from_residual.ensures
    ∙ sym (rw v.ensures at (l.invariant.passed ∙ spans_stop a.day a.live.first (take l.i l.spans) v.result l.i (omega (arith, six_months _ _ v.ensures)) l.rest.now 0 (sym e) refl))

pub price_at-requires : goal.price_at-requires
price_at-requires c = let f = found (goal.at.price_at-requires c).In_ok-n in omega (arith, f.1, fits (goal.at.price_at-requires c).In_ok-n)

pub price_at-requires-in-loop-i : goal.price_at-requires-in-loop-i
price_at-requires-in-loop-i c = let f = found (goal.at.price_at-requires-in-loop-i c).In_ok-n in omega (arith, f.1, fits (goal.at.price_at-requires-in-loop-i c).In_ok-n)

pub split_at-requires : goal.split_at-requires
split_at-requires c = fits (goal.at.split_at-requires c).In_ok-n

pub loop-i-preserved : goal.loop-i-preserved
loop-i-preserved c =
    let a = c.args in
    let l = c.loop-i in
    let v = c.months-months in
    let f = found (goal.at.loop-i-preserved c).In_ok-n in
    let e = spans-more a.day a.live.first (take l.i l.spans) v.result l.i (omega (arith, six_months _ _ v.ensures)) l.rest.now _ f.0 f.1 in
    let t = take_more_set l.spans l.i (c.price_at.result ∷ c.price_at-in-loop-i.result ∷ []) (omega arith) in
    record {
      six = simp length-set l.invariant.six;
      passed = l.invariant.passed ∙ e ∙ rw (t, c.price_at.ensures, c.price_at-in-loop-i.ensures, c.split_at.ensures.back);
    }

pub returns : goal.returns
returns c =
    let a = c.args in
    let l = c.loop-i in
    let v = c.months-months in
    let n = six_months _ _ v.ensures in
    let none_left : drop l.i v.result ≡ [] = drop_all l.i v.result (omega arith) in
    let all : take l.i l.spans ≡ l.spans = take_all l.i l.spans (omega arith) in
    let p : ladder_spans a.day a.live.first [] v.result (map scanned a.rows.now) ≡ ladder_spans a.day a.live.first l.spans [] (map scanned l.rest.now) = l.invariant.passed ∙ rw (none_left, all) in
    rw (c.then_some.ensures, c.is_empty.ensures) (spans_end a.day a.live.first l.spans l.rest.now ∙ sym (rw v.ensures at p))
