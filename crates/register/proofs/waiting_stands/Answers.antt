-- `register::waiting_stands` meets its contract. The loop keeps an equation: the announcements left stand beside those passed.
-- Assumes nothing.
use Rattle.std.proofs.Common.{◌≡◌, sym, ap, ◌∙◌, ℕ, [], map, ◌++◌, ◌+◌, ◌-◌, length, take, drop, get_or, arith}
use Rattle.std.proofs.lemmas.List.{take_all, length-drop}
use Rattle.base.specs.Lists.{elem}
use Rattle.base.specs.Numbers.{number_in}
use Rattle.base.specs.Words.{at16}
use Rattle.rules.specs.Rulebook.{rules}
use Rattle.layout.specs.Register.{waiting_of, waiting_ok}
use Rattle.layout.specs.Bytes.{place_of, body_of}
use Rattle.layout.proofs.Chunks.{places_chunked}
use Rattle.register.proofs.Refusals.{error-some, error_none}
use Rattle.register.proofs.Waiting.{waits_first, waits_rest, causes_are, beside, left_ok, waiting_end, waiting_stop, waiting-next}
use Rattle.register.proofs.waiting_stands.Goals.{After-places-places, After-refusal, then-waits, else-waits}
use Rattle.register.proofs.waiting_stands.Goals as goal

-- what waits, read place by place
whole : (c : After-places-places) →
    let R = rules c.args.running.calendar.bytes.now in
    let b = body_of c.args.register.now in
    left_ok R b c.places-places.result.now 0 ≡ waiting_ok R b [] b.waiting
unfolding body_of
whole c =
    let R = rules c.args.running.calendar.bytes.now in
    ap (waiting_ok R (body_of c.args.register.now) []) (rw (c.places-places.ensures.bytes, c.from.ensures) (places_chunked _ _))

others : (c : After-refusal) →
    let ps = c.places-places.result.now in
    c.if-waits.beside ≡ elem c.from-price.result (waiting_of c.from-month.result (map place_of (take c.loop-i.i ps) ++ map place_of (drop (c.loop-i.i + 1) ps)))
others c =
    let ps = c.places-places.result.now in
    let n : ℕ = c.loop-i.i + 1 in
    let rest : take (length ps - n) (drop n ps) ≡ drop n ps = take_all (length ps - n) (drop n ps) (simp length-drop (omega arith)) in
    elim c.if-waits.branch [
      | then-waits w ↦ w.beside-is ∙ c.waits.ensures ∙ waits_first _ _ _ _ (sym c.waits.ensures ∙ w.if-waits.true)
      | else-waits w ↦ w.beside-is ∙ w.waits-beside.ensures ∙ rw rest (waits_rest _ _ _ _ (sym c.waits.ensures ∙ w.if-waits.false))
    ]

refused : (c : After-refusal) →
    number_in c.refusal.result ≡ beside (rules c.args.running.calendar.bytes.now) (body_of c.args.register.now) c.places-places.result.now c.loop-i.i
unfolding body_of
refused c =
    let r = c.args.running in
    let ps = c.places-places.result.now in
    let i = c.loop-i.i in
    let p = c.requires.found in
    let e = rw (c.next_first-next.ensures, others c, c.from-month.ensures, c.word.ensures, c.from-price.ensures, c.word-in-loop-i.ensures, p.1, p.0) at c.refusal.ensures in
    e ∙ causes_are r.calendar.bytes.now r.calendar.passes (body_of c.args.register.now) (rw p.0 at r.live.latest) (map place_of (take i ps) ++ map place_of (drop (i + 1) ps)) (at16 (get_or ps i []) 0) (at16 (get_or ps i []) 2)

pub returns-then-is_err : goal.returns-then-is_err
returns-then-is_err c =
    let R = rules c.args.running.calendar.bytes.now in
    let b = body_of c.args.register.now in
    let l = c.loop-i in
    let e = refused (goal.at.returns-then-is_err c).After-refusal in
    sym (sym (whole (goal.at.returns-then-is_err c).After-places-places) ∙ l.invariant
    ∙ waiting_stop R b c.places-places.result.now l.i c.loop-i-test.true (λ q. error-some c.refusal.result (sym c.is_err.ensures.value ∙ c.if-is_err.true) (e ∙ q)))

pub loop-i-preserved : goal.loop-i-preserved
loop-i-preserved c =
    let R = rules c.args.running.calendar.bytes.now in
    let b = body_of c.args.register.now in
    let l = c.loop-i in
    let e = refused (goal.at.loop-i-preserved c).After-refusal in
    l.invariant ∙ waiting-next R b c.places-places.result.now l.i c.loop-i-test.true (sym e ∙ error_none c.refusal.result (sym c.is_err.ensures.value ∙ c.if-is_err.false))

pub returns : goal.returns
returns c =
    let R = rules c.args.running.calendar.bytes.now in
    let b = body_of c.args.register.now in
    let l = c.loop-i in
    sym (sym (whole (goal.at.returns c).After-places-places) ∙ l.invariant ∙ waiting_end R b c.places-places.result.now l.i c.loop-i-test.false)
