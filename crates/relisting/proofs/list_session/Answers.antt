-- `relisting::list_session` meets its contract: each thing that the code takes up is what Sessions calls by the same name.
-- Assumes nothing.
use Rattle.std.proofs.Common.{◌≡◌, sym, ◌∙◌, refl, map, drop, get_or, arith}
use Rattle.std.proofs.lemmas.Slice.Eq.{slice_eq-Decides}
use Rattle.std.proofs.lemmas.Bool.Decides.{Decides-eqb}
use borrow.Author.Tests.{eqb-true}
use Rattle.calendar.specs.Live.{live_months}
use Rattle.rules.specs.Rulebook.{moved, first_at}
use Rattle.rules.proofs.RulebookLaws.{first_is}
use Rattle.layout.specs.Bytes.{places_from, place_of, read_places, moment_of, body_of}
use Rattle.layout.proofs.Chunks.{places_chunked}
use Rattle.layout.proofs.Running.{runs}
use Rattle.register.proofs.Well.{run_keeps}
use Rattle.relisting.specs.Writing.{Taken}
use Rattle.relisting.proofs.Starts.{taken_i}
use Rattle.relisting.proofs.Sessions.{TakenUp, up_ready, up-order, up-within, up_relisted, up-count, up_head}
use Rattle.relisting.proofs.list_session.Goals.{After-new_spans-new}
use Rattle.relisting.proofs.list_session.Goals as goal

first : (c : After-new_spans-new) → c.args.listing.live.first ≡ first_at c.args.listing.calendar.bytes.now (moved (moment_of c.args.register.now) c.args.listing.day)
unfolding moved
first c = c.args.listing.months ∙ first_is c.args.listing.calendar.bytes.now (moved (moment_of c.args.register.now) c.args.listing.day)

taken : (c : After-new_spans-new) → Taken c.args.listing.calendar.bytes.now (moved (moment_of c.args.register.now) c.args.listing.day) c.args.listing.close.hundredths
taken c =
    let l = c.args.listing in
    taken_i l.calendar.bytes.now (moved (moment_of c.args.register.now) l.day) l.live l.close l.calendar.passes (first c)

-- what the code takes up is taken up
up : (c : After-new_spans-new) →
    let bs = c.args.register.now in
    let old = c.args.before in
    let l = c.args.listing in
    let r = c.requires.found.runs in
    TakenUp l.calendar.bytes.now bs l.day l.close.hundredths r.reads.size (runs l.calendar.bytes.now bs r.well) (taken c) c.requires.next old.spans old.live.first l.live.first
    c.months-months.result c.months.result c.held_spans-held.result c.close_spans-wide.result c.new_spans-new.result
unfolding body_of
up c =
    let bs = c.args.register.now in
    let found = c.requires.found in
    let places : map place_of c.places-places.result.now ≡ read_places (get_or bs 1 0) (drop places_from bs) =
    rw (c.places-places.ensures.bytes, c.from-waiting.ensures) (places_chunked (get_or bs 1 0) (drop places_from bs)) in
    record {
      spans_are = found.runs.spans_are;
      before_is = found.first_is;
      first_is = first c;
      months_are = c.months-months.ensures;
      olds_are = c.months.ensures;
      held_are = c.held_spans-held.ensures;
      wide_are = c.close_spans-wide.ensures;
      new_are = rw places at c.new_spans-new.ensures;
    }

pub close_spans-wide-requires : goal.close_spans-wide-requires
unfolding live_months
close_spans-wide-requires c = rw c.months-months.ensures (omega (arith, c.args.listing.live.latest))

pub returns-then-eq-2 : goal.returns-then-eq-2
unfolding body_of
returns-then-eq-2 c =
    let k = up (goal.at.returns-then-eq-2 c).After-new_spans-new in
    let same = (slice_eq-Decides (λ s t. slice_eq-Decides Decides-eqb s t _ refl) c.held_spans-held.result c.new_spans-new.result c.eq-then-eq.result c.eq-then-eq.ensures).0 c.if-eq-2.true in
    let x = up_head k c.word-rows.ensures (eqb-true _ _ (sym c.eq.ensures ∙ c.if-eq.true)) same c.write_head.ensures in
    record { value = x.0; register_after = x.1 }

pub invariant_of-plans : goal.invariant_of-plans
invariant_of-plans c = record { ready = up_ready (up (goal.at.invariant_of-plans c).After-new_spans-new) }

pub dropped_rows-dropped-requires : goal.dropped_rows-dropped-requires
dropped_rows-dropped-requires c = up-order (up (goal.at.dropped_rows-dropped-requires c).After-new_spans-new)

pub relist-count-requires : goal.relist-count-requires
relist-count-requires c =
    let r = c.requires.found.runs in
    let k = up (goal.at.relist-count-requires c).After-new_spans-new in (
      up-within k c.word-rows.ensures c.dropped_rows-dropped.ensures,
      omega (arith, c.word-rows.ensures, (run_keeps c.args.listing.calendar.bytes.now c.args.register.now r.reads.size (runs c.args.listing.calendar.bytes.now c.args.register.now r.well)).count),
    )

pub overflow_add-result : goal.overflow_add-result
overflow_add-result c =
    let r = c.requires.found.runs in
    let k = up (goal.at.overflow_add-result c).After-new_spans-new in
    omega (
      arith,
      up-count k c.word-rows.ensures c.dropped_rows-dropped.ensures c.relist-count.ensures.value,
      up-within k c.word-rows.ensures c.dropped_rows-dropped.ensures,
      c.word-rows.ensures,
      (run_keeps c.args.listing.calendar.bytes.now c.args.register.now r.reads.size (runs c.args.listing.calendar.bytes.now c.args.register.now r.well)).count,
    )

pub overflow_sub-result : goal.overflow_sub-result
overflow_sub-result c =
    let k = up (goal.at.overflow_sub-result c).After-new_spans-new in
    (up_relisted k c.word-rows.ensures c.dropped_rows-dropped.ensures c.relist-count.ensures.value c.relist-count.ensures.register_after).0

pub returns : goal.returns
unfolding body_of
returns c =
    let k = up (goal.at.returns c).After-new_spans-new in
    let x = up_relisted k c.word-rows.ensures c.dropped_rows-dropped.ensures c.relist-count.ensures.value c.relist-count.ensures.register_after in
    record { value = x.1; register_after = x.2 }
