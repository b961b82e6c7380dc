-- `relisting::list_start` meets its contract.
-- Assumes nothing.
use Rattle.std.proofs.Common.{◌≡◌, ◌∙◌, arith}
use Rattle.calendar.specs.Live.{live_months}
use Rattle.rules.specs.Rulebook.{begun, first_at}
use Rattle.rules.proofs.RulebookLaws.{first_is}
use Rattle.spans.specs.Spans.{close_spans}
use Rattle.relisting.specs.Writing.{Taken}
use Rattle.relisting.proofs.Starts.{taken_i, none, start_ready, start-done}
use Rattle.relisting.proofs.list_start.Goals.{After-months-months, After-close_spans-spans}
use Rattle.relisting.proofs.list_start.Goals as goal

first : (c : After-months-months) → c.args.listing.live.first ≡ first_at c.args.listing.calendar.bytes.now (begun c.args.listing.day)
unfolding begun
first c = c.args.listing.months ∙ first_is c.args.listing.calendar.bytes.now (begun c.args.listing.day)

taken : (c : After-months-months) → Taken c.args.listing.calendar.bytes.now (begun c.args.listing.day) c.args.listing.close.hundredths
taken c =
    let l = c.args.listing in
    taken_i l.calendar.bytes.now (begun l.day) l.live l.close l.calendar.passes (first c)

months : (c : After-months-months) → c.months-months.result ≡ live_months (first_at c.args.listing.calendar.bytes.now (begun c.args.listing.day))
months c = rw (first c) at c.months-months.ensures

spans : (c : After-close_spans-spans) →
    let l = c.args.listing in
    c.months-months.result ≡ live_months (first_at l.calendar.bytes.now (begun l.day))
    → c.close_spans-spans.result ≡ close_spans (live_months (first_at l.calendar.bytes.now (begun l.day))) none l.close.hundredths
spans c m = rw m at c.close_spans-spans.ensures

pub close_spans-spans-requires : goal.close_spans-spans-requires
unfolding live_months
close_spans-spans-requires c = rw c.months-months.ensures (omega (arith, c.args.listing.live.latest))

pub invariant_of-plans : goal.invariant_of-plans
unfolding live_months
invariant_of-plans c =
    let g = goal.at.invariant_of-plans c in
    let l = c.args.listing in
    let m = months g.After-months-months in
    rw (spans g.After-close_spans-spans m, m) (record { ready = start_ready l.calendar.bytes.now l.day l.close.hundredths (taken g.After-months-months) })

pub returns : goal.returns
returns c =
    let g = goal.at.returns c in
    let l = c.args.listing in
    let m = months g.After-months-months in
    let s = spans g.After-close_spans-spans m in
    let d = start-done l.calendar.bytes.now l.day l.close.hundredths (taken g.After-months-months) c.list-count.result c.list-count.new.register
    (rw (s, m) at c.list-count.ensures.value) (rw (s, m) at c.list-count.ensures.register_after) in
    record { value = d.0; register_after = d.1 }
