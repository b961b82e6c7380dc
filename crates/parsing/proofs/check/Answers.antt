-- `parsing::check` meets its contract. The loop keeps an equation: what is told of the rest, behind so many series, is what is told of
-- the whole file.
-- Assumes nothing.
use Rattle.std.proofs.Common.{◌≡◌, ◌∙◌, ◌+◌, ◌*◌, ◌-◌, ◌/◌, ◌≤◌, ◌<◌, ℕ, List, ◌++◌, None, min, true, false, sym, length, take, drop, arith}
use Rattle.std.specs.Slice.Iter.{chunks_rest}
use lib.ListN.{length-drop}
use lib.Seq.{drop-drop}
use Rattle.base.specs.Search.{first_in, found_in}
use Rattle.base.proofs.SearchLaws.{at_found, none_found}
use Rattle.base.proofs.Parts.{whole_part}
use Rattle.fields.specs.Reading.{wrong}
use Rattle.parsing.proofs.Checks.{Walked, day-wrong, day_inside, day_late, front_is, left_is, front_first, front_name, walk_begins, walk_ends, walk-wrong, field_inside, name_formed, walk_unfit, walk-on}
use Rattle.parsing.proofs.check.Goals as goal
use Rattle.parsing.proofs.check.Goals.{In-Some-2, In-None}

pub returns-in-Some : goal.returns-in-Some
returns-in-Some c =
    let file = c.args.file.now in
    let found = at_found (wrong true file) 0 5 c.in-Some.place c.in-Some.ensures in
    rw (← found.0) (sym (day-wrong file (rw found.0 found.1)))

pub word-day-requires : goal.word-day-requires
word-day-requires c = omega (arith, day_inside c.args.file.now (none_found (wrong true c.args.file.now) 0 5 c.in_default.ensures))

pub returns-then-day-ge-DAYS : goal.returns-then-day-ge-DAYS
returns-then-day-ge-DAYS c =
    sym (day_late c.args.file.now (none_found (wrong true c.args.file.now) 0 5 c.in_default.ensures) (rw c.word-day.ensures at c.if-day-ge-DAYS.true))

pub slice_bounds-chunks-count : goal.slice_bounds-chunks-count
slice_bounds-chunks-count c = day_inside c.args.file.now (none_found (wrong true c.args.file.now) 0 5 c.in_default.ensures)

pub slice_bounds-chunks-start : goal.slice_bounds-chunks-start
slice_bounds-chunks-start c = day_inside c.args.file.now (none_found (wrong true c.args.file.now) 0 5 c.in_default.ensures)

pub loop-i-init : goal.loop-i-init
loop-i-init c =
    let file = c.args.file.now in
    let whole = none_found (wrong true file) 0 5 c.in_default.ensures in
    let begins = walk_begins file c.word-day.result whole c.word-day.ensures c.if-day-ge-DAYS.false in
    rw (c.into_iter-i-iterator.ensures.into_iter_gives, c.enumerate-i-items.ensures.source, c.enumerate-i-items.ensures.count)
    (c.chunks.ensures.size, c.chunks.ensures.rest ∙ whole_part 5 file, begins)

-- ---- the field that comes next
abbrev next_at : (c : In-Some-2) → ℕ
next_at c = 5 + 15 * c.in-Some-2.i

abbrev rest : (c : In-Some-2) → List ℕ
rest c = drop (next_at c) c.args.file.now

walked : (c : In-Some-2) → Walked c.args.file.now c.word-day.result (next_at c) c.loop-i.least c.in-Some-2.i
walked c = rw c.in-Some-2.ensures.steps.1 c.loop-i.invariant.2

parts : (c : In-Some-2) → rest c ≡ c.in-Some-2.field.now ++ chunks_rest c.next.new.self.iter
parts c = rw c.in-Some-2.ensures.steps.1 (sym c.loop-i.invariant.1) ∙ c.in-Some-2.ensures.steps.0.1.0

size : (c : In-Some-2) → length c.in-Some-2.field.now ≡ min 15 (length (rest c))
size c = rw (c.in-Some-2.ensures.steps.1, ← c.loop-i.invariant.1, ← c.loop-i.invariant.0) c.in-Some-2.ensures.steps.0.1.1

inside : (c : In-Some-2) → next_at c < length c.args.file.now
inside c =
    let some : 0 < length (rest c) = rw (c.in-Some-2.ensures.steps.1, ← c.loop-i.invariant.1) c.in-Some-2.ensures.steps.0.1.2 in
    omega (arith, some, length-drop (next_at c) c.args.file.now)

first : (c : In-Some-2) → first_in (wrong false c.in-Some-2.field.now) 0 15 ≡ first_in (wrong false (rest c)) 0 15
first c = rw (front_is _ _ _ (parts c) (size c)) (front_first (rest c))

name : (c : In-Some-2) → take 11 (drop 3 c.in-Some-2.field.now) ≡ take 11 (drop 3 (rest c))
name c = rw (front_is _ _ _ (parts c) (size c)) (front_name (rest c))

-- no place of it is wrong
whole : (c : In-Some-2) → None ≡ found_in (wrong false c.in-Some-2.field.now) 0 15 → 15 ≤ first_in (wrong false (rest c)) 0 15
whole c e = omega (arith, none_found (wrong false c.in-Some-2.field.now) 0 15 e, first c)

pub overflow_cast-result-in-Some-series_wrong : goal.overflow_cast-result-in-Some-series_wrong
overflow_cast-result-in-Some-series_wrong c =
    let w = walked (goal.at.overflow_cast-result-in-Some-series_wrong c).In-Some-2 in
    let found = at_found (wrong false c.in-Some-2.field.now) 0 15 c.in-Some-series_wrong.place c.in-Some-series_wrong.ensures in
    record { fits = omega (arith, w.series-most, w.least-most, found.1) }

pub returns-in-Some-series_wrong : goal.returns-in-Some-series_wrong
returns-in-Some-series_wrong c =
    let s = (goal.at.returns-in-Some-series_wrong c).In-Some-2 in
    let found = at_found (wrong false c.in-Some-2.field.now) 0 15 c.in-Some-series_wrong.place c.in-Some-series_wrong.ensures in
    sym (walk-wrong (walked s) (inside s) c.in-Some-series_wrong.place (sym (first s) ∙ found.0) found.1)

pub slice_bounds-key_of-end : goal.slice_bounds-key_of-end
slice_bounds-key_of-end c =
    let s = (goal.at.slice_bounds-key_of-end c).In-Some-2 in
    let i = field_inside (walked s) (inside s) (whole s c.in_default-series_wrong.ensures) in
    let room : 14 ≤ length c.in-Some-2.field.now = omega (arith, size s, length-drop (next_at s) c.args.file.now, i) in
    room

pub key_of-key-requires : goal.key_of-key-requires
key_of-key-requires c =
    let s = (goal.at.key_of-key-requires c).In-Some-2 in
    let f = name_formed (walked s) (inside s) (whole s c.in_default-series_wrong.ensures) in
    rw (name s) (f.long, f.placed)

pub overflow_cast-result-then-not-is_taken : goal.overflow_cast-result-then-not-is_taken
overflow_cast-result-then-not-is_taken c =
    let w = walked (goal.at.overflow_cast-result-then-not-is_taken c).In-Some-2 in
    record { fits = omega (arith, w.series-most, w.least-most) }

pub returns-then-not-is_taken : goal.returns-then-not-is_taken
returns-then-not-is_taken c =
    let s = (goal.at.returns-then-not-is_taken c).In-Some-2 in
    let key = rw (name s) at c.key_of-key.ensures.0 in
    sym (walk_unfit (walked s) (inside s) (whole s c.in_default-series_wrong.ensures) key (sym c.is_taken.ensures ∙ c.if-not-is_taken.true))

pub loop-i-preserved : goal.loop-i-preserved
loop-i-preserved c =
    let s = (goal.at.loop-i-preserved c).In-Some-2 in
    let steps = c.in-Some-2.ensures.steps in
    let key = rw (name s) at c.key_of-key.ensures.0 in
    let fine = whole s c.in_default-series_wrong.ensures in
    let count : c.next.new.self.count ≡ c.in-Some-2.i + 1 = omega (arith, steps.1, steps.2) in
    let next : 5 + 15 * (c.in-Some-2.i + 1) ≡ 5 + 15 * c.in-Some-2.i + 15 = omega arith in
    let room : 15 ≤ length (rest s) = omega (arith, length-drop (next_at s) c.args.file.now, field_inside (walked s) (inside s) fine) in
    rw (count, next) (
      steps.0.0 ∙ c.loop-i.invariant.0,
      left_is _ _ _ (parts s) (size s) room ∙ drop-drop 15 (next_at s) c.args.file.now,
      walk-on (walked s) (inside s) fine key (sym c.is_taken.ensures ∙ c.if-not-is_taken.false),
    )

-- ---- no field is left
pub overflow_sub-result : goal.overflow_sub-result
overflow_sub-result c = day_inside c.args.file.now (none_found (wrong true c.args.file.now) 0 5 c.in_default.ensures)

ended : (c : In-None) → length c.args.file.now ≡ 5 + 15 * c.loop-i.i-iterator.count
ended c =
    let w = c.loop-i.invariant.2 in
    let none = rw c.loop-i.invariant.1 at c.in-None.ensures.steps.0.1.0 in
    omega (arith, w.at_inside, none, length-drop (5 + 15 * c.loop-i.i-iterator.count) c.args.file.now)

pub overflow_cast-result-2 : goal.overflow_cast-result-2
overflow_cast-result-2 c =
    let w = c.loop-i.invariant.2 in
    let e = ended (goal.at.overflow_cast-result-2 c).In-None in
    record { fits = omega (arith, e, w.series-most, w.least-most) }

pub returns : goal.returns
returns c =
    let e = ended (goal.at.returns c).In-None in
    let count : (length c.args.file.now - 5) / 15 ≡ c.loop-i.i-iterator.count = omega (arith, e) in
    rw (c.from.ensures, count) (sym (walk_ends c.loop-i.invariant.2 (omega (arith, e))))
