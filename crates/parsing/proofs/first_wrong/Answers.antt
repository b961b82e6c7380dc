-- `parsing::first_wrong` meets its contract. The loop keeps an equation: the search from `place` on is the whole search. Behind the first
-- place the tag is the field's.
-- Assumes nothing.
use mathlib.Core.Path.{◌≡◌, sym, ap, ◌∙◌}
use mathlib.Core.Bool.{Bool, true, not}
use mathlib.Core.List.{List}
use Prim.Native.Nat.{ℕ, ◌+◌, ◌<◌}
use native.Mathlib.Omega.{arith}
use lib.ListN.{length, get_or}
use Rattle.base.proofs.SearchLaws.{first_end, first_hit, first_miss, found_at, found-none}
use Rattle.fields.specs.Reading.{byte_stands, wrong}
use Rattle.parsing.specs.Sorts.{is_day, tag_of, length_of}
use Rattle.parsing.specs.declared.Field.{Field}
use Rattle.parsing.proofs.Checks.{wrong_end, wrong-at, same_stands, tag_told}
use Rattle.parsing.proofs.first_wrong.Goals as goal
use Rattle.parsing.proofs.first_wrong.Goals.{then-rest-place-via-then-rest-place, then-rest-place-via-else-rest-place+then-not-can_stand}

here : (field : Field) (rest : List ℕ) (place : ℕ) (stands : Bool) → (0 < place → get_or rest 0 0 ≡ tag_of field) → place < length rest
    → stands ≡ byte_stands (is_day field) (tag_of field) place (get_or rest place 0) → wrong (is_day field) rest place ≡ not stands
here field rest place stands tag h e =
    wrong-at (is_day field) rest place h ∙ ap not (same_stands (is_day field) _ _ place _ tag ∙ sym e)

pub returns-then-rest-place : goal.returns-then-rest-place
returns-then-rest-place c =
    let a = c.args in
    let place = c.loop-place.place in
    let p = wrong (is_day a.field) a.rest.now in
    let hit : p place ≡ true =
    elim c.then-rest-place.branch [
      | then-rest-place-via-then-rest-place w ↦ wrong_end (is_day a.field) a.rest.now place (omega arith)
      | then-rest-place-via-else-rest-place+then-not-can_stand w ↦
          here a.field a.rest.now place _ c.loop-place.invariant.1 (omega arith) w.can_stand.ensures ∙ ap not w.if-not-can_stand.true
    ] in
    let size = 3 + length_of a.field in
    sym (found_at p 0 size place (omega (arith, c.length-place-end.ensures)) (c.loop-place.invariant.0 ∙ first_hit p place size (omega (arith, c.length-place-end.ensures)) hit))

pub loop-place-preserved : goal.loop-place-preserved
loop-place-preserved c =
    let a = c.args in
    let place = c.loop-place.place in
    let stands = here a.field a.rest.now place _ c.loop-place.invariant.1 (omega arith) c.can_stand.ensures ∙ ap not c.if-not-can_stand.false in (
      c.loop-place.invariant.0 ∙ first_miss _ _ _ (omega (arith, c.length-place-end.ensures)) stands,
      λ h. tag_told a.field a.rest.now place c.loop-place.invariant.1 (sym c.can_stand.ensures ∙ c.if-not-can_stand.false),
    )

pub returns : goal.returns
returns c =
    let p = wrong (is_day c.args.field) c.args.rest.now in
    let size = 3 + length_of c.args.field in
    sym (found-none p 0 size (omega (arith, c.length-place-end.ensures, c.loop-place.invariant.0, first_end p c.loop-place.place size (omega (arith, c.length-place-end.ensures)))))
