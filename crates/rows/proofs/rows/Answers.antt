-- `rows::rows` meets its contract: the part lies at the place that `rows_place` gives.
-- Assumes nothing.
use mathlib.Core.Path.{◌≡◌, ap}
use Prim.Native.Nat.{ℕ, ◌+◌, ◌-◌}
use native.Mathlib.Omega.{arith}
use Rattle.calls.specs.declared.Place.{Place}
use Rattle.rows.proofs.MonthRows.{part-inside, part_is, part_none}
use Rattle.rows.proofs.rows.Goals as goal

pub slice_bounds-result-end : goal.slice_bounds-result-end
slice_bounds-result-end c = omega (arith, c.from-at.ensures, c.from.ensures, part-inside _ _ c.args.month c.in-Ok.part c.in-Ok.ensures.place)

pub returns-in-Ok : goal.returns-in-Ok
returns-in-Ok c =
    let e : c.from-at.result + c.from.result - c.from-at.result ≡ c.from.result = omega arith in
    record {
      part = rw (e, c.from-at.ensures, c.from.ensures) (part_is _ _ c.args.month c.in-Ok.part c.in-Ok.ensures.place);
      pointer = ap (λ (i : ℕ). (c.args.register.ref_ptr.0, i)) (omega (arith, c.from-at.ensures, ap (λ (p : Place). p.at) c.in-Ok.ensures.place));
    }

pub returns-in-Err : goal.returns-in-Err
returns-in-Err c = record {
  part = part_none _ _ c.args.month c.in-Err.field-0 c.in-Err.ensures.place;
  pointer = ap (λ (i : ℕ). (c.args.register.ref_ptr.0, i)) (omega (arith, ap (λ (p : Place). p.at) c.in-Err.ensures.place));
}
