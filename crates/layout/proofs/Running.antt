-- A register that runs and is well formed, sentence by sentence.
-- Assumes nothing.
use mathlib.Core.Path.{◌≡◌, refl, sym, ap, ◌∙◌}
use mathlib.Core.Bool.{true, false, not, ◌&&◌}
use mathlib.Core.List.{List}
use Prim.Native.Nat.{ℕ}
use borrow.Author.Tests.{not-true}
use Rattle.base.proofs.Tests.{and_l, and_r, and_i}
use Rattle.rules.specs.Rulebook.{rules}
use Rattle.layout.specs.Register.{Body, running, well_formed}
use Rattle.layout.specs.Bytes.{body_bytes, bytes_of, body_of, all_zero, same_bytes, reg_of, in_layout}
use Rattle.layout.specs.Opening.{empty_or_well, stands}
use Rattle.layout.specs.Spans.{runs_well}
use Rattle.layout.proofs.ByteLaws.{same_self, same_eq}
use Rattle.layout.proofs.Held.{Facts, facts, well-formed}

pub record Running (cal bs : List ℕ) : Type 0 where
  pub written : bs ≡ body_bytes (body_of bs)
  pub well : Facts (rules cal) (body_of bs)

module _ (cal bs : List ℕ) where
  reg_is : all_zero bs ≡ false → reg_of bs ≡ running (body_of bs)
  unfolding reg_of
  reg_is z = rw z

  runs-opened : all_zero bs ≡ false → stands (rules cal) bs ≡ (same_bytes bs (body_bytes (body_of bs)) && well_formed (rules cal) (body_of bs))
  unfolding stands in_layout empty_or_well bytes_of
  runs-opened z = rw (reg_is z)

  pub runs : runs_well cal bs ≡ true → Running cal bs
  unfolding runs_well
  runs h =
      let z : all_zero bs ≡ false = not-true (all_zero bs) (and_l (not (all_zero bs)) _ h) in
      let g = sym (runs-opened z) ∙ and_r (not (all_zero bs)) _ h in
      record {
        written = same_eq bs (body_bytes (body_of bs)) (and_l (same_bytes bs (body_bytes (body_of bs))) _ g);
        well = facts (rules cal) (body_of bs) (and_r (same_bytes bs (body_bytes (body_of bs))) _ g);
      }

  body_some : (b : Body) → all_zero (body_bytes b) ≡ false
  unfolding all_zero body_bytes
  body_some b = refl

  pub runs_i : Running cal bs → runs_well cal bs ≡ true
  unfolding runs_well
  runs_i r =
      let z : all_zero bs ≡ false = ap all_zero r.written ∙ body_some (body_of bs) in
      let s : same_bytes bs (body_bytes (body_of bs)) ≡ true = ap (same_bytes bs) (sym r.written) ∙ same_self bs in
      rw z (runs-opened z ∙ and_i s (well-formed (rules cal) (body_of bs) r.well))
