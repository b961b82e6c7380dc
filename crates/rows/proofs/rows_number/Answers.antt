-- `rows::rows_number` meets its contract: the number is that of the place, and so is the month.
-- Assumes nothing.
use Rattle.std.proofs.Common.{◌≡◌, ◌∙◌, Result, Ok, Err}
use Rattle.std.specs.Prelude.{IfErr, MatchResult, is_ok}
use Rattle.std.proofs.lemmas.Bool.{false≢true}
use Rattle.base.specs.declared.causes.Cause.{Cause}
use Rattle.calls.proofs.AnswerLaws.{mapped-number}
use Rattle.rows.proofs.MonthRows.{number-placed}
use Rattle.rows.proofs.rows_number.Goals as goal

-- a refusal stays where what it refuses is mapped
mapped : {A B : Type 0} (r : Result A Cause) (s : Result B Cause) (P : A → Type 0) (Q : Cause → Type 0)
    → MatchResult r P (λ why. s ≡ Err why) → is_ok s ≡ is_ok r → IfErr r Q → IfErr s Q
mapped (Ok x) (Ok y) P Q m k h = h
mapped (Ok x) (Err why) P Q m k h = absurd (false≢true k)
mapped (Err why) s P Q m k h = rw m h

pub returns : goal.returns
returns c =
    let e = c.map.ensures in
    record {
      number = mapped-number c.rows_place.result c.map.result _ e.cases e.variant ∙ number-placed _ _ c.args.month c.rows_place.result c.rows_place.ensures.place;
      month = mapped c.rows_place.result c.map.result _ _ e.cases e.variant c.rows_place.ensures.month;
    }
