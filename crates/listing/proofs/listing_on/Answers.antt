-- `listing::listing_on` meets its contract.
-- Assumes nothing.
use Rattle.std.proofs.Common.{sym, ◌∙◌, arith}
use Rattle.std.proofs.lemmas.Result.{err_from_is_err_and}
use Rattle.base.specs.Causes.{cause}
use Rattle.listing.proofs.Causes.{late, in_time}
use Rattle.listing.proofs.listing_on.Goals as goal

pub returns-in_err-live-clause-cause : goal.returns-in_err-live-clause-cause
returns-in_err-live-clause-cause c =
    let p = err_from_is_err_and c.from_residual.result c.from_residual.ensures.1 in
    let e = c.in_err-live.ensures in
    rw (p.1, p.2, e.0, ← c.first_live.ensures) (sym (late _ _ e.1))

pub returns-in_err-close-clause-cause : goal.returns-in_err-close-clause-cause
unfolding cause
returns-in_err-close-clause-cause c =
    let f = c.from_residual-in_err-close in
    let p = err_from_is_err_and f.result f.ensures.1 in
    let e = c.in_err-close.ensures in
    rw (p.1, p.2, e.0, ← c.first_live.ensures) (sym (in_time _ _ (omega (arith, c.in_ok-live.live.latest, c.in_ok-live.ensures)) ∙ rw e.1))

pub returns-clause-cause : goal.returns-clause-cause
unfolding cause
returns-clause-cause c =
    let e = c.in_ok-close.ensures in
    rw (← c.first_live.ensures) (sym (in_time _ _ (omega (arith, c.in_ok-live.live.latest, c.in_ok-live.ensures)) ∙ rw e.1))
