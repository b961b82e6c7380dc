-- `holidays::set_weekdays` meets its contract: the weekdays before the loop's day have their sessions. Assumes nothing.
use Prim.Native.Nat.{ℕ, ◌<◌, ◌/◌}
use mathlib.Core.Path.{sym, ap, ◌∙◌}
use mathlib.Core.Bool.{Bool, ◌||◌}
use mathlib.Core.List.{List}
use native.Mathlib.Omega.{arith}
use lib.Dec.{eqb}
use lib.ListN.{length}
use Rattle.calendar.specs.Calendar.{session}
use Rattle.holidays.specs.Sessions.{weekday}
use Rattle.holidays.proofs.SessionLaws.{set-session, none_yet, grown, stayed}
use Rattle.holidays.proofs.set_weekdays.Goals as goal
use Rattle.holidays.proofs.set_weekdays.Goals.{then-is_weekday, else-is_weekday}

pub loop-day-init : goal.loop-day-init
loop-day-init c n =
    ap (λ (l : List ℕ). session l n) (c.fill.ensures.after (λ y is. is)) ∙ none_yet (length c.args.calendar.now) n

pub loop-day-preserved : goal.loop-day-preserved
loop-day-preserved c n =
    let l = c.loop-day in
    let told = sym c.is_weekday.ensures in
    let inside : l.day / 8 < length l.calendar = omega arith in
    elim c.if-is_weekday.branch [
      | then-is_weekday w ↦ ap (λ (x : List ℕ). session x n) (w.calendar-is ∙ w.set_session.ensures)
          ∙ set-session l.calendar l.day n inside
          ∙ ap (λ (b : Bool). eqb n l.day || b) (l.invariant n)
          ∙ grown weekday n l.day (told ∙ w.if-is_weekday.true)
      | else-is_weekday w ↦ ap (λ (x : List ℕ). session x n) w.calendar-is ∙ l.invariant n ∙ stayed weekday n l.day (told ∙ w.if-is_weekday.false)
    ]
