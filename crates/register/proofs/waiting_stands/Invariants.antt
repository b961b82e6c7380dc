-- What the loop of `register::waiting_stands` keeps: the announcements left stand beside those passed.
-- Assumes nothing.
use mathlib.Core.Path.{◌≡◌}
use Rattle.rules.specs.Rulebook.{rules}
use Rattle.layout.specs.Bytes.{body_of}
use Rattle.register.proofs.Waiting.{left_ok}
use Rattle.register.proofs.waiting_stands.Given as goal

abbrev pub invariant-loop-i : goal.invariant-loop-i
invariant-loop-i l =
    let R = rules l.running.calendar.bytes.now in
    left_ok R (body_of l.register) l.places 0 ≡ left_ok R (body_of l.register) l.places l.i
