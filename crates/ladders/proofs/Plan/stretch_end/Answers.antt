-- `ladders::Plan::stretch_end` meets its contract: each edge moves the end forward.
-- Assumes nothing.
use Rattle.std.proofs.Common.{◌≤◌}
use Rattle.ladders.proofs.Stretches.{Before, cut_some, cut_none, ends_held, ends_none}
use Rattle.ladders.proofs.Plan.stretch_end.Goals.{in-Some, in-None}
use Rattle.ladders.proofs.Plan.stretch_end.Goals as goal

pub returns-in-Some-held : goal.returns-in-Some-held
returns-in-Some-held c =
    let a = c.args in
    let m = a.self.now in
    let e = c.match-next.end in
    let cut : (e ≤ a.end) × Before m a.next a.price e = elim c.match-next.branch [
      | in-Some w ↦ rw w.end-is (cut_some m a.next a.end a.price _ w.in-Some.next w.in-Some.is (rw w.from.ensures at w.nearer-end.ensures))
      | in-None w ↦ rw w.end-is (cut_none m a.next a.end a.price w.in-None.is)
    ] in
    ends_held m a.next a.end a.price e c.nearer-end-in-Some-held.result c.nearer-end-in-Some-held-2.result c.nearer-end-in-Some-held-3.result c.nearer.result
    c.in-Some-held.held c.in-Some-held.is cut.0 cut.1
    (rw c.from-in-Some-held.ensures at c.nearer-end-in-Some-held.ensures)
    (rw c.from-in-Some-held-2.ensures at c.nearer-end-in-Some-held-2.ensures)
    (rw c.from-in-Some-held-3.ensures at c.nearer-end-in-Some-held-3.ensures)
    (rw c.from-in-Some-held-4.ensures at c.nearer.ensures)

pub returns-in-None-held : goal.returns-in-None-held
returns-in-None-held c =
    let a = c.args in
    let m = a.self.now in
    let e = c.match-next.end in
    let cut : (e ≤ a.end) × Before m a.next a.price e = elim c.match-next.branch [
      | in-Some w ↦ rw w.end-is (cut_some m a.next a.end a.price _ w.in-Some.next w.in-Some.is (rw w.from.ensures at w.nearer-end.ensures))
      | in-None w ↦ rw w.end-is (cut_none m a.next a.end a.price w.in-None.is)
    ] in
    ends_none m a.next a.end a.price e c.in-None-held.is cut.0 cut.1
