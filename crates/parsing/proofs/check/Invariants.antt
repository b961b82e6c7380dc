-- What the loops of `parsing::check` keep: the fields that are left are those from `at` on.
-- Assumes nothing.
use Rattle.std.proofs.Common.{◌≡◌, ◌+◌, ◌*◌, drop}
use Rattle.std.specs.Slice.Iter.{chunks_rest, chunks_size}
use Rattle.parsing.proofs.Checks.{Walked}
use Rattle.parsing.proofs.check.Given as goal

abbrev pub invariant-loop-i : goal.invariant-loop-i
invariant-loop-i l =
    (chunks_size l.i-iterator.iter ≡ 15)
    × (chunks_rest l.i-iterator.iter ≡ drop (5 + 15 * l.i-iterator.count) l.file)
    × Walked l.file l.day (5 + 15 * l.i-iterator.count) l.least l.i-iterator.count
