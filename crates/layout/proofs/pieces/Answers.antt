-- `layout::pieces` meets its contract: what is cut lies within the part that is lent on.
-- Assumes nothing.
use Rattle.std.proofs.Common.{◌∙◌, ◌+◌, ◌-◌, ◌*◌, arith}
use Rattle.layout.proofs.Chunks.{chunks_cut}
use Rattle.layout.proofs.pieces.Goals as goal

pub returns-clause-bytes : goal.returns-clause-bytes
returns-clause-bytes g c =
    let a = c.args in
    let n = g.row.N in
    let cut = chunks_cut n a.count (a.from + n * a.count - a.from) a.from a.register.now c.requires.0 (omega arith) (omega arith) in
    c.as_chunks.ensures.front ∙ rw cut.0 cut.1
