use Rattle.std.proofs.Common.{◌∙◌, ap, List, ℕ, ◌++◌, take}
use Rattle.text.proofs.Filled.{take-put_mid_more}
use Rattle.text.proofs.buffer.Text.put.Goals as goal

pub returns : goal.returns
returns g c =
    take-put_mid_more g.row.N c.self.inside.length c.min-n.result c.self.inside.room c.copy_from_slice.new.self c.args.bytes.now
    c.self.invariant c.self.told (rw c.self.told at c.min-n.ensures) c.copy_from_slice.ensures.after
    ∙ ap (λ (x : List ℕ). take g.row.N (x ++ c.args.bytes.now)) c.self.view_is
