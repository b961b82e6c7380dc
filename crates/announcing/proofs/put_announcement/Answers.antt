-- `announcing::put_announcement` meets its contract: the place behind those that wait, and the count.
-- Assumes nothing.
use mathlib.Core.Path.{sym}
use Rattle.layout.specs.Bytes.{register_length}
use Rattle.announcing.proofs.Placed.{put_is}
use Rattle.announcing.proofs.put_announcement.Goals as goal

pub returns : goal.returns
returns c =
    let a = c.args in
    let p = put_is a.register.now c.requires a.month a.price register_length (sym c.told-register) c.write_place.new.part (rw c.from.ensures at c.write_place.ensures) in
    record { value = rw c.from-2.ensures p.0; register_after = rw c.from.ensures p.1 }
