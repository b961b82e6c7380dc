-- The numbers of the two types.
-- Assumes nothing.
use Rattle.std.proofs.Common.{◌≡◌, false, refl}
use lib.Dec.{ltb}
use Rattle.names.specs.declared.Kind.{Kind}
use Rattle.names.specs.declared.Kind.TheVariants.{Call, Put}
use Rattle.names.specs.Kinds.{kind_number}

pub one_kind : (kind : Kind) → ltb 1 (kind_number kind) ≡ false
one_kind Call = refl
one_kind Put = refl
