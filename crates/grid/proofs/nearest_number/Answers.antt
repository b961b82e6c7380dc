-- `grid::nearest_number` meets its contract: in each band the steps from the band's beginning give the number.
-- Assumes nothing.
use Rattle.std.proofs.Common.{◌≡◌, ℕ, ◌≤◌, arith}
use Rattle.base.specs.declared.Tier.{Tier}
use Rattle.grid.specs.Numbers.{stride}
use Rattle.grid.proofs.Grids.{stride_pos, stride_le}
use Rattle.grid.proofs.Nearest.{nearest-low, nearest_mid, nearest-high}
use Rattle.grid.proofs.nearest_number.Goals as goal

-- the stride, with its bounds
strides : (t : Tier) (s n : ℕ) → n ≡ stride t → s ≡ n → (1 ≤ s) × (s ≤ 4)
strides t s n e f = rw (f, e) (stride_pos t, stride_le t)

pub rounded-requires : goal.rounded-requires
rounded-requires c = omega (arith, strides c.args.tier _ _ c.stride_of-number.ensures c.from-stride.ensures)

pub rounded-requires-in-48000-to-99999 : goal.rounded-requires-in-48000-to-99999
rounded-requires-in-48000-to-99999 c = omega (arith, strides c.args.tier _ _ c.stride_of-number.ensures c.from-stride.ensures)

pub rounded-requires-in_default : goal.rounded-requires-in_default
rounded-requires-in_default c = omega (arith, strides c.args.tier _ _ c.stride_of-number.ensures c.from-stride.ensures)

pub returns-in-0-to-47999 : goal.returns-in-0-to-47999
returns-in-0-to-47999 c =
    let e = c.stride_of-number.ensures in
    let r = c.rounded in
    rw e (nearest-low c.args.tier c.args.close.hundredths r.result (omega arith) (omega arith) (rw (c.from-stride.ensures, e) at r.ensures))

pub returns-in-48000-to-99999 : goal.returns-in-48000-to-99999
returns-in-48000-to-99999 c =
    let e = c.stride_of-number.ensures in
    let r = c.rounded-in-48000-to-99999 in
    rw e (nearest_mid c.args.tier c.args.close.hundredths r.result (omega arith) (omega arith) (rw (c.from-stride.ensures, e) at r.ensures))

pub returns-in_default : goal.returns-in_default
returns-in_default c =
    let e = c.stride_of-number.ensures in
    let r = c.rounded-in_default in
    rw e (nearest-high c.args.tier c.args.close.hundredths r.result (omega arith) (omega arith) (rw (c.from-stride.ensures, e) at r.ensures))
