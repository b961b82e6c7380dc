-- Laws of the head: its writer, and the register that a head and rows make.
-- Assumes nothing.
use mathlib.Core.Path.{◌≡◌, refl, ap, ◌∙◌}
use mathlib.Core.List.{List, [], ◌++◌}
use Prim.Native.Nat.{ℕ, ◌+◌, ◌-◌, ◌*◌, ◌/◌, ◌≤◌}
use native.Mathlib.Omega.{arith}
use lib.ListN.{length, take, drop, set, replicate}
use lib.Seq.{sets, length-take-le, drop_at}
use borrow.Rule.Slice.PartMut.{put_mid}
use Rattle.rules.specs.Rules.{Moment}
use Rattle.layout.specs.Rows.{Row}
use Rattle.layout.specs.Register.{running}
use Rattle.layout.specs.Bytes.{register_length, places_bytes, rows_bytes, padded, body_bytes, bytes_of, rows_from, rows_length}
use Rattle.base.specs.Words.{two}
use Rattle.relisting.specs.Writing.{head_bytes, quiet_bytes}

-- status, day and count over a head that is cleared
pub head_is : (d n : ℕ) (xs zs : List ℕ) → rows_from ≤ length xs → zs ≡ replicate (length (take rows_from xs)) 0
    → sets (sets (set (put_mid 0 rows_from xs zs) 0 1) 2 (two d [])) 4 (two n []) ≡ head_bytes d n ++ drop rows_from xs
unfolding head_bytes two
head_is d n xs zs h e =
    let z : zs ≡ replicate rows_from 0 = e ∙ ap (λ (m : ℕ). replicate {A = ℕ} m 0) (length-take-le rows_from xs h) in
    rw z refl

-- a head over rows is the register in which nothing waits
pub quiet_is : (x : Moment) (rows : List Row) → quiet_bytes x.day rows ≡ bytes_of (running (record { at = x; waiting = []; rows = rows }))
unfolding bytes_of body_bytes head_bytes padded places_bytes two
quiet_is x rows = refl

pub listed_head : (d : ℕ) (rows : List Row) (end : ℕ) (start mid out : List ℕ) → length start ≡ register_length → end ≡ rows_from + 8 * length rows
    → mid ≡ take rows_from start ++ padded rows_length (rows_bytes rows) → out ≡ head_bytes d ((end - rows_from) / 8) ++ drop rows_from mid
    → ((end - rows_from) / 8 ≡ length rows) × (out ≡ quiet_bytes d rows)
listed_head d rows end start mid out s e m o =
    let n : (end - rows_from) / 8 ≡ length rows = omega arith in
    (n, o ∙ rw (n, m, drop_at (take rows_from start) (padded rows_length (rows_bytes rows)) rows_from (length-take-le rows_from start (omega arith))))
