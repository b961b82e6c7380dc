-- The loop of `write_ladders`: what it keeps, what a turn does, and what the rows and the zeros behind them make.
-- Assumes nothing.
use mathlib.Core.Path.{◌≡◌, refl, sym, ap, ◌∙◌}
use mathlib.Core.List.{List, ◌++◌, append_assoc}
use Prim.Native.Nat.{ℕ, zero, suc, ◌+◌, ◌-◌, ◌*◌, ◌≤◌, ◌<◌}
use native.Mathlib.Numerals.{add-one}
use native.Mathlib.Omega.{arith}
use lib.ListN.{length, take, drop, replicate, length-append, length-drop, take-append-drop}
use lib.Seq.{take_at, drop_at, take_all, length-take-le}
use borrow.Rule.Slice.PartMut.{put_mid}
use Rattle.layout.specs.Rows.{Row}
use Rattle.layout.specs.Bytes.{register_length, rows_bytes, padded, rows_from, rows_length}
use Rattle.layout.proofs.ByteLaws.{rows-length, rows_append}
use Rattle.ladders.specs.declared.Plan.{Plan}
use Rattle.ladders.specs.Writing.{prices_in, ladder_by, left_by, ladders_from, count_from, Ready}
use Rattle.base.proofs.Parts.{whole_part, put_rest, put_next, drop-next}
use Rattle.ladders.proofs.Ladder.{ladder-count}

pub ladders-count : (plans : ℕ → Plan) (i n : ℕ) (old : List Row) → length (ladders_from plans i n old) ≡ count_from plans i n
unfolding ladders_from count_from
ladders-count plans i zero old = refl
ladders-count plans i (suc n) old =
    rw (length-append, ladder-count (plans i) (prices_in (plans i)) old, ladders-count plans (suc i) n (left_by (plans i) (prices_in (plans i)) old))

module _ (first : ℕ) (plans : ℕ → Plan) (start : List ℕ) (old : List Row) where
  abbrev pub rows : List Row
  rows = ladders_from plans 0 6 old

  -- the register up to where the rows end
  abbrev pub up_to_end : List ℕ
  up_to_end = take rows_from start ++ rows_bytes rows

  -- what the loop keeps at a month: the ladders before it stand, and what follows is still to be written
  pub record Inv (register : List ℕ) (at : ℕ) (olds : List Row) (i : ℕ) : Type 0 where
    pub size : length register ≡ length start
    pub done : register ≡ take at up_to_end ++ drop at start
    pub more : drop at up_to_end ≡ rows_bytes (ladders_from plans i (6 - i) olds)
    pub end : at + 8 * count_from plans i (6 - i) ≡ rows_from + 8 * count_from plans 0 6

  module _ (size : length start ≡ register_length) (ready : Ready first plans) where
    front : length (take rows_from start) ≡ rows_from
    front = length-take-le rows_from start (omega arith)

    bytes_count : length (rows_bytes rows) ≡ 8 * count_from plans 0 6
    bytes_count = rows-length rows ∙ ap (λ (n : ℕ). 8 * n) (ladders-count plans 0 6 old)

    end-length : length up_to_end ≡ rows_from + 8 * count_from plans 0 6
    end-length = length-append (take rows_from start) (rows_bytes rows) ∙ rw (front, bytes_count)

    pub begin : Inv start rows_from old 0
    begin = record {
      size = refl;
      done = sym (rw (take_at (take rows_from start) (rows_bytes rows) rows_from front) (take-append-drop rows_from start));
      more = drop_at (take rows_from start) (rows_bytes rows) rows_from front;
      end = refl;
    }

    module _ (register : List ℕ) (at : ℕ) (olds : List Row) (i : ℕ) (inv : Inv register at olds i) where
      module _ (h : i < 6) where
        next : (o : List Row) → ladders_from plans i (6 - i) o ≡ ladder_by (plans i) (prices_in (plans i)) o ++ ladders_from plans (i + 1) (6 - (i + 1)) (left_by (plans i) (prices_in (plans i)) o)
        unfolding ladders_from
        next o =
            let e : 6 - i ≡ suc (6 - (i + 1)) = omega arith in
            rw (e, ← add-one i)

        next-count : count_from plans i (6 - i) ≡ length (prices_in (plans i)) + count_from plans (i + 1) (6 - (i + 1))
        unfolding count_from
        next-count =
            let e : 6 - i ≡ suc (6 - (i + 1)) = omega arith in
            rw (e, ← add-one i)

        pub room : at + 8 * length (prices_in (plans i)) ≤ register_length
        room = omega (arith, inv.end, next-count, ready.room)

        pub part_room : (n : ℕ) → n ≡ length register → 8 * length (prices_in (plans i)) ≤ length (take (n - at) (drop at register))
        part_room n m = rw (m, whole_part at register) (simp length-drop (omega (arith, room, inv.size)))

        pub turn : (n : ℕ) → n ≡ length register → (last : List ℕ) (left : List Row)
            → left ≡ left_by (plans i) (prices_in (plans i)) olds
            → last ≡ rows_bytes (ladder_by (plans i) (prices_in (plans i)) olds) ++ drop (8 * length (prices_in (plans i))) (take (n - at) (drop at register))
            → Inv (put_mid at (n - at) register last) (at + 8 * length (prices_in (plans i))) left (i + 1)
        turn n m last left g w =
            let k : ℕ = 8 * length (prices_in (plans i)) in
            let new : List ℕ = rows_bytes (ladder_by (plans i) (prices_in (plans i)) olds) in
            let rest : List ℕ = rows_bytes (ladders_from plans (i + 1) (6 - (i + 1)) left) in
            let todo : drop at up_to_end ≡ new ++ rest = inv.more ∙ rw (next olds, g) (rows_append _ _) in
            let l : length new ≡ k = rows-length (ladder_by (plans i) (prices_in (plans i)) olds) ∙ ap (λ (n : ℕ). 8 * n) (ladder-count (plans i) (prices_in (plans i)) olds) in
            let a : at ≤ length up_to_end = omega (arith, inv.end, end-length) in
            let done = put_next up_to_end start register at k a inv.done new rest todo l last (rw m at w) in
            let b : at + k ≤ length up_to_end = omega (arith, inv.end, next-count, end-length) in
            rw m
            (record {
              size = ap length done ∙ rw (length-append, length-take-le (at + k) up_to_end b, length-drop) (omega (arith, room));
              done = done;
              more = drop-next up_to_end start register at k a inv.done new rest todo l;
              end = omega (arith, inv.end, next-count);
            })

      module _ (h : 6 ≤ i) where
        pub at_end : at ≡ rows_from + 8 * length rows
        unfolding count_from
        at_end =
            let e : 6 - i ≡ 0 = omega arith in
            let c : at + 8 * count_from plans i 0 ≡ rows_from + 8 * count_from plans 0 6 = rw e at inv.end in
            omega (arith, ladders-count plans 0 6 old)

        pub cleared : (n : ℕ) → n ≡ length register → (last : List ℕ) → last ≡ replicate (length (take (n - at) (drop at register))) 0
            → put_mid at (n - at) register last ≡ take rows_from start ++ padded rows_length (rows_bytes rows)
        unfolding padded
        cleared n m last w =
            let e = at_end in
            let b = rows-length rows in
            let t : take at register ≡ up_to_end =
            rw inv.done
            (take_at (take at up_to_end) (drop at start) at (length-take-le at up_to_end (omega (arith, inv.end, end-length)))
            ∙ take_all at up_to_end (omega (arith, length-append (take rows_from start) (rows_bytes rows), front))) in
            let k : length register - at ≡ rows_length - length (rows_bytes rows) = omega (arith, inv.size) in
            rw m (put_rest at register last ∙ rw (rw m at w, whole_part at register, length-drop, t, k) (append_assoc (take rows_from start) (rows_bytes rows) (replicate (rows_length - length (rows_bytes rows)) 0)))
