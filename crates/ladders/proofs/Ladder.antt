-- The loop of `write_ladder`: what it keeps, and what a turn does.
-- Assumes nothing.
use mathlib.Core.Path.{◌≡◌, refl, sym, ap, ◌∙◌}
use mathlib.Core.List.{List, [], ◌∷◌, ◌++◌}
use Prim.Native.Nat.{ℕ, suc, ◌+◌, ◌-◌, ◌*◌, ◌%◌, ◌≤◌, ◌<◌}
use native.Mathlib.Omega.{arith}
use lib.ListN.{length, take, drop}
use lib.Seq.{take_all}
use borrow.Rule.Slice.PartMut.{put_mid}
use Rattle.base.proofs.Tests.{by_le}
use Rattle.grid.specs.Numbers.{price, number_of, stride, top_number, band_step}
use Rattle.grid.proofs.Prices.{price_strict, price_mono}
use Rattle.grid.proofs.Grids.{stride_pos, stride_le}
use Rattle.grid.proofs.GridLaws.{price_le}
use Rattle.layout.specs.Rows.{Row}
use Rattle.base.specs.Words.{two}
use Rattle.layout.specs.Bytes.{rows_bytes}
use Rattle.layout.proofs.ByteLaws.{rows-length}
use Rattle.grid.proofs.Runs.{next-price, next-on}
use Rattle.ladders.specs.declared.Plan.{Plan}
use Rattle.ladders.specs.declared.Stretch.{Stretch}
use Rattle.ladders.specs.Writing.{row_bytes, prices_in, left_at, ladder_by, left_by, Entered, Alike, Spanned}
use Rattle.grid.proofs.Between.{between, between_none, between_next, grid-number}
use Rattle.base.proofs.Parts.{put_next, drop-next}

pub ladder-count : (m : Plan) (ps : List ℕ) (old : List Row) → length (ladder_by m ps old) ≡ length ps
unfolding ladder_by
ladder-count m [] old = refl
ladder-count m (p ∷ ps) old = ap suc (ladder-count m ps (left_at m p old))

module _ (m : Plan) (start : List ℕ) (old : List Row) where
  -- all that is to be written
  abbrev pub ladder_bytes : List ℕ
  ladder_bytes = rows_bytes (ladder_by m (prices_in m) old)

  pub bytes-length : length ladder_bytes ≡ 8 * length (prices_in m)
  bytes-length = rows-length (ladder_by m (prices_in m) old) ∙ ap (λ (n : ℕ). 8 * n) (ladder-count m (prices_in m) old)

  -- what the loop keeps at a number: the rows below it stand, and what follows is still to be written
  pub record Inv (rest : List ℕ) (number at : ℕ) (olds : List Row) : Type 0 where
    pub size : length rest ≡ length start
    pub done : rest ≡ take at ladder_bytes ++ drop at start
    pub more : drop at ladder_bytes ≡ rows_bytes (ladder_by m (between m.tier number (number_of m.span.high)) olds)
    pub left : left_by m (between m.tier number (number_of m.span.high)) olds ≡ left_by m (prices_in m) old
    pub count : at + 8 * length (between m.tier number (number_of m.span.high)) ≡ 8 * length (prices_in m)
    pub positive : 1 ≤ number
    pub multiple : number % stride m.tier ≡ 0

  -- what the loop keeps at a price: it is that of a number, and up to the end of the stretch each price has its rows' entry
  pub record Going (rest : List ℕ) (p : ℕ) (s : Stretch) (at : ℕ) (olds : List Row) : Type 0 where
    pub number : ℕ
    pub is : p ≡ price number
    pub inv : Inv rest number at olds
    pub ahead : (q : ℕ) → p ≤ q → q < s.end → Entered m olds q s.first s.origin olds × (s.step ≡ stride m.tier * band_step q)

  module _ (ok : Spanned m) where
    prices_are : between m.tier (number_of m.span.low) (number_of m.span.high) ≡ prices_in m
    unfolding prices_in
    prices_are = rw ((grid-number m.tier m.span.low ok.low-on).1, (grid-number m.tier m.span.high ok.high-on).1)

    pub begin : Inv start (number_of m.span.low) 0 old
    begin =
        let o = (grid-number m.tier m.span.low ok.low-on).0 in
        record {
          size = refl;
          done = refl;
          more = rw prices_are;
          left = rw prices_are;
          count = rw prices_are (omega arith);
          positive = o.from;
          multiple = o.multiple;
        }

    pub last_in : number_of m.span.high ≤ top_number
    last_in = (grid-number m.tier m.span.high ok.high-on).0.to

    module _ (rest : List ℕ) (number at : ℕ) (olds : List Row) (inv : Inv rest number at olds) where
      module _ (h : number ≤ number_of m.span.high) where
        next : between m.tier number (number_of m.span.high) ≡ price number ∷ between m.tier (number + stride m.tier) (number_of m.span.high)
        next =
            let l = last_in in
            between_next m.tier number (number_of m.span.high) (record { from = inv.positive; to = omega arith; multiple = inv.multiple }) h

        -- a row more has room
        pub room : at + 8 ≤ 8 * length (prices_in m)
        room = let c = inv.count in omega (arith, rw next at c)

        turn : (first origin : ℕ) (left : List Row) (last : List ℕ) → Entered m olds (price number) first origin left
            → last ≡ row_bytes m.month (price number) first origin ++ drop 8 (take (length rest - at) (drop at rest))
            → length (put_mid at (length rest - at) rest last) ≡ length start
            → Inv (put_mid at (length rest - at) rest last) (number + stride m.tier) (at + 8) left
        unfolding ladder_by left_by rows_bytes row_bytes two
        turn first origin left last f w z =
            let after : List ℕ = between m.tier (number + stride m.tier) (number_of m.span.high) in
            let p : ℕ = price number in
            let new : List ℕ = row_bytes m.month p first origin in
            let todo : drop at ladder_bytes ≡ new ++ rows_bytes (ladder_by m after left) =
            inv.more ∙ rw (next, f.left_is, f.first_is, f.origin_is) in
            let l : at ≤ length ladder_bytes = omega (arith, bytes-length, room) in
            record {
              size = z;
              done = put_next ladder_bytes start rest at 8 l inv.done new (rows_bytes (ladder_by m after left)) todo refl last w;
              more = drop-next ladder_bytes start rest at 8 l inv.done new (rows_bytes (ladder_by m after left)) todo refl;
              left = ap (left_by m after) f.left_is ∙ sym (ap (λ (ps : List ℕ). left_by m ps olds) next) ∙ inv.left;
              count = let c = inv.count in omega (arith, rw next at c);
              positive = let c = inv.positive in omega arith;
              multiple = next-on m.tier number inv.multiple;
            }

      -- past the last number all is written
      module _ (h : number_of m.span.high < number) where
        none : between m.tier number (number_of m.span.high) ≡ []
        none = between_none m.tier number (number_of m.span.high) h

        pub end : at ≡ 8 * length (prices_in m)
        end = let c = inv.count in omega (arith, rw none at c)

        pub all_done : rest ≡ ladder_bytes ++ drop (8 * length (prices_in m)) start
        all_done = inv.done ∙ rw (end) (ap (λ (l : List ℕ). l ++ drop (8 * length (prices_in m)) start) (take_all (8 * length (prices_in m)) ladder_bytes (omega (arith, bytes-length))))

        pub all_left : olds ≡ left_by m (prices_in m) old
        unfolding left_by
        all_left = rw none at inv.left

    high_is : price (number_of m.span.high) ≡ m.span.high
    high_is = (grid-number m.tier m.span.high ok.high-on).1

    pub going : (s : Stretch) → s.end ≡ 0 → Going start m.span.low s 0 old
    going s e = record {
      number = number_of m.span.low;
      is = sym (grid-number m.tier m.span.low ok.low-on).1;
      inv = begin;
      ahead = λ q a b. absurd (omega arith);
    }

    module _ (rest : List ℕ) (p : ℕ) (s : Stretch) (at : ℕ) (olds : List Row) (g : Going rest p s at olds) where
      module _ (h : p ≤ m.span.high) where
        in_span : g.number ≤ number_of m.span.high
        in_span =
            by_le g.number (number_of m.span.high) (λ l. l)
            (λ l. absurd (omega (arith, price_strict (number_of m.span.high) g.number l, g.is, high_is)))

        -- the price is one of the grid
        pub price_in : (0 < p) × (p < 10000)
        price_in = (
          omega (arith, price_strict 0 g.number g.inv.positive, g.is),
          omega (arith, price_le m.tier m.span.high ok.high-on),
        )

        -- a row more has room
        pub room_for : at + 8 ≤ 8 * length (prices_in m)
        room_for = room rest g.number at olds g.inv in_span

        -- before the end the stretch goes on
        pub same : p < s.end → Alike m olds p s olds
        same l = record {
          here = (g.ahead p (omega arith) l).0;
          step = (g.ahead p (omega arith) l).1;
          more = λ q a b. g.ahead q (omega arith) b;
        }

        module _ (t : Stretch) (left : List Row) (k : Alike m olds p t left) where
          step_is : p + t.step ≡ price (g.number + stride m.tier)
          step_is = rw (k.step, g.is) (next-price m.tier g.number g.inv.multiple)

          -- the next price lies above it, and not far
          pub step-up : p < p + t.step
          step-up = rw step_is (rw (← g.is) at (price_strict g.number (g.number + stride m.tier) (omega (arith, stride_pos m.tier))))

          pub step_in : p + t.step ≤ price (top_number + 4)
          step_in = rw step_is (price_mono (g.number + stride m.tier) (top_number + 4) (omega (arith, in_span, last_in, stride_le m.tier)))

          pub step-on : (last : List ℕ) → last ≡ row_bytes m.month p t.first t.origin ++ drop 8 (take (length rest - at) (drop at rest))
              → length (put_mid at (length rest - at) rest last) ≡ length start
              → Going (put_mid at (length rest - at) rest last) (p + t.step) t (at + 8) left
          step-on last w z =
              let l = step-up in
              record {
                number = g.number + stride m.tier;
                is = step_is;
                inv = turn rest g.number at olds g.inv in_span t.first t.origin left last (rw g.is at k.here) (rw g.is at w) z;
                ahead = λ q a b. k.more q (omega arith) b;
              }

      -- past the last price all is written
      module _ (h : m.span.high < p) where
        past-span : number_of m.span.high < g.number
        past-span =
            by_le g.number (number_of m.span.high)
            (λ l. absurd (omega (arith, price_mono g.number (number_of m.span.high) l, g.is, high_is))) (λ l. l)

        pub size_is : at ≡ 8 * length (prices_in m)
        size_is = end rest g.number at olds g.inv past-span

        pub bytes_are : rest ≡ ladder_bytes ++ drop (8 * length (prices_in m)) start
        bytes_are = all_done rest g.number at olds g.inv past-span

        pub left_are : olds ≡ left_by m (prices_in m) old
        left_are = all_left rest g.number at olds g.inv past-span
