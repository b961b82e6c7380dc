-- The rows of a register that holds six ladders climb by month, then price, within twelve months from the first live one. Cut where
-- the next year begins, they are rows of two years.
-- Assumes nothing.
use mathlib.Core.Path.{◌≡◌, refl, sym, ◌∙◌}
use mathlib.Core.Bool.{true, false≢true}
use mathlib.Core.List.{List, [], ◌∷◌, ◌++◌}
use mathlib.Core.Logic.{⊎_elim}
use Prim.Native.Nat.{ℕ, zero, suc, ◌+◌, ◌*◌, ◌/◌, ◌%◌, ◌≤◌, ◌<◌}
use native.Mathlib.Numerals.{one-add}
use native.Mathlib.Omega.{arith}
use lib.Dec.{leb}
use lib.ListN.{take, drop, take-append-drop}
use borrow.Author.Tests.{leb-true, leb-false}
use Rattle.base.specs.Words.{at16}
use Rattle.base.specs.Lists.{elem, within}
use Rattle.base.proofs.Tests.{by_bool, and_l, and_i}
use Rattle.base.proofs.ListLaws.{elem-here, elem-select, within_i}
use Rattle.base.proofs.Rising.{select_rises}
use Rattle.calendar.specs.Live.{live_months, tier_of}
use Rattle.calendar.proofs.LiveLaws.{quarter_is, live_e}
use Rattle.grid.specs.Grid.{grid_of}
use Rattle.grid.specs.Numbers.{price}
use Rattle.grid.proofs.Prices.{price_mono}
use Rattle.grid.proofs.Grids.{number-on}
use Rattle.grid.proofs.GridLaws.{price_le}
use Rattle.rules.proofs.RulebookLaws.{grid_rises, live_rises}
use Rattle.layout.specs.Rows.{Entry, Row, row, ladder, rows_of}
use Rattle.layout.specs.Bytes.{read_rows}
use Rattle.layout.proofs.Held.{ladder_of, Held}
use Rattle.naming.specs.DayFile.{new_rows}
use Rattle.naming.specs.Parts.{before}
use Rattle.naming.proofs.Climbing.{Each, each_so, each_both, each_front, each_back, each_new, each_rows, key_of, Climbs, climbs_lower, climbs_front, climbs_back, climbs_new, climbs-rows}
use Rattle.naming.proofs.Rises.{InPart, TwoYears}

-- ---- rows before the first of a month, and those from it on
read_first : (n : ℕ) (xs : List ℕ) (r : Row) (more : List Row) → read_rows n xs ≡ r ∷ more → (0 < n) × (at16 xs 0 ≡ r.month)
unfolding read_rows
read_first zero xs r more e = let z : ◌≡◌ {A = ℕ} 0 1 = cc in absurd (omega arith)
read_first (suc n) xs r more e = (omega arith, cc)

each-before : (month : ℕ) (rs : List Row) → Each (λ r. r.month < month) (take (before month rs) rs)
each-before month [] = tt
each-before month (r ∷ rs) =
    by_bool (leb month r.month)
    (λ e. rw e tt)
    (λ e. rw (e, one-add) (leb-false month r.month e, each-before month rs))

-- the first of the others decides for all
climbs-behind : (month k : ℕ) (rs : List Row) → Climbs k (drop (before month rs) rs) → Climbs (10000 * month) (drop (before month rs) rs)
climbs-behind month k [] c = tt
climbs-behind month k (r ∷ rs) c =
    by_bool (leb month r.month)
    (λ e. let f = rw e at c in let l = leb-true month r.month e in rw e (omega arith, f.1))
    (λ e. let f = rw (e, one-add) at c in rw (e, one-add) (climbs-behind month k rs f))

-- rows that climb from a month on are of that month or a later one
climbs-from : (month : ℕ) (rs : List Row) → Each (λ r. r.price < 10000) rs → Climbs (10000 * month) rs → Each (λ r. month ≤ r.month) rs
climbs-from month [] e c = tt
climbs-from month (r ∷ rs) e c =
    let a = e.0 in
    let b = c.0 in
    (omega arith, climbs-from month rs e.1 (climbs_lower (10000 * month) (suc (key_of r)) rs (omega arith) c.1))

-- ---- the rows of six ladders
first-row : (m : ℕ) (g : ℕ → Entry) (p : ℕ) (ps : List ℕ) (rest : List Row) → elem p ps ≡ true
    → (r : Row) × (more : List Row) × (ladder m g ps ++ rest ≡ r ∷ more) × (r.month ≡ m)
unfolding elem ladder
first-row m g p [] rest e = absurd (false≢true e)
first-row m g p (q ∷ qs) rest e = (row m q (g q), ladder m g qs ++ rest, refl, refl)

pub record LiveRow (f : ℕ) (r : Row) : Type 0 where
  pub live : elem r.month (live_months f) ≡ true
  pub on-grid : elem r.price (grid_of (tier_of f r.month)) ≡ true

live-before : (f m : ℕ) → elem m (live_months f) ≡ true → m < f + 12
live-before f m e = let q = quarter_is f in ⊎_elim (λ w. omega arith) (λ w. omega arith) (live_e f m e).1

module _ (f : ℕ) (rs : List Row) (h : Held f rs) where
  abbrev G : ℕ → List ℕ
  G = ladder_of f h.low h.high

  -- the first ladder is the first live month's, and has its lowest price
  first_has : elem (price (h.low f)) (G f) ≡ true
  unfolding live_months
  first_has =
      let e : elem f (live_months f) ≡ true = elem-here f _ in
      elem-select (within (price (h.low f)) (price (h.high f))) (price (h.low f)) (grid_of (tier_of f f))
      ∙ and_i (number-on (tier_of f f) (h.low f) (h.low-on f e)) (within_i (omega arith) (price_mono (h.low f) (h.high f) (h.order f e)))

  held_first : (r : Row) × (more : List Row) × (rs ≡ r ∷ more) × (r.month ≡ f)
  unfolding live_months rows_of
  held_first = rw h.rows_are (first-row f (h.entry f) (price (h.low f)) (G f) (rows_of (drop 1 (live_months f)) G h.entry) first_has)

  ladder-on : (m p : ℕ) → elem p (G m) ≡ true → elem p (grid_of (tier_of f m)) ≡ true
  ladder-on m p e = and_l (elem p (grid_of (tier_of f m))) _ (sym (elem-select (within (price (h.low m)) (price (h.high m))) p (grid_of (tier_of f m))) ∙ e)

  pub held-live : Each (LiveRow f) rs
  held-live =
      rw h.rows_are (each_rows (LiveRow f) (live_months f) G h.entry (λ m p e g. record { live = e; on-grid = ladder-on m p g }))

  pub held_climb : Climbs 0 rs
  held_climb =
      rw h.rows_are
      (climbs-rows G h.entry (λ m. select_rises _ 0 (grid_of (tier_of f m)) (grid_rises (tier_of f m))) (λ m p e. let l = price_le (tier_of f m) p (ladder-on m p e) in omega arith)
      (live_months f) (live_rises f))

-- where such rows are read, the first has the first live month
pub first_read : (n f : ℕ) (xs : List ℕ) → Held f (read_rows n xs) → (0 < n) × (at16 xs 0 ≡ f)
first_read n f xs h =
    let w = held_first f (read_rows n xs) h in
    let e = read_first n xs w.0 w.1 w.2 in
    (e.0, e.1 ∙ w.3)

-- ---- such rows, cut before the first of the year after the first month's
module _ (f : ℕ) (rs : List Row) (h : Held f rs) where
  abbrev y : ℕ
  y = f / 12

  abbrev c : ℕ
  c = f % 12

  abbrev january : ℕ
  january = 12 * (y + 1)

  abbrev earlier : List Row
  earlier = take (before january rs) rs

  abbrev later : List Row
  later = drop (before january rs) rs

  pub rows_cut : rs ≡ earlier ++ later
  rows_cut = sym (take-append-drop (before january rs) rs)

  each_live : Each (LiveRow f) (earlier ++ later)
  each_live = rw (← rows_cut) (held-live f rs h)

  all_climb : Climbs 0 (earlier ++ later)
  all_climb = rw (← rows_cut) (held_climb f rs h)

  four-digits : (r : Row) → LiveRow f r → r.price < 10000
  four-digits r l = let g = price_le (tier_of f r.month) r.price l.on-grid in omega arith

  pub two_years : TwoYears y c earlier later
  two_years =
      let climb = climbs_back 0 earlier later all_climb in
      let live = each_back (LiveRow f) earlier later each_live in
      let small = each_so (LiveRow f) (λ r. r.price < 10000) four-digits later live in
      record {
        in_twelve = omega arith;
        earlier_part = each_both (LiveRow f) (λ r. r.month < january) (InPart y c 12)
            (λ r l g. let a = (live_e f r.month l.live).0 in
            record { in_year = omega arith; not-before = omega arith; before = omega arith; four-digits = four-digits r l })
            earlier (each_front (LiveRow f) earlier later each_live) (each-before january rs);
        later_part = each_both (LiveRow f) (λ r. january ≤ r.month) (InPart (y + 1) 0 c)
            (λ r l g. let a = live-before f r.month l.live in
            record { in_year = omega arith; not-before = omega arith; before = omega arith; four-digits = four-digits r l })
            later live (climbs-from january later small (climbs-behind january 0 rs climb));
        earlier_climbs = climbs_front 0 earlier later all_climb;
        later_climbs = climb;
      }

-- and so are those of them that are new on a day
pub new_years : (day y c : ℕ) (earlier later : List Row) → TwoYears y c earlier later → TwoYears y c (new_rows day earlier) (new_rows day later)
new_years day y c earlier later w = record {
  in_twelve = w.in_twelve;
  earlier_part = each_new (InPart y c 12) day earlier w.earlier_part;
  later_part = each_new (InPart (y + 1) 0 c) day later w.later_part;
  earlier_climbs = climbs_new 0 day earlier w.earlier_climbs;
  later_climbs = climbs_new 0 day later w.later_climbs;
}
