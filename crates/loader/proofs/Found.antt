-- The fields of rows: each is that of a series, and which field a name has among them tells which row stands there.
-- Assumes nothing.
use mathlib.Core.Path.{◌≡◌, refl, sym, ap, ◌∙◌}
use mathlib.Core.Bool.{true, false, cond, ◌&&◌}
use mathlib.Core.List.{List, [], ◌∷◌, ◌++◌}
use mathlib.Core.Option.{Option, none, some}
use Prim.Native.Nat.{ℕ, suc, ◌+◌, ◌*◌, ◌/◌, ◌<◌}
use native.Mathlib.Omega.{arith}
use lib.Dec.{eqb}
use lib.ListN.{length, get_or, length-append}
use lib.Seq.{get_or_at}
use borrow.Author.Tests.{eqb-true, eqb-false, ne_eqb}
use Rattle.base.specs.Lists.{elem, within}
use Rattle.base.specs.declared.Tier.TheVariants.{N}
use Rattle.base.proofs.Tests.{by_bool, and_l, and_r, and_i, and_no, eqb_iff}
use Rattle.grid.specs.Grid.{grid_of}
use Rattle.grid.proofs.GridLaws.{price_le}
use Rattle.names.specs.declared.Series.{Series}
use Rattle.names.specs.Names.{name_length, digits, letter, prefix, name_of, read_cause, read_of}
use Rattle.names.proofs.DigitLaws.{digits-length}
use Rattle.names.proofs.NameLaws.{name-length, reads_back}
use Rattle.layout.specs.Rows.{Entry, Row, find}
use Rattle.fields.specs.Fields.{Field, series_field, origin_in, is_series, all_series}
use Rattle.fields.proofs.Order.{same, same_self}
use Rattle.fields.proofs.Digits.{parted, ordered, one_byte}
use Rattle.fields.proofs.Arranged.{lookup}
use Rattle.naming.specs.DayFile.{new_rows, series_of}
use Rattle.naming.proofs.Climbing.{Each, key_of, Climbs, climbs_lower}
use Rattle.naming.proofs.Rises.{name-in}

-- ---- each field is a series'
pub record SeriesRow (r : Row) : Type 0 where
  pub month_in : r.month < 1200
  pub on-grid : elem r.price (grid_of N) ≡ true
  pub origin-in : within 1 5 r.entry.origin ≡ true

row-series : (k : ℕ) → k < 2 → (r : Row) → SeriesRow r → is_series (series_field (name_of r.month k r.price) r.entry.origin) ≡ true
unfolding is_series series_field origin_in read_of
row-series k h r s =
    let name : List ℕ = name_of r.month k r.price in
    let reads : read_cause name ≡ 0 = ap (λ (x : Series). x.number) (reads_back r.month k r.price s.month_in h s.on-grid) in
    let twelve : length (name ++ (r.entry.origin ∷ [])) ≡ 12 = rw (length-append, name-length) in
    let origin : get_or (name ++ (r.entry.origin ∷ [])) name_length 0 ≡ r.entry.origin = get_or_at name r.entry.origin [] 0 name_length (name-length r.month k r.price) in
    rw (twelve, name-in r.month k r.price r.entry.origin, reads, origin) s.origin-in

pub all-series : (k : ℕ) → k < 2 → (rs : List Row) (rest : List Field) → Each SeriesRow rs → all_series rest ≡ true → all_series (series_of k rs ++ rest) ≡ true
unfolding all_series series_of
all-series k h [] rest e a = a
all-series k h (r ∷ rs) rest e a = and_i (row-series k h r e.0) (all-series k h rs rest e.1 a)

-- ---- names are the same where letter, year and price are
name_same : (m k p m' k' p' : ℕ) → m < 1200 → p < 10000 → m' < 1200 → p' < 10000
    → same (name_of m k p) (name_of m' k' p') ≡ (eqb (letter m k) (letter m' k') && (eqb (m / 12) (m' / 12) && eqb p p'))
unfolding name_of
name_same m k p m' k' p' a b c d =
    let year = ordered 2 (m / 12) (m' / 12) (omega arith) (omega arith) in
    let price = ordered 4 p p' (omega arith) (omega arith) in
    let rest = parted (digits 2 (m / 12)) (digits 2 (m' / 12)) (digits 4 p) (digits 4 p') (digits-length 2 (m / 12) ∙ sym (digits-length 2 (m' / 12))) in
    let front = parted prefix prefix (letter m k ∷ []) (letter m' k' ∷ []) refl in
    (parted (prefix ++ (letter m k ∷ [])) (prefix ++ (letter m' k' ∷ [])) (digits 2 (m / 12) ++ digits 4 p) (digits 2 (m' / 12) ++ digits 4 p') refl).1
    ∙ rw (front.1, rest.1, same_self prefix, (one_byte (letter m k) (letter m' k')).1, year.1, price.1)

-- a series' name is a row's of the same type where month and price are, and of the other type never
module _ (m p : ℕ) (r : Row) (a : m < 1200) (b : p < 10000) (s : SeriesRow r) where
  same_parts : (k j : ℕ) → same (name_of m k p) (name_of r.month j r.price) ≡ (eqb (letter m k) (letter r.month j) && (eqb (m / 12) (r.month / 12) && eqb p r.price))
  same_parts k j = let d = price_le N r.price s.on-grid in name_same m k p r.month j r.price a b s.month_in (omega arith)

  same_type : (k : ℕ) → same (name_of m k p) (name_of r.month k r.price) ≡ (eqb m r.month && eqb p r.price)
  unfolding letter
  same_type k =
      same_parts k k
      ∙ by_bool (eqb (m / 12) (r.month / 12))
      (λ e. let y = eqb-true (m / 12) (r.month / 12) e in rw (e, eqb_iff (letter m k) (letter r.month k) m r.month (λ q. omega arith) (λ q. omega arith)))
      (λ e. rw (e, ne_eqb m r.month (λ q. eqb-false (m / 12) (r.month / 12) e (omega arith))) (and_no (eqb (letter m k) (letter r.month k)) false refl))

  other_type : (k j : ℕ) → k < 2 → j < 2 → (k ≡ j → ⊥) → same (name_of m k p) (name_of r.month j r.price) ≡ false
  unfolding letter
  other_type k j h g n = same_parts k j ∙ rw (ne_eqb (letter m k) (letter r.month j) (λ e. n (omega arith)))

-- ---- which field a name has among the series of the new rows
-- the field of a name, where the entry's row is new on a day
unfoldable pub new_field : ℕ → List ℕ → Option Entry → Option Field
new_field day name none = none
new_field day name (some e) = cond (eqb e.first day) (some (series_field name e.origin)) none

module _ (day m p : ℕ) (a : m < 1200) (b : p < 10000) where
  find_none : (rs : List Row) → Climbs (suc (10000 * m + p)) rs → find m p rs ≡ none
  unfolding find
  find_none [] c = refl
  find_none (r ∷ rs) c =
      let l = c.0 in
      by_bool (eqb m r.month && eqb p r.price)
      (λ e. absurd (omega (arith, eqb-true m r.month (and_l (eqb m r.month) _ e), eqb-true p r.price (and_r (eqb m r.month) _ e))))
      (λ e. rw e (find_none rs (climbs_lower (suc (10000 * m + p)) (suc (key_of r)) rs (omega arith) c.1)))

  pub found_type : (k n : ℕ) (rs : List Row) → Each SeriesRow rs → Climbs n rs → lookup (name_of m k p) (series_of k (new_rows day rs)) ≡ new_field day (name_of m k p) (find m p rs)
  unfolding lookup series_of new_rows find new_field
  found_type k n [] e c = refl
  found_type k n (r ∷ rs) e c =
      let t = same_type m p r a b e.0 k in
      let i = found_type k (suc (key_of r)) rs e.1 c.1 in
      let in-name = name-in r.month k r.price r.entry.origin in
      by_bool (eqb m r.month && eqb p r.price)
      (λ q.
      let x = eqb-true m r.month (and_l (eqb m r.month) _ q) in
      let y = eqb-true p r.price (and_r (eqb m r.month) _ q) in
      by_bool (eqb r.entry.first day)
      (λ d. rw (q, d, in-name, t, q, x, y))
      (λ d. rw (q, d) (i ∙ ap (new_field day (name_of m k p)) (find_none rs (climbs_lower (suc (10000 * m + p)) (suc (key_of r)) rs (omega arith) c.1)))))
      (λ q. by_bool (eqb r.entry.first day)
      (λ d. rw (d, in-name, t, q) i)
      (λ d. rw (d, q) i))

  pub found_other : (k j : ℕ) → k < 2 → j < 2 → (k ≡ j → ⊥) → (rs : List Row) → Each SeriesRow rs → lookup (name_of m k p) (series_of j rs) ≡ none
  unfolding lookup series_of
  found_other k j h g n [] e = refl
  found_other k j h g n (r ∷ rs) e = rw (name-in r.month j r.price r.entry.origin, other_type m p r a b e.0 k j h g n) (found_other k j h g n rs e.1)
