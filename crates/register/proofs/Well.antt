-- A register stands where the scan of its bytes says so, and its spans are those that the scan finds.
-- Assumes nothing.
use mathlib.Core.Path.{◌≡◌, refl, sym, ap, ◌∙◌}
use mathlib.Core.Bool.{true, false}
use mathlib.Core.List.{List, [], ◌++◌}
use mathlib.Core.Logic.{⊎_elim}
use Rattle.std.specs.Prelude.{Some}
use Rattle.std.proofs.lemmas.Option.{none-some, same_Some}
use Prim.Native.Nat.{ℕ, zero, suc, ◌+◌, ◌-◌, ◌*◌, ◌≤◌, ◌<◌}
use native.Mathlib.Omega.{arith}
use lib.Dec.{leb}
use lib.ListN.{length, get_or, drop, replicate}
use borrow.Author.Tests.{le-leb, leb-true}
use Rattle.base.specs.Lists.{elem, select, within, least, greatest}
use Rattle.base.proofs.Tests.{by_bool, and_l, and_r}
use Rattle.base.proofs.ListLaws.{elem-here, within_r}
use Rattle.dates.specs.Months.{day_count}
use Rattle.calendar.specs.Calendar.{session, expiry_of}
use Rattle.calendar.specs.Live.{first_live, live_months, tier_of}
use Rattle.grid.specs.Grid.{grid_of}
use Rattle.grid.proofs.Prices.{price_line}
use Rattle.rules.specs.Rules.{last_first_month}
use Rattle.rules.specs.Rulebook.{rules, first_at, tier_at}
use Rattle.rules.proofs.RulebookLaws.{first_is, first-day}
use Rattle.layout.specs.Rows.{new_entry, Row, rows_of, prices_of, entry_ok}
use Rattle.layout.specs.Register.{most_waiting, Body, span_low, span_high, same_keys, non_empty, entries_ok, listed, waiting_ok}
use Rattle.base.specs.Words.{at16}
use Rattle.layout.specs.Bytes.{read_rows, moment_of, body_of, rows_bytes, register_length, rows_from, rows_length}
use Rattle.layout.specs.Spans.{runs_well, spans_of}
use Rattle.register.specs.Check.{Keeps}
use Rattle.scan.specs.Scan.{scanned, rows_at, ladder_spans}
use Rattle.layout.proofs.RowLaws.{rows_of_same, all_some}
use Rattle.layout.proofs.ByteLaws.{places_count}
use Rattle.layout.proofs.Running.{Running, runs}
use Rattle.layout.proofs.Held.{ladder_of, Held, there, least-held, greatest-held, live_apart, held}
use Rattle.register.proofs.Kept.{EndsZero, layout_is, kept, rows-part}
use Rattle.scan.proofs.Found.{blank, LaddersFound, find_ladders, held_found, spans-held}

-- ---- the rows as they are scanned are the rows, where the byte behind each origin is zero
origin_is : (bs : List ℕ) → at16 bs 6 ≡ get_or bs 6 0 + 256 * get_or bs 7 0
unfolding at16
origin_is bs = refl

rows_same : (n : ℕ) (bs : List ℕ) → EndsZero n bs → rows_at n bs ≡ read_rows n bs
unfolding rows_at read_rows
rows_same zero bs z = refl
rows_same (suc n) bs z = let o : at16 bs 6 ≡ get_or bs 6 0 = omega (arith, origin_is bs) in rw (o, rows_same n (drop 8 bs) z.1)

ends_zero : (day n : ℕ) (bs : List ℕ) → entries_ok day (rows_at n bs) ≡ true → EndsZero n bs
unfolding rows_at entries_ok entry_ok
ends_zero day zero bs k = tt
ends_zero day (suc n) bs k =
    let e = and_l (entry_ok day (scanned bs).entry) _ k in
    let o = within_r 1 5 (at16 bs 6) (and_r (leb (at16 bs 4) day) _ e) in
    (omega (arith, origin_is bs), ends_zero day n (drop 8 bs) (and_r (entry_ok day (scanned bs).entry) _ k))

-- its first live month, as the calendar gives it on the day that stands in the bytes
pub first_read : (cal bs : List ℕ) {first day : ℕ} → day ≡ at16 bs 2 → first ≡ first_live (expiry_of cal) day → first ≡ first_at cal (moment_of bs)
unfolding moment_of
first_read cal bs d e = e ∙ ap (first_live (expiry_of cal)) d ∙ first_is cal (moment_of bs)

-- ---- what the scan finds of it
module _ (cal bs : List ℕ) (l : length bs ≡ register_length) (r : Running cal bs) where
  pub run_keeps : Keeps bs
  run_keeps = (kept bs l r.written).0

  pub run-session : session cal (at16 bs 2) ≡ true
  unfolding rules body_of moment_of
  run-session = r.well.sound.session-day

  pub run-first : first_at cal (moment_of bs) ≤ last_first_month
  unfolding rules body_of
  run-first = leb-true (first_at cal (moment_of bs)) last_first_month r.well.sound.live

  pub run-day : (moment_of bs).day < day_count
  run-day = let f = run-first in first-day cal (moment_of bs) (omega arith)

  pub run-held : Held (first_at cal (moment_of bs)) (body_of bs).rows
  unfolding body_of
  run-held = held cal (body_of bs) r.well

  pub run_spans : let f = first_at cal (moment_of bs) in ladder_spans (at16 bs 2) f [] (live_months f) (rows_at (at16 bs 4) (drop rows_from bs)) ≡ Some (spans_of (body_of bs) (live_months f))
  unfolding body_of moment_of
  run_spans =
      let f : ℕ = first_at cal (moment_of bs) in
      ap (ladder_spans (at16 bs 2) f [] (live_months f)) (rows_same (at16 bs 4) (drop rows_from bs) (kept bs l r.written).1)
      ∙ spans-held (at16 bs 2) f (body_of bs) run-held r.well.sound.entries

  -- behind the places stand the bytes of its rows, then zeros
  pub rows_behind : drop rows_from bs ≡ rows_bytes (body_of bs).rows ++ replicate (rows_length - length (rows_bytes (body_of bs).rows)) 0
  rows_behind = ap (drop rows_from) r.written ∙ rows-part (body_of bs) (sym (ap length r.written) ∙ l)

-- the first month's lowest price is not 0
pub first-low : (f : ℕ) (b : Body) → Held f b.rows → get_or (get_or (spans_of b (live_months f)) 0 []) 0 0 ≡ 0 → ⊥
unfolding spans_of live_months span_low
first-low f b h z =
    let e : elem f (live_months f) ≡ true = elem-here f _ in
    omega (arith, least-held f b.rows h f e, (h.low-on f e).from, price_line (h.low f))

-- ---- and where a scan finds six spans
pub record Scanned (cal bs : List ℕ) (spans : List (List ℕ)) : Type 0 where
  pub keeps : Keeps bs
  pub day-session : session cal (at16 bs 2) ≡ true
  pub first_le : first_at cal (moment_of bs) ≤ last_first_month
  pub spans_is : Some spans ≡ ladder_spans (at16 bs 2) (first_at cal (moment_of bs)) [] (live_months (first_at cal (moment_of bs))) (rows_at (at16 bs 4) (drop rows_from bs))

module _ (cal bs : List ℕ) (l : length bs ≡ register_length) (bytes : (i : ℕ) → get_or bs i 0 < 256) (spans : List (List ℕ)) (r : Scanned cal bs spans) where
  scan_found : LaddersFound (at16 bs 2) (first_at cal (moment_of bs)) (live_months (first_at cal (moment_of bs))) (rows_at (at16 bs 4) (drop rows_from bs))
  scan_found =
      let f : ℕ = first_at cal (moment_of bs) in
      ⊎_elim (λ z. absurd (none-some spans (sym (r.spans_is ∙ z)))) (λ w. w)
      (find_ladders (at16 bs 2) f [] (live_months f) (rows_at (at16 bs 4) (drop rows_from bs)) (live_apart f))

  ends : EndsZero (at16 bs 4) (drop rows_from bs)
  ends = ends_zero (at16 bs 2) (at16 bs 4) (drop rows_from bs) scan_found.entries

  rows_are : rows_at (at16 bs 4) (drop rows_from bs) ≡ (body_of bs).rows
  unfolding body_of
  rows_are = rows_same (at16 bs 4) (drop rows_from bs) ends

  found : LaddersFound (at16 bs 2) (first_at cal (moment_of bs)) (live_months (first_at cal (moment_of bs))) (body_of bs).rows
  found = rw rows_are at scan_found

  scan-held : Held (first_at cal (moment_of bs)) (body_of bs).rows
  scan-held = held_found (at16 bs 2) (first_at cal (moment_of bs)) (body_of bs).rows found

  pub spans_are : spans ≡ spans_of (body_of bs) (live_months (first_at cal (moment_of bs)))
  spans_are = same_Some spans _ (r.spans_is ∙ rw rows_are (spans-held (at16 bs 2) (first_at cal (moment_of bs)) (body_of bs) scan-held found.entries))

  keys_are : let b = body_of bs in let R = rules cal in
      same_keys b.rows (rows_of (R.live b.at) (listed R b.at (span_low b) (span_high b)) (λ m p. new_entry 0 0)) ≡ true
  unfolding rules tier_at listed span_low span_high body_of scan-held held_found
  keys_are =
      let f : ℕ = first_at cal (moment_of bs) in
      let rs : List Row = (body_of bs).rows in
      let h = scan-held in
      let same = rows_of_same (live_months f) (λ m. select (within (least (prices_of m rs)) (greatest (prices_of m rs))) (grid_of (tier_of f m))) (ladder_of f h.low h.high) blank blank
      (λ m q. rw (least-held f rs h m q, greatest-held f rs h m q)) (λ m p q g. refl) in
      rw same found.keys

  some-row : non_empty (body_of bs) ((rules cal).live (body_of bs).at) ≡ true
  unfolding rules span_low body_of
  some-row =
      let f : ℕ = first_at cal (moment_of bs) in
      let rs : List Row = (body_of bs).rows in
      let h = scan-held in
      all_some (body_of bs) (live_months f) (λ m q. rw (least-held f rs h m q) (there f rs h m (h.low m) q (h.low-on m q) (omega arith) (h.order m q)))

  pub stands_if : waiting_ok (rules cal) (body_of bs) [] (body_of bs).waiting ≡ true → Running cal bs
  unfolding rules body_of moment_of
  stands_if w = record {
    written = sym (layout_is bs bytes l r.keeps ends);
    well = record {
      sound = record {
        session-day = r.day-session;
        good-at = refl;
        live = le-leb (first_at cal (moment_of bs)) last_first_month r.first_le;
        entries = found.entries;
        short = le-leb (length (body_of bs).waiting) most_waiting (omega (arith, places_count (get_or bs 1 0) (drop 8 bs), r.keeps.waiting));
        waits = w;
      };
      keys = keys_are;
      some-row = some-row;
    };
  }

-- ---- the answers
module _ (cal bs : List ℕ) where
  pub none_stand : (Running cal bs → ⊥) → runs_well cal bs ≡ false
  none_stand never = by_bool (runs_well cal bs) (λ h. absurd (never (runs cal bs h))) (λ h. h)
