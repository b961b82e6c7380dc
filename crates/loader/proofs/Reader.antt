-- What the file of a running register tells a reader: exactly the day's series, each once and ascending; how long it is; and that
-- it is written. The papers' own numbers are written out here and not named: a constant of the definitions that is set wrong fails.
-- Assumes nothing.
use mathlib.Core.Path.{◌≡◌, refl, sym, ap, ◌∙◌}
use mathlib.Core.Bool.{true}
use mathlib.Core.List.{List, [], ◌∷◌, ◌++◌, append-nil}
use mathlib.Core.Option.{none}
use Prim.Native.Nat.{ℕ, ◌+◌, ◌*◌, ◌≤◌, ◌<◌}
use native.Mathlib.Omega.{arith}
use lib.Dec.{ltb, leb}
use lib.ListN.{length, drop}
use borrow.Author.Tests.{le-ltb, ne_eqb}
use Rattle.base.specs.Words.{at16}
use Rattle.base.specs.Lists.{elem}
use Rattle.base.specs.Causes.{cause}
use Rattle.base.specs.declared.Tier.{Tier}
use Rattle.base.specs.declared.Tier.TheVariants.{N, M, F}
use Rattle.base.proofs.Tests.{by_le, and_l, and_r}
use Rattle.base.proofs.CauseLaws.{alone}
use Rattle.calendar.specs.Calendar.{Passes}
use Rattle.calendar.specs.Live.{tier_of}
use Rattle.grid.specs.Grid.{grid_of}
use Rattle.grid.proofs.GridLaws.{F_in_M, M_in_N}
use Rattle.names.specs.Names.{name_of, read_cause}
use Rattle.rules.specs.Rulebook.{first_at, rules}
use Rattle.rules.proofs.RulebookLaws.{live_le}
use Rattle.layout.specs.Rows.{Row, entry_ok, find}
use Rattle.layout.specs.Register.{Body, running, entries_ok}
use Rattle.layout.specs.Bytes.{rows_from, body_of, moment_of}
use Rattle.layout.specs.Spans.{runs_well}
use Rattle.layout.proofs.ByteLaws.{rows-count}
use Rattle.layout.proofs.Running.{Running, runs}
use Rattle.layout.proofs.OpeningLaws.{reads-running, reads_own}
use Rattle.register.proofs.Well.{run-first, run-day, run-held}
use Rattle.fields.specs.Fields.{all_series, rising}
use Rattle.fields.specs.Reading.{file_read, dated}
use Rattle.fields.proofs.Laws.{reads_back}
use Rattle.fields.proofs.Arranged.{lookup, or_else, or_none, arranged_found, arranged_rises, found-append, arranged-series, found_none}
use Rattle.naming.specs.DayFile.{new_rows, series_of, day_list, day_file}
use Rattle.naming.proofs.Climbing.{Each, each_both, each_new, new-count}
use Rattle.naming.proofs.Years.{LiveRow, held-live, held_climb}
use Rattle.naming.proofs.Sequence.{all_above}
use Rattle.loader.specs.declared.Written.{Written}
use Rattle.loader.specs.Loader.{file_cause, file_number, file_at, file_after}
use Rattle.loader.proofs.Listed.{rows-most, list_length, file-length}
use Rattle.loader.proofs.Found.{SeriesRow, all-series, new_field, found_type, found_other}

-- ---- the rows of a running register are those of series
on_N : (t : Tier) (p : ℕ) → elem p (grid_of t) ≡ true → elem p (grid_of N) ≡ true
on_N N p h = h
on_N M p h = M_in_N p h
on_N F p h = M_in_N p (F_in_M p h)

each-entry : (day : ℕ) (rs : List Row) → entries_ok day rs ≡ true → Each (λ r. entry_ok day r.entry ≡ true) rs
unfolding entries_ok
each-entry day [] h = tt
each-entry day (r ∷ rs) h = (and_l (entry_ok day r.entry) _ h, each-entry day rs (and_r (entry_ok day r.entry) _ h))

-- names ascend by byte value, in the list of any register
pub list_rises : (b : Body) → rising [] (day_list b) ≡ true
unfolding day_list
list_rises b = arranged_rises [] _ (all_above (new_rows b.at.day b.rows))

module _ (cal bs : List ℕ) (l : length bs ≡ 11264) (r : Running cal bs) where
  abbrev b : Body
  b = body_of bs

  all-rows : Each SeriesRow b.rows
  unfolding entry_ok
  all-rows =
      let f : ℕ = first_at cal (moment_of bs) in
      each_both (LiveRow f) (λ x. entry_ok b.at.day x.entry ≡ true) SeriesRow
      (λ x a e. let m = live_le f x.month (run-first cal bs l r) a.live in
      record { month_in = omega arith; on-grid = on_N (tier_of f x.month) x.price a.on-grid; origin-in = and_r (leb x.entry.first b.at.day) _ e })
      b.rows (held-live f b.rows (run-held cal bs l r)) (each-entry b.at.day b.rows r.well.sound.entries)

  -- bytes 2–3 hold the day
  abbrev new : List Row
  new = new_rows (at16 bs 2) b.rows

  new-series : Each SeriesRow new
  new-series = each_new SeriesRow (at16 bs 2) b.rows all-rows

  -- each field is that of a series, with an origin from 1 to 5
  pub list-series : all_series (day_list b) ≡ true
  unfolding day_list body_of moment_of all_series
  list-series =
      arranged-series (series_of 0 new ++ series_of 1 new)
      (all-series 0 (omega arith) new (series_of 1 new) new-series (rw append-nil at (all-series 1 (omega arith) new [] new-series refl)))

  -- exactly the day's series: a name has a field where a row of its month and price stands whose first day is the day, with that
  -- row's origin
  pub list_holds : (m k p : ℕ) → m < 1200 → k ≤ 1 → p < 10000 → lookup (name_of m k p) (day_list b) ≡ new_field (at16 bs 2) (name_of m k p) (find m p b.rows)
  unfolding day_list body_of moment_of or_else
  list_holds m k p hm hk hp =
      let n : List ℕ = name_of m k p in
      let day : ℕ = at16 bs 2 in
      let f : ℕ = first_at cal (moment_of bs) in
      let own : (j : ℕ) → k ≡ j → lookup n (series_of j new) ≡ new_field day n (find m p b.rows) =
      λ j e. rw (← e) (found_type day m p hm hp k 0 b.rows all-rows (held_climb f b.rows (run-held cal bs l r))) in
      let other : (j : ℕ) → j < 2 → (k ≡ j → ⊥) → lookup n (series_of j new) ≡ none = λ j h d. found_other day m p hm hp k j (omega arith) h d new new-series in
      arranged_found n (series_of 0 new ++ series_of 1 new)
      ∙ found-append n (series_of 0 new) (series_of 1 new)
      ∙ by_le k 0
      (λ h. rw (other 1 (omega arith) (λ q. omega arith)) (sym (or_none (lookup n (series_of 0 new))) ∙ own 0 (omega arith)))
      (λ h. rw (other 0 (omega arith) (λ q. omega arith)) (own 1 (omega arith)))

  -- and bytes that are no series' name have none
  pub list_only : (n : List ℕ) → (read_cause n ≡ 0 → ⊥) → lookup n (day_list b) ≡ none
  list_only n h = found_none n (day_list b) h list-series

  -- its file reads back to its day and its list
  pub file-read : file_read (day_file b) ≡ dated (at16 bs 2) (day_list b)
  unfolding day_file body_of moment_of
  file-read = reads_back (at16 bs 2) (day_list b) (omega (arith, run-day cal bs l r)) list-series (list_rises b)

  -- ---- how long they are: a call and a put for each new row, 15 bytes each behind the day's 5
  pub list-size : length (day_list b) ≡ 2 * length new
  unfolding body_of
  list-size = list_length cal bs l r

  pub file-size : length (day_file b) ≡ 5 + 30 * length new
  unfolding body_of
  file-size = file-length cal bs l r

  -- no file is longer than the day and 1,391 calls and puts
  pub longest : length (day_file b) ≤ 41735
  unfolding body_of
  longest = omega (arith, file-size, new-count (at16 bs 2) b.rows, rows-count (at16 bs 4) (drop rows_from bs), rows-most cal bs l r)

-- ---- a buffer that has room is filled
module _ (cal bs out : List ℕ) (passes : Passes cal) (l : length bs ≡ 11264) (w : runs_well cal bs ≡ true) where
  own-cause : file_number (rules cal) bs out ≡ cause (ltb (length out) (length (day_file (body_of bs)))) 30
  unfolding file_number file_cause
  own-cause = reads_own cal bs (running (body_of bs)) (reads-running cal bs passes l w) (file_cause out) ∙ alone _

  -- room for the day and its series is enough, and the file's length is told
  pub told : 5 + 30 * length (new_rows (at16 bs 2) (body_of bs).rows) ≤ length out
      → file_at cal bs out ≡ record { number = 0; length = 5 + 30 * length (new_rows (at16 bs 2) (body_of bs).rows) }
  unfolding file_at cause
  told h =
      let e = file-size cal bs l (runs cal bs w) in
      let none : file_number (rules cal) bs out ≡ 0 = own-cause ∙ rw (le-ltb (length out) (length (day_file (body_of bs))) (omega arith)) in
      rw (none, e)

  -- 41,735 bytes are room for every register
  pub accepted : 41735 ≤ length out → file_number (rules cal) bs out ≡ 0
  unfolding file_at
  accepted h =
      let x = runs cal bs w in
      ap (λ (a : Written). a.number) (told (omega (arith, file-size cal bs l x, longest cal bs l x)))

  -- the file is at the front of the buffer then, and its other bytes are as they were
  pub kept : 5 + 30 * length (new_rows (at16 bs 2) (body_of bs).rows) ≤ length out
      → file_after (rules cal) bs out ≡ day_file (body_of bs) ++ drop (5 + 30 * length (new_rows (at16 bs 2) (body_of bs).rows)) out
  unfolding file_at file_after
  kept h = rw (ap (λ (a : Written). a.number) (told h), file-size cal bs l (runs cal bs w))

-- ---- what a refused call tells and leaves, by document 01: zeros but for the month of 13, and the buffer as it was
pub file-refused : (cal bs out : List ℕ) → (file_number (rules cal) bs out ≡ 0 → ⊥) → (file_number (rules cal) bs out ≡ 13 → ⊥)
    → (file_after (rules cal) bs out ≡ out) × ((file_at cal bs out).length ≡ 0)
unfolding file_after file_at
file-refused cal bs out h m = rw (ne_eqb (file_number (rules cal) bs out) 0 h, ne_eqb (file_number (rules cal) bs out) 13 m) (refl, refl)
