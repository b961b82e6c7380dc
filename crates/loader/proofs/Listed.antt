-- The sequence in which the series of a running register are written is its list, and how long its file is.
-- Assumes nothing.
use mathlib.Core.Path.{◌≡◌, refl, sym, ap, ◌∙◌}
use mathlib.Core.List.{List, ◌++◌, append_assoc}
use Prim.Native.Nat.{ℕ, ◌+◌, ◌*◌, ◌/◌, ◌%◌, ◌≤◌}
use native.Mathlib.Omega.{arith}
use lib.ListN.{length, take, drop, length-append}
use Rattle.base.specs.Words.{at16}
use Rattle.base.proofs.WordLaws.{at16-drop}
use Rattle.rules.specs.Rulebook.{first_at}
use Rattle.layout.specs.Rows.{Row}
use Rattle.layout.specs.Bytes.{register_length, rows_from, read_rows, body_of, moment_of}
use Rattle.layout.proofs.Held.{Held}
use Rattle.layout.proofs.Running.{Running}
use Rattle.register.proofs.Well.{run_keeps, run-first, run-held}
use Rattle.naming.specs.DayFile.{new_rows, series_of, day_list, day_file}
use Rattle.naming.specs.Parts.{before, sequence}
use Rattle.naming.proofs.Climbing.{new-append}
use Rattle.naming.proofs.Rises.{both}
use Rattle.naming.proofs.Sequence.{series-count, file_bytes, sequence_bytes, arranged_years}
use Rattle.naming.proofs.Years.{first_read, rows_cut, two_years, new_years}

-- the rows of a register, those before the first of the year after a month's, and those from it on
abbrev pub rows_read : List ℕ → List Row
rows_read bs = read_rows (at16 bs 4) (drop rows_from bs)

abbrev pub next_january : ℕ → ℕ
next_january first = 12 * (first / 12 + 1)

abbrev pub earlier_of : ℕ → List Row → List Row
earlier_of first rs = take (before (next_january first) rs) rs

abbrev pub later_of : ℕ → List Row → List Row
later_of first rs = drop (before (next_january first) rs) rs

module _ (cal bs : List ℕ) (l : length bs ≡ register_length) (r : Running cal bs) where
  abbrev f : ℕ
  f = first_at cal (moment_of bs)

  abbrev rs : List Row
  rs = rows_read bs

  -- its rows, in the two parts in which they are written
  abbrev earlier : List Row
  earlier = earlier_of f rs

  abbrev later : List Row
  later = later_of f rs

  held : Held f rs
  unfolding body_of
  held = run-held cal bs l r

  pub rows-most : at16 bs 4 ≤ 1391
  rows-most = (run_keeps cal bs l r).count

  pub rows_inside : rows_from + 8 * at16 bs 4 ≤ length bs
  rows_inside = omega (arith, rows-most)

  -- the first row is of the first live month
  pub first_is : at16 bs rows_from ≡ f
  first_is = sym (at16-drop bs rows_from 0) ∙ (first_read (at16 bs 4) f (drop rows_from bs) held).1

  pub first-month : at16 bs rows_from ≤ 1190
  first-month = omega (arith, first_is, run-first cal bs l r)

  new_cut : new_rows (at16 bs 2) rs ≡ new_rows (at16 bs 2) earlier ++ new_rows (at16 bs 2) later
  new_cut = ap (new_rows (at16 bs 2)) (rows_cut f rs held) ∙ new-append (at16 bs 2) earlier later

  -- as many are new in both parts as are new
  pub new_parts : length (new_rows (at16 bs 2) earlier) + length (new_rows (at16 bs 2) later) ≡ length (new_rows (at16 bs 2) rs)
  new_parts = sym (ap length new_cut ∙ length-append (new_rows (at16 bs 2) earlier) (new_rows (at16 bs 2) later))

  -- the sequence in which the series are written is the list of the register
  pub list_is : sequence (at16 bs 2) earlier later ≡ day_list (body_of bs)
  unfolding sequence day_list body_of moment_of
  list_is =
      let day : ℕ = at16 bs 2 in
      let e : List Row = new_rows day earlier in
      let l : List Row = new_rows day later in
      rw new_cut
      (sym (append_assoc (series_of 0 l) (series_of 0 e) (both e l 1))
      ∙ sym (arranged_years (f / 12) (f % 12) e l (new_years day (f / 12) (f % 12) earlier later (two_years f rs held))))

  -- a call and a put for each new row
  pub list_length : length (day_list (body_of bs)) ≡ 2 * length (new_rows (at16 bs 2) rs)
  unfolding sequence
  list_length = rw (← list_is, new_cut) (simp (length-append, series-count) (omega arith))

  -- how long the file is
  pub file-length : length (day_file (body_of bs)) ≡ 5 + 30 * length (new_rows (at16 bs 2) rs)
  unfolding day_file
  file-length =
      let day : ℕ = at16 bs 2 in
      file_bytes _ (day_list (body_of bs))
      ∙ rw (← list_is, sequence_bytes day earlier later, new_cut, length-append (new_rows day earlier) (new_rows day later)) refl
