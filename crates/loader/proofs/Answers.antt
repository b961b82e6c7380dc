-- What writing answers and leaves, by the way that it took: refused, or written.
-- Assumes nothing.
use mathlib.Core.Path.{◌≡◌, sym, ap, ◌∙◌}
use mathlib.Core.List.{List, [], ◌++◌, map}
use Prim.Native.Nat.{ℕ, ◌+◌, ◌*◌, ◌≤◌, ◌<◌}
use native.Mathlib.Omega.{arith}
use lib.Dec.{ltb}
use lib.ListN.{length, take, drop}
use Rattle.std.specs.Simd.{first_chunks}
use Rattle.std.proofs.lemmas.List.{take-map, drop-map}
use borrow.Author.Tests.{ne_eqb, lt-ltb, le-ltb}
use Rattle.base.specs.Words.{at16}
use Rattle.std.specs.Prelude.{Result, Ok, Err}
use Rattle.base.specs.Causes.{first_cause}
use Rattle.base.specs.Numbers.{number_of}
use Rattle.base.specs.declared.causes.Cause.{Cause}
use Rattle.base.specs.declared.causes.Cause.TheVariants.{OutputLength}
use Rattle.base.proofs.NumberLaws.{number-from}
use Rattle.base.proofs.CauseLaws.{caused, passed}
use Rattle.rules.specs.Rulebook.{rules}
use Rattle.layout.specs.Register.{running}
use Rattle.layout.specs.Bytes.{rows_from, row_of, moment_of, body_of, reg_of}
use Rattle.layout.specs.Opening.{Refused, Reads}
use Rattle.layout.proofs.OpeningLaws.{reads_own, refused_own}
use Rattle.layout.proofs.Running.{Running}
use Rattle.layout.proofs.Chunks.{rows_chunked}
use Rattle.rules.specs.Rulebook.{first_at}
use Rattle.fields.specs.Fields.{file_of}
use Rattle.naming.specs.DayFile.{new_rows, day_file}
use Rattle.naming.specs.Parts.{before, sequence}
use Rattle.loader.specs.Loader.{written_of, file_cause, file_number, file_at, file_after}
use Rattle.loader.proofs.Listed.{rows_read, next_january, earlier_of, later_of, first_is, new_parts, list_is, file-length}

module _ (cal bs out : List ℕ) where
  abbrev pub Answers : Result ℕ Cause → List ℕ → Type 0
  Answers told after = (written_of told ≡ file_at cal bs out) × (after ≡ file_after (rules cal) bs out)

  pub refused_file : {why : Cause} → Refused cal bs (file_cause out (reg_of bs)) why → Answers (Err why) out
  unfolding file_at file_after file_number
  refused_file {why} x =
      let some : number_of why ≡ 0 → ⊥ = λ z. omega (arith, number-from why, z) in
      (rw (x.says, ne_eqb (number_of why) 0 some, ← x.month), rw (x.says, ne_eqb (number_of why) 0 some))

  module _ (x : Reads cal bs (running (body_of bs))) where
    -- the buffer is too short
    pub short_file : length out < length (day_file (body_of bs)) → Answers (Err OutputLength) out
    unfolding file_cause
    short_file h =
        refused_file
        (refused_own cal bs (running (body_of bs)) x (file_cause out) OutputLength (sym (caused (ltb (length out) (length (day_file (body_of bs)))) 29 [] (lt-ltb _ _ h))) (λ q. omega arith))

    -- it has room
    whole_file : length (day_file (body_of bs)) ≤ length out
        → Answers (Ok (length (day_file (body_of bs)))) (day_file (body_of bs) ++ drop (length (day_file (body_of bs))) out)
    unfolding file_at file_after file_number file_cause first_cause
    whole_file h =
        let z : file_number (rules cal) bs out ≡ 0 = reads_own cal bs (running (body_of bs)) x (file_cause out) ∙ passed (ltb (length out) (length (day_file (body_of bs)))) 30 [] (le-ltb _ _ h) in
        (rw z, rw z)

    -- as the rows are read
    module _ (run : Running cal bs) {day count : ℕ} {rows : List (List ℕ)} (d : day ≡ at16 bs 2) (c : count ≡ at16 bs 4) (r : rows ≡ first_chunks 8 count (drop rows_from bs)) where
      rows_are : map row_of rows ≡ rows_read bs
      rows_are = rw (r, c) (rows_chunked (at16 bs 4) (drop rows_from bs))

      -- as long as they are counted
      pub size_is : {new : ℕ} → new ≡ length (new_rows day (map row_of rows)) → 5 + 30 * new ≡ length (day_file (body_of bs))
      size_is n = ap (λ (n : ℕ). 5 + 30 * n) (rw (d, rows_are) at n) ∙ sym (file-length cal bs x.size run)

      -- in parts
      module _ {first k : ℕ} {earlier later : List (List ℕ)} (m : first ≡ at16 bs rows_from) (s : k ≡ before (next_january first) (map row_of rows)) (e : earlier ≡ take k rows) (l : later ≡ drop k rows) where
        earlier_is : map row_of earlier ≡ earlier_of (first_at cal (moment_of bs)) (rows_read bs)
        earlier_is = rw (e, ← take-map row_of k rows, s, rows_are, m, first_is cal bs x.size run)

        later_is : map row_of later ≡ later_of (first_at cal (moment_of bs)) (rows_read bs)
        later_is = rw (l, ← drop-map row_of k rows, s, rows_are, m, first_is cal bs x.size run)

        pub parts_size : length (new_rows day (map row_of earlier)) + length (new_rows day (map row_of later)) ≡ length (new_rows day (map row_of rows))
        parts_size = rw (d, earlier_is, later_is, rows_are) (new_parts cal bs x.size run)

        parts_are : file_of day (sequence day (map row_of earlier) (map row_of later)) ≡ day_file (body_of bs)
        unfolding day_file body_of moment_of
        parts_are = rw (d, earlier_is, later_is) (ap (file_of (at16 bs 2)) (list_is cal bs x.size run))

        pub written_file : {size : ℕ} {after : List ℕ} → size ≡ length (day_file (body_of bs)) → size ≤ length out
            → after ≡ file_of day (sequence day (map row_of earlier) (map row_of later)) ++ drop size out
            → Answers (Ok size) after
        written_file e h w =
            let f = whole_file (omega (arith, e, h)) in
            (rw e f.0, w ∙ rw (parts_are, e) f.1)
