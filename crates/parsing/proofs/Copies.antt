-- Series one behind the other: 15 bytes each in a file, of which 12 in a list.
-- Assumes nothing.
use mathlib.Core.Path.{◌≡◌, refl, sym, ap, ◌∙◌}
use mathlib.Core.Bool.{true, false, true≢false, false≢true}
use mathlib.Core.List.{List, [], ◌∷◌, ◌++◌}
use Prim.Native.Nat.{ℕ, zero, suc, ◌+◌, ◌-◌, ◌*◌, ◌/◌, ◌%◌, ◌≤◌, ◌<◌}
use native.Mathlib.Omega.{arith}
use lib.Dec.{ltb}
use lib.ListN.{length, take, drop, length-append, length-drop, take-append-drop}
use lib.Seq.{take_all, take_at, drop-drop, drop-append-add, length-take-le}
use borrow.Author.Tests.{lt-ltb, le-ltb}
use borrow.Rule.Slice.PartMut.{put_mid}
use Rattle.base.specs.Search.{some_in}
use Rattle.base.specs.Causes.{cause}
use Rattle.base.specs.Words.{two, at16}
use Rattle.base.proofs.Tests.{by_bool}
use Rattle.base.proofs.CauseLaws.{not-cause, alone, caused, passed}
use Rattle.base.proofs.Parts.{whole_part, put_rest, put_next}
use Rattle.dates.specs.Months.{day_count}
use Rattle.fields.specs.Fields.{Field, fields_bytes, all_series}
use Rattle.fields.specs.Reading.{content_size, field_size, wrong, Rest, good, bad, series_from, File, dated, faulty, of_day, file_read, is_faulty, place_in, series_in, series_bytes, checked_of, read_number, read_at, read_after}
use Rattle.fields.proofs.Shape.{is-series}
use Rattle.fields.proofs.Laws.{all_head, all_tail, series_back, series-bytes}

-- ---- the bytes of some series

long : (f : Field) (fs : List Field) → all_series (f ∷ fs) ≡ true → length f.content ≡ 12
long f fs a = (is-series f (all_head f fs a)).long

fields-bytes : (fs : List Field) → all_series fs ≡ true → length (fields_bytes fs) ≡ 15 * length fs
unfolding fields_bytes two
fields-bytes [] a = refl
fields-bytes (f ∷ fs) a = omega (arith, length-append f.content (fields_bytes fs), long f fs a, fields-bytes fs (all_tail f fs a))

-- the content of each
content-at : (fs : List Field) → all_series fs ≡ true → (i : ℕ) → i < length fs → take 12 (drop (12 * i) (series_bytes fs)) ≡ take 12 (drop (3 + 15 * i) (fields_bytes fs))
unfolding series_bytes fields_bytes two
content-at [] a i h = absurd (omega arith)
content-at (f ∷ fs) a zero h =
    let l = long f fs a in
    take_at f.content (series_bytes fs) 12 l ∙ sym (take_at f.content (fields_bytes fs) 12 l)
content-at (f ∷ fs) a (suc i) h =
    let l = long f fs a in
    let front : List ℕ = f.tag ∷ length f.content % 256 ∷ length f.content / 256 ∷ f.content in
    let p : 12 * suc i ≡ length f.content + 12 * i = omega arith in
    let q : 3 + 15 * suc i ≡ length front + (3 + 15 * i) = omega arith in
    rw (p, q, drop-append-add f.content (series_bytes fs) (12 * i), drop-append-add front (fields_bytes fs) (3 + 15 * i))
    (content-at fs (all_tail f fs a) i (omega arith))

-- ---- a file that is read without fault

told_list : (day : ℕ) (t : Rest) → is_faulty (of_day day t) ≡ false → t ≡ good (series_in (of_day day t))
unfolding is_faulty of_day series_in
told_list day (good fs) h = refl
told_list day (bad place) h = absurd (true≢false h)

-- its bytes behind the day are those of its series
record Listed (file : List ℕ) (fs : List Field) : Type 0 where
  rest : drop 5 file ≡ fields_bytes fs
  each : all_series fs ≡ true

listed : (file : List ℕ) → is_faulty (file_read file) ≡ false → Listed file (series_in (file_read file))
unfolding file_read is_faulty field_size content_size
listed file h =
    by_bool (some_in (wrong true file) 0 5)
    (λ e. absurd (true≢false (rw e at h)))
    (λ e. by_bool (ltb (at16 file 3) day_count)
    (λ g. let t : Rest = series_from (length file) 5 [] (drop 5 file) in
    let b = series_back (length file) 5 [] (drop 5 file) _ (told_list (at16 file 3) t (rw (e, g) at h)) in
    rw (e, g) (record { rest = b.0; each = b.1 }))
    (λ g. absurd (true≢false (rw (e, g) at h))))

-- ---- the copy of a list: so many series, and what stood there behind them
pub record Copied (file start list : List ℕ) (i : ℕ) : Type 0 where
  pub some : i ≤ length (series_in (file_read file))
  pub bytes : list ≡ take (12 * i) (series_bytes (series_in (file_read file))) ++ drop (12 * i) start

module _ (file start : List ℕ) (accepted : is_faulty (file_read file) ≡ false) where
  abbrev fs : List Field
  fs = series_in (file_read file)

  pub content_inside : (i : ℕ) → i < length fs → 5 + 15 * i + 3 + 12 ≤ length file
  content_inside i h =
      let l = listed file accepted in
      omega (arith, length-drop 5 file, ap length l.rest, fields-bytes fs l.each)

  content_is : (i : ℕ) → i < length fs → drop (12 * i) (series_bytes fs) ≡ take 12 (drop (5 + 15 * i + 3) file) ++ drop (12 * i + 12) (series_bytes fs)
  content_is i h =
      let l = listed file accepted in
      let at : 5 + 15 * i + 3 ≡ 5 + (3 + 15 * i) = omega arith in
      let e : take 12 (drop (12 * i) (series_bytes fs)) ≡ take 12 (drop (5 + 15 * i + 3) file) =
      rw (at, ← drop-drop (3 + 15 * i) 5 file, l.rest) (content-at fs l.each i h) in
      rw (← e, ← drop-drop 12 (12 * i) (series_bytes fs)) (sym (take-append-drop 12 (drop (12 * i) (series_bytes fs))))

  module _ (list : List ℕ) (i : ℕ) (copied : Copied file start list i) where
    pub copy-on : i < length fs → length list ≡ length start → 12 * i + 12 ≤ length list
        → Copied file start (put_mid (12 * i) 12 list (take 12 (drop (5 + 15 * i + 3) file))) (i + 1)
    copy-on h size fits =
        let new : List ℕ = take 12 (drop (5 + 15 * i + 3) file) in
        let room : 12 * i ≤ length (series_bytes fs) = omega (arith, series-bytes fs (listed file accepted).each) in
        let content : length new ≡ 12 = length-take-le 12 (drop (5 + 15 * i + 3) file) (simp length-drop (omega (arith, content_inside i h))) in
        let next : 12 * (i + 1) ≡ 12 * i + 12 = omega arith in
        record {
          some = omega arith;
          bytes =
              rw next (ap (λ (z : List ℕ). take (12 * i) list ++ (new ++ drop 12 z)) (sym (whole_part (12 * i) list))
              ∙ sym (put_rest (12 * i) list (new ++ drop 12 (take (length list - 12 * i) (drop (12 * i) list))))
              ∙ put_next (series_bytes fs) start list (12 * i) 12 room copied.bytes new (drop (12 * i + 12) (series_bytes fs)) (content_is i h) content (new ++ drop 12 (take (length list - 12 * i) (drop (12 * i) list))) refl);
        }

    pub copy_ends : length fs ≤ i → list ≡ series_bytes fs ++ drop (12 * length fs) start
    copy_ends h =
        let e : i ≡ length fs = omega (arith, copied.some) in
        let all : length (series_bytes fs) ≤ 12 * length fs = omega (arith, series-bytes fs (listed file accepted).each) in
        copied.bytes ∙ rw (e, take_all (12 * length fs) (series_bytes fs) all)

-- ---- what a read answers

pub sound : (f : File) → (checked_of f).number ≡ 0 → is_faulty f ≡ false
unfolding checked_of
sound f h = not-cause (is_faulty f) 30 h

pub unsound : (f : File) → ((checked_of f).number ≡ 0 → ⊥) → is_faulty f ≡ true
unfolding checked_of cause
unsound f h = by_bool (is_faulty f) (λ e. e) (λ e. absurd (h (rw e)))

checked-faulty : (f : File) → is_faulty f ≡ true → checked_of f ≡ record { number = 31; day = place_in f; series = 0 }
unfolding checked_of is_faulty place_in series_in cause
checked-faulty (dated day fs) h = absurd (false≢true h)
checked-faulty (faulty place) h = refl

module _ (file list : List ℕ) where
  abbrev read : File
  read = file_read file

  pub read-faulty : is_faulty read ≡ true → (checked_of read ≡ read_at file list) × (list ≡ read_after file list)
  unfolding read_at read_after read_number
  read-faulty h =
      let n : read_number file list ≡ 31 = caused (is_faulty read) 30 _ h in
      (rw n (checked-faulty read h), rw n)

  module _ (accepted : is_faulty read ≡ false) where
    bytes : length (series_bytes (series_in read)) ≡ 12 * length (series_in read)
    bytes = series-bytes (series_in read) (listed file accepted).each

    -- 30 alone is left
    number_is : read_number file list ≡ cause (ltb (length list) (12 * length (series_in read))) 30
    unfolding read_number
    number_is = rw bytes (passed (is_faulty read) 31 _ accepted ∙ alone _)

    pub read_short : length list < 12 * length (series_in read) → (record { number = 30; day = 0; series = 0 } ≡ read_at file list) × (list ≡ read_after file list)
    unfolding read_at read_after cause
    read_short h =
        let n : read_number file list ≡ 30 = number_is ∙ rw (lt-ltb (length list) (12 * length (series_in read)) h) in
        (rw n, rw n)

    pub read_whole : 12 * length (series_in read) ≤ length list → (checked_of read ≡ read_at file list) × (series_bytes (series_in read) ++ drop (12 * length (series_in read)) list ≡ read_after file list)
    unfolding read_at read_after checked_of cause
    read_whole h =
        let n : read_number file list ≡ 0 = number_is ∙ rw (le-ltb (length list) (12 * length (series_in read)) h) in
        (rw (n, accepted), rw (n, bytes))
