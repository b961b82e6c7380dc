-- The place that is told of bytes that are no file is the lowest of those that document 02 names, and bytes that are a file have none.
-- Assumes nothing.
use mathlib.Core.Path.{◌≡◌, refl, sym, ap, ◌∙◌}
use mathlib.Core.Bool.{Bool, true, false, not, ◌&&◌}
use mathlib.Core.List.{List, [], ◌∷◌}
use Prim.Native.Nat.{ℕ, zero, suc, ◌+◌, ◌-◌, ◌≤◌, ◌<◌}
use native.Mathlib.Omega.{arith}
use lib.Dec.{eqb, ltb, leb}
use lib.ListN.{length, get_or, drop, length-drop}
use lib.Seq.{drop-drop, get_or-drop}
use borrow.Author.Tests.{lt-ltb, ltb-true, le-leb, leb-true, eqb-true, eq-eqb, ne_eqb, not-true}
use Rattle.base.specs.Search.{first_in, some_in}
use Rattle.base.specs.Words.{at16}
use Rattle.base.proofs.Tests.{by_bool, by_le, by_three, clash, and_l, and_r, and_i, or_l, or_r, or_e, iff}
use Rattle.base.proofs.SearchLaws.{none-at, none_in, first-before, first_found, first_skip, first_hit, some_at}
use Rattle.dates.specs.Months.{day_count}
use Rattle.fields.specs.Fields.{Field}
use Rattle.fields.specs.Reading.{content_size, field_size, byte_stands, wrong, front_field, taken, Rest, good, bad, behind, series_from, File, dated, faulty, of_day, file_read}
use Rattle.fields.specs.Places.{size_of, start_of, end_of, has_field, name_before, cannot_stand, clean_field, content_fits, field_place, is_place}
use Rattle.fields.proofs.Shape.{right}
use Rattle.fields.proofs.Steps.{step-wrong, step_unfit, step-taken, none-good, file-wrong, file_late, file-series}

empty : (bs : List ℕ) → length bs ≤ 0 → bs ≡ []
empty [] h = refl
empty (b ∷ bs) h = absurd (omega arith)

module _ (bs : List ℕ) where
  abbrev rest : ℕ → List ℕ
  rest k = drop (start_of bs k) bs

  ends_at : (k : ℕ) → end_of bs k ≡ start_of bs k + size_of k (rest k)
  unfolding start_of
  ends_at k = refl

  three : (k : ℕ) → start_of bs k + 3 ≤ end_of bs k
  unfolding size_of field_size
  three k = omega (arith, ends_at k)

  -- fields begin one behind the other
  starts-on : (k i : ℕ) → k < i → end_of bs k ≤ start_of bs i
  starts-on k zero h = absurd (omega arith)
  starts-on k (suc i) h =
      by_le i k
      (λ l. let e : i ≡ k = omega arith in rw e (omega arith))
      (λ l. omega (arith, starts-on k i l, three i))

  has-start : (k : ℕ) → has_field bs k ≡ true → start_of bs k ≤ length bs
  unfolding has_field start_of
  has-start k h =
      or_e (eqb k 0) _ h
      (λ e. let z : k ≡ 0 = eqb-true k 0 e in rw z (omega arith))
      (λ e. let l = ltb-true (start_of bs k) (length bs) e in omega arith)

  -- ---- the sort of a place
  by_sort : {X : Type 0} (k q : ℕ) → field_place bs k q ≡ true
      → (cannot_stand bs k q ≡ true → X)
      → (q ≡ start_of bs k + 3 → clean_field bs k ≡ true → content_fits bs k ≡ false → X)
      → (q ≡ length bs → length bs < end_of bs k → X)
      → X
  unfolding field_place
  by_sort k q e f g h =
      let content : Bool = eqb q (start_of bs k + 3) in
      let end : Bool = eqb q (length bs) in
      or_e (cannot_stand bs k q) _ (and_r (has_field bs k) _ e)
      f
      (λ o. or_e (content && (clean_field bs k && not (content_fits bs k))) _ o
      (λ u. let v = and_r content _ u in
      g (eqb-true q (start_of bs k + 3) (and_l content _ u)) (and_l (clean_field bs k) _ v) (not-true (content_fits bs k) (and_r (clean_field bs k) _ v)))
      (λ c. h (eqb-true q (length bs) (and_l end _ c)) (ltb-true (length bs) (end_of bs k) (and_r end _ c))))

  place_has : (k q : ℕ) → field_place bs k q ≡ true → has_field bs k ≡ true
  unfolding field_place
  place_has k q e = and_l (has_field bs k) _ e

  place-from : (k q : ℕ) → field_place bs k q ≡ true → start_of bs k ≤ q
  unfolding cannot_stand
  place-from k q e =
      by_sort k q e
      (λ c. leb-true (start_of bs k) q (and_l (leb (start_of bs k) q) _ c))
      (λ p a b. omega arith)
      (λ p l. omega (arith, has-start k (place_has k q e)))

  -- ---- one field: n bytes by its tag, the day's or a series'
  module _ (k : ℕ) (first : Bool) (n : ℕ) (kind : eqb k 0 ≡ first) (sized : end_of bs k ≡ start_of bs k + n) where
    abbrev start : ℕ
    start = start_of bs k

    abbrev amiss : ℕ → Bool
    amiss = wrong first (rest k)

    room : length (rest k) ≡ length bs - start
    room = length-drop start bs

    tag_at : get_or (rest k) 0 0 ≡ get_or bs start 0
    tag_at = get_or-drop start bs 0 0 ∙ ap (λ (i : ℕ). get_or bs i 0) (let z : start + 0 ≡ start = omega arith in z)

    byte_at : (q : ℕ) → start ≤ q → get_or (rest k) (q - start) 0 ≡ get_or bs q 0
    byte_at q h = get_or-drop start bs (q - start) 0 ∙ ap (λ (i : ℕ). get_or bs i 0) (let z : start + (q - start) ≡ q = omega arith in z)

    -- a byte that cannot stand is at a wrong place of the field
    stands_amiss : (q : ℕ) → cannot_stand bs k q ≡ true → (start ≤ q) × (q < end_of bs k) × (amiss (q - start) ≡ true)
    unfolding cannot_stand wrong
    stands_amiss q e =
        let a : Bool = leb start q in
        let b : Bool = ltb q (end_of bs k) in
        let c : Bool = ltb q (length bs) in
        let h = leb-true start q (and_l a _ e) in
        let more = and_r b _ (and_r a _ e) in
        let stuck : not (byte_stands first (get_or (rest k) 0 0) (q - start) (get_or (rest k) (q - start) 0)) ≡ true
        = rw (tag_at, byte_at q h) (rw kind at (and_r c _ more)) in
        (h, ltb-true q (end_of bs k) (and_l b _ (and_r a _ e)), or_r (not (ltb (q - start) (length (rest k)))) _ stuck)

    -- and a wrong place that has a byte has such a one
    amiss-stands : (j : ℕ) → j < n → j < length (rest k) → amiss j ≡ true → cannot_stand bs k (start + j) ≡ true
    unfolding cannot_stand wrong
    amiss-stands j h l e =
        let z : start + j - start ≡ j = omega arith in
        or_e (not (ltb j (length (rest k)))) _ e
        (λ o. clash (ltb j (length (rest k))) (lt-ltb j (length (rest k)) l) (not-true _ o))
        (λ o. and_i (le-leb start (start + j) (omega arith))
        (and_i (lt-ltb (start + j) (end_of bs k) (omega arith))
        (and_i (lt-ltb (start + j) (length bs) (omega (arith, room)))
        (rw (kind, z, ← tag_at, ← get_or-drop start bs j 0) o))))

    -- ---- without a wrong place: the field is clean
    module _ (none : some_in amiss 0 n ≡ false) where
      within_bytes : end_of bs k ≤ length bs
      within_bytes =
          let last = right first (rest k) (n - 1) (none-at amiss n none (n - 1) (omega (arith, sized, three k))) in
          omega (arith, last.0, room, sized, three k)

      all_stand : (q : ℕ) → cannot_stand bs k q ≡ false
      all_stand q =
          by_bool (cannot_stand bs k q)
          (λ e. let w = stands_amiss q e in clash (amiss (q - start)) w.2 (none-at amiss n none (q - start) (omega (arith, w.0, w.1, sized))))
          (λ e. e)

      is_clean : clean_field bs k ≡ true
      unfolding clean_field
      is_clean = and_i (le-leb (end_of bs k) (length bs) within_bytes) (rw (none_in (cannot_stand bs k) (end_of bs k) (λ q h. all_stand q)) refl)

      -- so it has a place only where it does not fit, and that is its first content byte
      only_unfit : (q : ℕ) → field_place bs k q ≡ true → (q ≡ start + 3) × (content_fits bs k ≡ false)
      only_unfit q e =
          by_sort k q e
          (λ c. clash (cannot_stand bs k q) c (all_stand q))
          (λ p s u. (p, u))
          (λ p l. absurd (omega (arith, within_bytes)))

      fit_none : content_fits bs k ≡ true → (q : ℕ) → field_place bs k q ≡ false
      fit_none f q = by_bool (field_place bs k q) (λ e. clash (content_fits bs k) f (only_unfit q e).1) (λ e. e)

      unfit_place : has_field bs k ≡ true → content_fits bs k ≡ false → field_place bs k (start + 3) ≡ true
      unfolding field_place
      unfit_place has u =
          and_i has (or_r (cannot_stand bs k (start + 3)) _ (or_l _ _ (and_i (eq-eqb (start + 3) (start + 3) refl) (and_i is_clean (rw u refl)))))

    -- ---- with one: the first is the lowest of the field's places
    module _ (has : has_field bs k ≡ true) (some : some_in amiss 0 n ≡ true) where
      abbrev low : ℕ
      low = first_in amiss 0 n

      low_inside : low < n
      low_inside = ltb-true low n some

      low-room : low ≤ length (rest k)
      low-room =
          by_le low (length (rest k))
          (λ h. h)
          (λ h. absurd (omega (arith, (right first (rest k) (length (rest k)) (first-before amiss 0 n (length (rest k)) (omega arith) h)).0)))

      not_clean : clean_field bs k ≡ false
      unfolding clean_field
      not_clean =
          by_bool (clean_field bs k)
          (λ e. let l = leb-true (end_of bs k) (length bs) (and_l _ _ e) in
          let stuck = amiss-stands low low_inside (omega (arith, room, sized, low_inside)) (first_found amiss 0 n low_inside) in
          clash (some_in (cannot_stand bs k) 0 (end_of bs k)) (some_at (cannot_stand bs k) 0 (end_of bs k) (start + low) (omega arith) (omega (arith, sized, low_inside)) stuck) (not-true _ (and_r (leb (end_of bs k) (length bs)) _ e)))
          (λ e. e)

      low_place : field_place bs k (start + low) ≡ true
      unfolding field_place
      low_place =
          and_i has
          (by_le (length (rest k)) low
          (λ h. let e : start + low ≡ length bs = omega (arith, low-room, room, has-start k has) in
          or_r (cannot_stand bs k (start + low)) _
          (or_r (eqb (start + low) (start + 3) && (clean_field bs k && not (content_fits bs k))) _
          (and_i (eq-eqb (start + low) (length bs) e) (lt-ltb (length bs) (end_of bs k) (omega (arith, sized, low_inside))))))
          (λ h. or_l _ _ (amiss-stands low low_inside h (first_found amiss 0 n low_inside))))

      low-least : (q : ℕ) → field_place bs k q ≡ true → start + low ≤ q
      low-least q e =
          by_sort k q e
          (λ c. let w = stands_amiss q c in
          by_le low (q - start)
          (λ h. omega (arith, w.0))
          (λ h. clash (amiss (q - start)) w.2 (first-before amiss 0 n (q - start) (omega arith) h)))
          (λ p s u. clash (clean_field bs k) s not_clean)
          (λ p l. omega (arith, low-room, room, has-start k has))

  -- ---- along the fields: what is told is the lowest place of all

  -- the fields before the k-th have no place
  abbrev Passed : ℕ → Type 0
  Passed k = (i : ℕ) → i < k → (q : ℕ) → field_place bs i q ≡ false

  abbrev Told : ℕ → Type 0
  Told p = ((k : ℕ) × (field_place bs k p ≡ true)) × ((k q : ℕ) → field_place bs k q ≡ true → p ≤ q)

  abbrev None : Type 0
  None = (k q : ℕ) → field_place bs k q ≡ false

  told_here : (k p : ℕ) → Passed k → field_place bs k p ≡ true → p ≤ end_of bs k → ((q : ℕ) → field_place bs k q ≡ true → p ≤ q) → Told p
  told_here k p passed e l least = (
    (k, e),
    λ i q f. by_three i k
        (λ h. clash (field_place bs i q) f (passed i h q))
        (λ h. least q (rw h at f))
        (λ h. omega (arith, place-from i q f, starts-on k i h)),
  )

  pass : (k : ℕ) → Passed k → ((q : ℕ) → field_place bs k q ≡ false) → Passed (suc k)
  pass k passed here i h q = by_le k i (λ l. let e : i ≡ k = omega arith in rw e (here q)) (λ l. passed i l q)

  unfoldable Judged : Rest → Type 0
  Judged (good fs) = None
  Judged (bad p) = Told p

  judged-behind : (f : Field) (t : Rest) → Judged t → Judged (behind f t)
  unfolding Judged behind
  judged-behind f (good fs) j = j
  judged-behind f (bad p) j = j

  -- where the bytes end there is no further field
  ended : (k : ℕ) → length (rest (suc k)) ≤ 0 → Passed (suc k) → None
  unfolding has_field
  ended k h passed i q =
      by_le (suc k) i
      (λ l. by_bool (field_place bs i q)
      (λ e. or_e (eqb i 0) _ (place_has i q e)
      (λ z. absurd (omega (arith, eqb-true i 0 z)))
      (λ z. absurd (omega (arith, ltb-true (start_of bs i) (length bs) z, starts-on k i l, length-drop (start_of bs (suc k)) bs))))
      (λ e. e))
      (λ l. passed i l q)

  -- a field behind the day's
  module _ (k : ℕ) where
    abbrev at : ℕ
    at = start_of bs (suc k)

    abbrev size : ℕ
    size = field_size (get_or (rest (suc k)) 0 0)

    later : eqb (suc k) 0 ≡ false
    later = ne_eqb (suc k) 0 (omega arith)

    later-size : end_of bs (suc k) ≡ at + size
    unfolding size_of
    later-size = ends_at (suc k) ∙ rw later refl

    later_fits : content_fits bs (suc k) ≡ taken (name_before bs (suc k)) (front_field (rest (suc k)))
    unfolding content_fits
    later_fits = rw later refl

    later_has : 0 < length (rest (suc k)) → has_field bs (suc k) ≡ true
    unfolding has_field
    later_has h = or_r (eqb (suc k) 0) _ (lt-ltb at (length bs) (omega (arith, length-drop at bs)))

    rest-on : drop size (rest (suc k)) ≡ rest (suc (suc k))
    rest-on = drop-drop size at bs ∙ ap (λ (i : ℕ). drop i bs) (sym later-size)

  walk : (n k : ℕ) → Passed (suc k) → length (rest (suc k)) ≤ n → Judged (series_from n (start_of bs (suc k)) (name_before bs (suc k)) (rest (suc k)))
  unfolding Judged name_before
  walk zero k passed f = rw (empty (rest (suc k)) f, none-good 0 (start_of bs (suc k)) (name_before bs (suc k))) (ended k f passed)
  walk (suc n) k passed f =
      let last : List ℕ = name_before bs (suc k) in
      let front : Field = front_field (rest (suc k)) in
      by_le (length (rest (suc k))) 0
      (λ h. rw (empty (rest (suc k)) h, none-good (suc n) (at k) last) (ended k h passed))
      (λ h. let has = later_has k h in
      by_bool (some_in (wrong false (rest (suc k))) 0 (size k))
      (λ s. let low = low_inside (suc k) false (size k) (later k) (later-size k) has s in
      rw (step-wrong n (at k) last (rest (suc k)) h s)
      (told_here (suc k) _ passed
      (low_place (suc k) false (size k) (later k) (later-size k) has s)
      (omega (arith, low, later-size k))
      (low-least (suc k) false (size k) (later k) (later-size k) has s)))
      (λ s. by_bool (taken last front)
      (λ t. let none = fit_none (suc k) false (size k) (later k) (later-size k) s (later_fits k ∙ t) in
      let on = walk n (suc k) (pass (suc k) passed none) (omega (arith, f, later-size k, three (suc k), length-drop (at k) bs, length-drop (at (suc k)) bs)) in
      rw (step-taken n (at k) last (rest (suc k)) h s t)
      (judged-behind front _ (rw (rest-on k, ← later-size k) on)))
      (λ t. let u = later_fits k ∙ t in
      rw (step_unfit n (at k) last (rest (suc k)) h s t)
      (told_here (suc k) _ passed
      (unfit_place (suc k) false (size k) (later k) (later-size k) s has u)
      (three (suc k))
      (λ q e. omega (arith, (only_unfit (suc k) false (size k) (later k) (later-size k) s q e).0))))))

  -- ---- the whole file
  day-size : end_of bs 0 ≡ start_of bs 0 + 5
  unfolding start_of size_of field_size content_size
  day-size = refl

  day_has : has_field bs 0 ≡ true
  unfolding has_field
  day_has = refl

  day_fits : content_fits bs 0 ≡ ltb (at16 bs 3) day_count
  unfolding content_fits
  day_fits = iff (leb (at16 bs 3) 36524) (ltb (at16 bs 3) day_count)
      (λ e. lt-ltb (at16 bs 3) day_count (omega (arith, leb-true (at16 bs 3) 36524 e)))
      (λ e. le-leb (at16 bs 3) 36524 (omega (arith, ltb-true (at16 bs 3) day_count e)))

  unfoldable JudgedFile : File → Type 0
  JudgedFile (dated day fs) = None
  JudgedFile (faulty p) = Told p

  judged-dated : (day : ℕ) (t : Rest) → Judged t → JudgedFile (of_day day t)
  unfolding Judged JudgedFile of_day
  judged-dated day (good fs) j = j
  judged-dated day (bad p) j = j

  passed_none : Passed 0
  passed_none i h q = absurd (omega arith)

  judged : JudgedFile (file_read bs)
  unfolding JudgedFile start_of name_before size_of field_size content_size
  judged =
      by_bool (some_in (wrong true bs) 0 5)
      (λ w. let low : ℕ = first_in (wrong true bs) 0 5 in
      let z : 0 + low ≡ low = omega arith in
      let told = told_here 0 (0 + low) passed_none (low_place 0 true 5 refl day-size day_has w) (omega (arith, low_inside 0 true 5 refl day-size day_has w, day-size)) (low-least 0 true 5 refl day-size day_has w) in
      rw (file-wrong bs w) (rw z at told))
      (λ w. by_bool (ltb (at16 bs 3) day_count)
      (λ d. rw (file-series bs w d)
      (judged-dated (at16 bs 3) _ (walk (length bs) 0 (pass 0 passed_none (fit_none 0 true 5 refl day-size w (day_fits ∙ d))) (omega (arith, length-drop 5 bs)))))
      (λ d. rw (file_late bs w d)
      (told_here 0 3 passed_none (unfit_place 0 true 5 refl day-size w day_has (day_fits ∙ d)) (omega arith) (λ q e. omega (arith, (only_unfit 0 true 5 refl day-size w q e).0)))))

  -- a field that has a place is one of no more than there are bytes
  counted : (k : ℕ) → k ≤ start_of bs k
  counted zero = omega arith
  counted (suc k) = omega (arith, counted k, three k)

  place-within : (k q : ℕ) → field_place bs k q ≡ true → q ≤ length bs
  unfolding cannot_stand clean_field
  place-within k q e =
      by_sort k q e
      (λ c. let l = ltb-true q (length bs) (and_l (ltb q (length bs)) _ (and_r (ltb q (end_of bs k)) _ (and_r (leb (start_of bs k) q) _ c))) in omega arith)
      (λ p s u. omega (arith, three k, leb-true (end_of bs k) (length bs) (and_l (leb (end_of bs k) (length bs)) _ s)))
      (λ p l. omega arith)

  few : (k q : ℕ) → field_place bs k q ≡ true → k < suc (length bs)
  few k q e = omega (arith, counted k, has-start k (place_has k q e))

  is-place : (k q : ℕ) → field_place bs k q ≡ true → is_place bs q ≡ true
  unfolding is_place
  is-place k q e = some_at (λ (i : ℕ). field_place bs i q) 0 (suc (length bs)) k (omega arith) (few k q e) e

  no_place : (q : ℕ) → ((k : ℕ) → field_place bs k q ≡ false) → is_place bs q ≡ false
  unfolding is_place
  no_place q h = none_in (λ (i : ℕ). field_place bs i q) (suc (length bs)) (λ k l. h k)

-- the place that is told lies in the bytes or at their end
pub told-within : (bs : List ℕ) (p : ℕ) → file_read bs ≡ faulty p → p ≤ length bs
unfolding JudgedFile
told-within bs p e = let told : Told bs p = rw e at (judged bs) in place-within bs told.0.0 p told.0.1

-- and is the lowest
pub place-lowest : (bs : List ℕ) (p : ℕ) → file_read bs ≡ faulty p → first_in (is_place bs) 0 (suc (length bs)) ≡ p
unfolding JudgedFile
place-lowest bs p e =
    let told : Told bs p = rw e at (judged bs) in
    let low : (q : ℕ) → q < p → is_place bs q ≡ false =
    λ q h. no_place bs q (λ k. by_bool (field_place bs k q) (λ f. absurd (omega (arith, told.1 k q f))) (λ f. f)) in
    let inside = told-within bs p e in
    first_skip (is_place bs) 0 p (suc (length bs)) (omega arith) (omega arith) (λ q l h. low q h)
    ∙ first_hit (is_place bs) p (suc (length bs)) (omega arith) (is-place bs told.0.0 p told.0.1)

-- bytes that are a file have none
pub place_none : (bs : List ℕ) (day : ℕ) (fs : List Field) → file_read bs ≡ dated day fs → (q : ℕ) → is_place bs q ≡ false
unfolding JudgedFile
place_none bs day fs e q = let none : None bs = rw e at (judged bs) in no_place bs q (λ k. none k q)
