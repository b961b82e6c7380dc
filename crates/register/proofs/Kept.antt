-- The layout, as a scan of the bytes finds it, is that the bytes are what is written of what is read.
-- Assumes nothing.
use mathlib.Core.Path.{◌≡◌, refl, sym, ap, ◌∙◌, subst}
use mathlib.Core.Bool.{true}
use mathlib.Core.List.{List, [], ◌∷◌, ◌++◌, append_assoc}
use Prim.Native.Nat.{ℕ, zero, suc, ◌+◌, ◌-◌, ◌*◌, ◌≤◌, ◌<◌}
use native.Mathlib.Nat.{add-zero}
use native.Mathlib.Omega.{arith}
use lib.ListN.{length, get_or, take, drop, replicate, length-append, length-take, length-drop, length-replicate, take-append-drop}
use lib.Seq.{take_at, drop_at, drop-drop, get_or-drop}
use Rattle.layout.specs.Rows.{Row}
use Rattle.layout.specs.Register.{Body}
use Rattle.base.specs.Words.{two, at16}
use Rattle.layout.specs.Bytes.{places_bytes, rows_bytes, padded, body_bytes, read_rows, moment_of, body_of, all_zero, register_length, rows_from, places_length, rows_length, most_rows}
use Rattle.register.specs.Check.{Keeps}
use Rattle.layout.specs.Spans.{places_at}
use Rattle.layout.proofs.ByteLaws.{places-length, rows-length, padded-length, zeros_zero, places_none, places_some, places_count, rows-count, zeros_are}
use Rattle.base.proofs.WordLaws.{at16-drop, two-append, one_at, two_at}

-- the last byte of each of n rows is zero
abbrev pub EndsZero : ℕ → List ℕ → Type 0
EndsZero zero xs = Unit {0}
EndsZero (suc n) xs = (get_or xs 7 0 ≡ 0) × EndsZero n (drop 8 xs)

-- ---- from the scan to the layout: what is read, written before the bytes behind it, is the bytes that it was read of
module _ (bs : List ℕ) (bytes : (i : ℕ) → get_or bs i 0 < 256) where
  places-from : (w at : ℕ) → at + 4 * w ≤ length bs → places_bytes (places_at bs at w) ++ drop (at + 4 * w) bs ≡ drop at bs
  unfolding places_bytes
  places-from zero at h = let e : at + 4 * 0 ≡ at = omega arith in rw (e, places_none bs at 0 (omega arith))
  places-from (suc w) at h =
      let e : at + 4 * suc w ≡ at + 4 + 4 * w = omega arith in
      let n : suc w - 1 ≡ w = omega arith in
      rw (
        places_some bs at (suc w) (omega arith),
        n,
        two-append,
        two-append,
        e,
        places-from w (at + 4) (omega arith),
        two_at bs bytes (at + 2) (at + 4) (omega arith) (omega arith),
      )
      (two_at bs bytes at (at + 2) (omega arith) (omega arith))

  rows-from : (n at : ℕ) → at + 8 * n ≤ length bs → EndsZero n (drop at bs) → rows_bytes (read_rows n (drop at bs)) ++ drop (at + 8 * n) bs ≡ drop at bs
  unfolding rows_bytes read_rows
  rows-from zero at h z = let e : at + 8 * 0 ≡ at = omega arith in rw e
  rows-from (suc n) at h z =
      let e : at + 8 * suc n ≡ at + 8 + 8 * n = omega arith in
      let end : get_or bs (at + 7) 0 ≡ 0 = sym (get_or-drop at bs 7 0) ∙ z.0 in
      let d₈ : drop 8 (drop at bs) ≡ drop (at + 8) bs = drop-drop 8 at bs in
      let i = rows-from n (at + 8) (omega arith) (rw d₈ at z.1) in
      rw (
        at16-drop bs at 0,
        at16-drop bs at 2,
        at16-drop bs at 4,
        get_or-drop at bs 6 0,
        add-zero at,
        d₈,
        two-append,
        two-append,
        two-append,
        e,
        i,
        one_at bs (at + 7) (at + 8) 0 (omega arith) (omega arith) end,
        one_at bs (at + 6) (at + 7) (get_or bs (at + 6) 0) (omega arith) (omega arith) refl,
        two_at bs bytes (at + 4) (at + 6) (omega arith) (omega arith),
        two_at bs bytes (at + 2) (at + 4) (omega arith) (omega arith),
      )
      (two_at bs bytes at (at + 2) (omega arith) (omega arith))

  module _ (l : length bs ≡ register_length) (k : Keeps bs) (ends : EndsZero (at16 bs 4) (drop rows_from bs)) where
    waiting_part : (m : ℕ) → m ≡ places_length - 4 * get_or bs 1 0 → replicate m 0 ++ drop rows_from bs ≡ drop (8 + 4 * get_or bs 1 0) bs
    waiting_part m e =
        let h = k.waiting in
        let at : ℕ = 8 + 4 * get_or bs 1 0 in
        let n : length (take (rows_from - at) (drop at bs)) ≡ m = omega (arith, length-take (rows_from - at) (drop at bs), length-drop at bs) in
        let d : at + (rows_from - at) ≡ rows_from = omega arith in
        let rest : drop rows_from bs ≡ drop (rows_from - at) (drop at bs) = sym (drop-drop (rows_from - at) at bs ∙ ap (λ (i : ℕ). drop i bs) d) in
        rw (← zeros_are (take (rows_from - at) (drop at bs)) m n k.places, rest) (take-append-drop (rows_from - at) (drop at bs))

    behind_part : (m : ℕ) → m ≡ rows_length - 8 * at16 bs 4 → replicate m 0 ≡ drop (rows_from + 8 * at16 bs 4) bs
    behind_part m e =
        let h = k.count in
        sym (zeros_are (drop (rows_from + 8 * at16 bs 4) bs) m (omega (arith, length-drop (rows_from + 8 * at16 bs 4) bs)) k.behind)

    pub layout_is : body_bytes (body_of bs) ≡ bs
    unfolding body_bytes body_of moment_of padded
    layout_is =
        let w : ℕ = get_or bs 1 0 in
        let n : ℕ = at16 bs 4 in
        let h = k.waiting in
        let g = k.count in
        let p : length (places_bytes (places_at bs 8 w)) ≡ 4 * w = places-length (places_at bs 8 w) ∙ ap (λ (i : ℕ). 4 * i) (places_count w (drop 8 bs)) in
        let q : length (rows_bytes (read_rows n (drop rows_from bs))) ≡ 8 * n = rows-length (read_rows n (drop rows_from bs)) ∙ ap (λ (i : ℕ). 8 * i) (rows-count n (drop rows_from bs)) in
        rw (
          places_count w (drop 8 bs),
          rows-count n (drop rows_from bs),
          behind_part (rows_length - length (rows_bytes (read_rows n (drop rows_from bs)))) (rw q),
          rows-from n rows_from (omega arith) ends,
          append_assoc (places_bytes (places_at bs 8 w)),
          waiting_part (places_length - length (places_bytes (places_at bs 8 w))) (rw p),
          places-from w 8 (omega arith),
          one_at bs 7 8 0 (omega arith) (omega arith) k.seven,
          one_at bs 6 7 0 (omega arith) (omega arith) k.six,
          two_at bs bytes 4 6 (omega arith) (omega arith),
          two_at bs bytes 2 4 (omega arith) (omega arith),
          one_at bs 1 2 w (omega arith) (omega arith) refl,
        )
        (one_at bs 0 1 1 (omega arith) (omega arith) k.status)

-- ---- and from the layout to the scan
ends-written : (rs : List Row) (rest : List ℕ) → EndsZero (length rs) (rows_bytes rs ++ rest)
unfolding rows_bytes two
ends-written [] rest = tt
ends-written (r ∷ rs) rest = (refl, ends-written rs rest)

body_sizes : (b : Body) → length (body_bytes b) ≡ register_length → (length b.waiting ≤ 32) × (length b.rows ≤ most_rows)
unfolding body_bytes two padded
body_sizes b l = let e = simp (length-append, length-replicate, places-length, rows-length) at l in (omega arith, omega arith)

module _ (b : Body) (l : length (body_bytes b) ≡ register_length) where
  count_is : at16 (body_bytes b) 4 ≡ length b.rows
  unfolding at16 body_bytes two
  count_is = omega arith

  pub rows-part : drop rows_from (body_bytes b) ≡ rows_bytes b.rows ++ replicate (rows_length - length (rows_bytes b.rows)) 0
  unfolding body_bytes two padded
  rows-part =
      let h = (body_sizes b l).0 in
      let p = places-length b.waiting in
      drop_at (padded places_length (places_bytes b.waiting)) _ places_length (padded-length places_length (places_bytes b.waiting) (omega arith))

  unused_zero : all_zero (take (rows_from - (8 + 4 * length b.waiting)) (drop (8 + 4 * length b.waiting) (body_bytes b))) ≡ true
  unfolding body_bytes two padded
  unused_zero =
      let P : List ℕ = places_bytes b.waiting in
      let p = places-length b.waiting in
      let Z : List ℕ = replicate (places_length - length P) 0 in
      let n : length Z ≡ rows_from - (8 + 4 * length b.waiting) = length-replicate {A = ℕ} (places_length - length P) 0 ∙ omega arith in
      rw (← drop-drop (4 * length b.waiting) 8 (body_bytes b), append_assoc P, drop_at P _ (4 * length b.waiting) p, take_at Z _ (rows_from - (8 + 4 * length b.waiting)) n)
      (zeros_zero (places_length - length P))

  behind_zero : all_zero (drop (rows_from + 8 * length b.rows) (body_bytes b)) ≡ true
  behind_zero =
      let Q : List ℕ = rows_bytes b.rows in
      rw (← drop-drop (8 * length b.rows) rows_from (body_bytes b), rows-part, drop_at Q (replicate (rows_length - length Q) 0) (8 * length b.rows) (rows-length b.rows))
      (zeros_zero (rows_length - length Q))

  header_is : (get_or (body_bytes b) 0 0 ≡ 1) × (get_or (body_bytes b) 1 0 ≡ length b.waiting) × (get_or (body_bytes b) 6 0 ≡ 0) × (get_or (body_bytes b) 7 0 ≡ 0)
  unfolding body_bytes two
  header_is = (refl, refl, refl, refl)

  body_keeps : Keeps (body_bytes b) × EndsZero (at16 (body_bytes b) 4) (drop rows_from (body_bytes b))
  body_keeps =
      let h = body_sizes b l in
      let e = header_is in
      let n = count_is in (
        record {
          status = e.0;
          waiting = omega arith;
          six = e.2;
          seven = e.3;
          count = omega arith;
          places = rw e.1 unused_zero;
          behind = rw n behind_zero;
        },
        rw (n, rows-part) (ends-written b.rows _),
      )

pub kept : (bs : List ℕ) → length bs ≡ register_length → bs ≡ body_bytes (body_of bs) → Keeps bs × EndsZero (at16 bs 4) (drop rows_from bs)
kept bs l e =
    subst (λ (xs : List ℕ). Keeps xs × EndsZero (at16 xs 4) (drop rows_from xs)) (sym e) (body_keeps (body_of bs) (sym (ap length e) ∙ l))
