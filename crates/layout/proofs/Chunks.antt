-- Rows and announcements as pieces of the bytes in which they stand.
-- Assumes nothing.
use Rattle.std.proofs.Common.{◌≡◌, refl, ◌∙◌, ◌<◌, ℕ, zero, suc, ◌+◌, ◌*◌, ◌/◌, ◌≤◌, List, map, length, take, drop, arith, mul-suc}
use Rattle.std.proofs.Math.Nat.{mul-div_cancel_left}
use Rattle.std.proofs.lemmas.List.{take-take, drop-take, get_or-take, length-take-le, length-drop}
use Rattle.std.specs.Simd.{first_chunks}
use Rattle.base.specs.Words.{at16}
use Rattle.layout.specs.Bytes.{row_of, place_of, read_rows, read_places}

-- pieces that lie within a front are those of the front
pub chunks_within : (n k m : ℕ) (xs : List ℕ) → first_chunks n k (take (n * k + m) xs) ≡ first_chunks n k xs
chunks_within n zero m xs = refl
chunks_within n (suc k) m xs =
    let e : n * suc k + m ≡ n + (n * k + m) = omega (arith, mul-suc n k) in
    rw (e, take-take n (n + (n * k + m)) xs (omega arith), drop-take n (n * k + m) xs, chunks_within n k m (drop n xs))

-- as many as a part has that is cut to their size
pub chunks_cut : (n k m at : ℕ) (bs : List ℕ) → 0 < n → m ≡ n * k → at + m ≤ length bs
    → (length (take m (drop at bs)) / n ≡ k) × (first_chunks n k (take m (drop at bs)) ≡ first_chunks n k (drop at bs))
chunks_cut n k m at bs p e h =
    let l : length (take m (drop at bs)) ≡ n * k = length-take-le m (drop at bs) (simp length-drop (omega arith)) ∙ e in
    let f : m ≡ n * k + 0 = omega arith in
    (rw (l, mul-div_cancel_left k p), rw f (chunks_within n k 0 (drop at bs)))

-- two bytes of a piece
pub at16-take : (n i : ℕ) (xs : List ℕ) → i + 1 < n → at16 (take n xs) i ≡ at16 xs i
unfolding at16
at16-take n i xs h = rw (get_or-take n xs i 0 (omega arith), get_or-take n xs (suc i) 0 (omega arith))

row-front : (xs : List ℕ) → row_of (take 8 xs) ≡ row_of xs
row-front xs =
    rw (at16-take 8 0 xs (omega arith), at16-take 8 2 xs (omega arith), at16-take 8 4 xs (omega arith), get_or-take 8 xs 6 0 (omega arith))

pub rows_chunked : (n : ℕ) (xs : List ℕ) → map row_of (first_chunks 8 n xs) ≡ read_rows n xs
unfolding read_rows
rows_chunked zero xs = refl
rows_chunked (suc n) xs = rw (row-front xs, rows_chunked n (drop 8 xs))

place-front : (xs : List ℕ) → place_of (take 4 xs) ≡ place_of xs
place-front xs = rw (at16-take 4 0 xs (omega arith), at16-take 4 2 xs (omega arith))

pub places_chunked : (n : ℕ) (xs : List ℕ) → map place_of (first_chunks 4 n xs) ≡ read_places n xs
unfolding read_places
places_chunked zero xs = refl
places_chunked (suc n) xs = rw (place-front xs, places_chunked n (drop 4 xs))
