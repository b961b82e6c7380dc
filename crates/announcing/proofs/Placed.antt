-- One more announcement in the bytes.
-- Assumes nothing.
use mathlib.Core.Path.{◌≡◌, refl, sym, ap, ◌∙◌}
use mathlib.Core.List.{List, [], ◌∷◌, ◌++◌, append_assoc}
use Prim.Native.Nat.{ℕ, suc, ◌+◌, ◌-◌, ◌*◌, ◌<◌}
use native.Mathlib.Omega.{arith}
use lib.ListN.{length, get_or, take, drop, set, replicate, length-append}
use lib.Seq.{take_at, drop_at}
use borrow.Rule.Slice.PartMut.{put_mid}
use Rattle.layout.specs.Register.{Body, running}
use Rattle.base.specs.Words.{two}
use Rattle.layout.specs.Bytes.{places_bytes, rows_bytes, padded, body_bytes, body_of, bytes_of, places_length, rows_length}
use Rattle.layout.proofs.ByteLaws.{places-length, places_count}
use Rattle.base.proofs.Parts.{whole_part, put_rest}
use Rattle.calls.specs.Listing.{announce_body}
use Rattle.announcing.specs.Placing.{place_bytes, Room}

places-more : (ws : List (ℕ × ℕ)) (m p : ℕ) → places_bytes (ws ++ ((m, p) ∷ [])) ≡ places_bytes ws ++ place_bytes m p
unfolding places_bytes two
places-more [] m p = refl
places-more (w ∷ ws) m p = rw (places-more ws m p)

length_more : (ws : List (ℕ × ℕ)) (m p : ℕ) → length (ws ++ ((m, p) ∷ [])) ≡ length ws + 1
length_more ws m p = length-append ws ((m, p) ∷ [])

-- the first 8 bytes of a running register with n announcements: the six behind their number stay as they are
abbrev head : ℕ → List ℕ → List ℕ
head n six = 1 ∷ n ∷ six

-- n announcements P and what is behind the places; then the four bytes q of one more are written behind P
module _ (n : ℕ) (six P R : List ℕ) (sized : length six ≡ 6) (l : length P ≡ 4 * n) (h : n < 32) (bs : List ℕ)
    (e : bs ≡ head n six ++ ((P ++ replicate (places_length - length P) 0) ++ R)) (q last : List ℕ) (four : length q ≡ 4)
    (w : last ≡ q ++ drop 4 (take (length bs - (8 + 4 * n)) (drop (8 + 4 * n) bs))) where
  abbrev Z : List ℕ
  Z = replicate (124 - 4 * n) 0

  zeros : replicate (places_length - length P) 0 ≡ (0 ∷ 0 ∷ 0 ∷ 0 ∷ []) ++ Z
  zeros = let k : places_length - length P ≡ suc (suc (suc (suc (124 - 4 * n)))) = omega arith in rw k

  apart : bs ≡ (head n six ++ P) ++ ((0 ∷ 0 ∷ 0 ∷ 0 ∷ []) ++ (Z ++ R))
  apart = e ∙ rw (zeros, append_assoc six P, append_assoc P)

  front : length (head n six ++ P) ≡ 8 + 4 * n
  front = omega (arith, l, sized, length-append six P)

  before : take (8 + 4 * n) bs ≡ head n six ++ P
  before = ap (take (8 + 4 * n)) apart ∙ take_at (head n six ++ P) ((0 ∷ 0 ∷ 0 ∷ 0 ∷ []) ++ (Z ++ R)) (8 + 4 * n) front

  behind : drop 4 (drop (8 + 4 * n) bs) ≡ Z ++ R
  behind = ap (λ (z : List ℕ). drop 4 (drop (8 + 4 * n) z)) apart ∙ ap (drop 4) (drop_at (head n six ++ P) ((0 ∷ 0 ∷ 0 ∷ 0 ∷ []) ++ (Z ++ R)) (8 + 4 * n) front)

  stored : set (put_mid (8 + 4 * n) (length bs - (8 + 4 * n)) bs last) 1 (n + 1) ≡ head (n + 1) six ++ (((P ++ q) ++ replicate (places_length - length (P ++ q)) 0) ++ R)
  stored =
      let k : places_length - length (P ++ q) ≡ 124 - 4 * n = omega (arith, length-append P q) in
      let put : put_mid (8 + 4 * n) (length bs - (8 + 4 * n)) bs last ≡ (head n six ++ P) ++ (q ++ (Z ++ R)) =
      put_rest (8 + 4 * n) bs last ∙ rw (before, w, whole_part (8 + 4 * n) bs, behind) in
      rw (put, k, append_assoc (P ++ q), append_assoc P q, append_assoc six P)

module _ (bs : List ℕ) (ok : Room bs) (m p : ℕ) where
  counted : length (body_of bs).waiting ≡ get_or bs 1 0
  unfolding body_of
  counted = places_count (get_or bs 1 0) (drop 8 bs)

  -- the same over any body whose bytes they are
  put_any : (b : Body) → bs ≡ bytes_of (running b) → length b.waiting < 32 → (last : List ℕ)
      → last ≡ place_bytes m p ++ drop 4 (take (length bs - (8 + 4 * length b.waiting)) (drop (8 + 4 * length b.waiting) bs))
      → set (put_mid (8 + 4 * length b.waiting) (length bs - (8 + 4 * length b.waiting)) bs last) 1 (length b.waiting + 1) ≡ bytes_of (running (announce_body b m p))
  unfolding bytes_of body_bytes two padded announce_body
  put_any b e h last w =
      stored (length b.waiting) (take 6 (drop 2 (body_bytes b))) (places_bytes b.waiting) (padded rows_length (rows_bytes b.rows)) refl (places-length b.waiting) h bs e
      (place_bytes m p) last refl w
      ∙ rw (places-more b.waiting m p, length_more b.waiting m p)

  pub put_is : (n : ℕ) → n ≡ length bs → (last : List ℕ)
      → last ≡ place_bytes m p ++ drop 4 (take (n - (8 + 4 * get_or bs 1 0)) (drop (8 + 4 * get_or bs 1 0) bs))
      → (get_or bs 1 0 + 1 ≡ length (announce_body (body_of bs) m p).waiting)
      × (set (put_mid (8 + 4 * get_or bs 1 0) (n - (8 + 4 * get_or bs 1 0)) bs last) 1 (get_or bs 1 0 + 1) ≡ bytes_of (running (announce_body (body_of bs) m p)))
  unfolding announce_body
  put_is n e last w =
      let r = ok.room in (
        sym (length_more (body_of bs).waiting m p ∙ ap (λ (k : ℕ). k + 1) counted),
        rw (e, ← counted) (put_any (body_of bs) ok.layout (omega (arith, counted)) last (rw counted (rw e at w))),
      )
