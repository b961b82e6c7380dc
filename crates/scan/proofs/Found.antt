-- What the scan of rows finds: the ladders that Held describes, where there are such, else no spans.
-- Assumes nothing.
use mathlib.Core.Path.{◌≡◌, refl, sym, ap, ◌∙◌}
use mathlib.Core.Bool.{true, false, cond, ◌&&◌, false≢true}
use mathlib.Core.List.{List, [], ◌∷◌, ◌++◌, append-nil}
use mathlib.Core.Logic.{◌⊎◌, inl, inr, ⊎_elim}
use Rattle.std.specs.Prelude.{Some, None}
use Prim.Native.Nat.{ℕ, zero, suc, ◌+◌, ◌-◌, ◌*◌, ◌/◌, ◌%◌, ◌≤◌, ◌<◌}
use native.Mathlib.Nat.{mul-suc, mul-zero}
use native.Mathlib.Omega.{arith}
use lib.Dec.{eqb, ltb, eqb-suc-zero}
use lib.ListN.{drop}
use lib.Seq.{append_snoc}
use borrow.Author.Tests.{eqb-true, eqb-false, ne_eqb, lt-ltb, ltb-true}
use Rattle.base.specs.Lists.{elem, within}
use Rattle.base.specs.declared.Tier.{Tier}
use Rattle.base.proofs.Tests.{by_bool, by_le, clash, and_l, and_r, and_i, and_no, or_fl, or_fr, eqb_self}
use Rattle.base.proofs.ListLaws.{elem-here, elem_there}
use Rattle.calendar.specs.Live.{live_months, tier_of}
use Rattle.grid.specs.Grid.{grid_of}
use Rattle.grid.specs.Numbers.{price, number_of, stride, top_number, OnGrid}
use Rattle.grid.proofs.Grids.{prices_from, by-stride, number-on}
use Rattle.base.proofs.Rising.{select_rises}
use Rattle.rules.proofs.RulebookLaws.{grid_rises}
use Rattle.layout.specs.Rows.{Entry, new_entry, Row, ladder, rows_of, entry_ok}
use Rattle.layout.specs.Register.{Body, span_low, span_high, same_keys, entries_ok}
use Rattle.layout.specs.Spans.{spans_of}
use Rattle.scan.specs.Scan.{fitting, climbed, head_price, ladder_rows, ladder_spans}
use Rattle.layout.proofs.RowLaws.{rows_of_same}
use Rattle.layout.proofs.Held.{ladder_of, Held, least-held, greatest-held, Apart, live_apart, keyed}
use Rattle.grid.proofs.Between.{grid-number}
use Rattle.grid.proofs.Runs.{next-price, next-on, run-between, run_end, run_is}
use Rattle.grid.proofs.Prices.{top-number, top-price}

abbrev pub blank : ℕ → ℕ → Entry
blank m p = new_entry 0 0

-- ---- up one ladder
module _ (day m : ℕ) (t : Tier) where
  -- the rows that went up from number j: their keys and entries, and the last number
  record Climb (j n : ℕ) (rs : List Row) : Type 0 where
    keys : (rest : List Row) → same_keys (drop n rs) rest ≡ true → same_keys rs (ladder m (blank m) (prices_from (stride t) j n) ++ rest) ≡ true
    entries : entries_ok day (drop n rs) ≡ true → entries_ok day rs ≡ true
    last : 0 < n → j + stride t * n ≤ top_number + stride t

  climb_found : (j : ℕ) (rs : List Row) → j % stride t ≡ 0 → Climb j (climbed day m (stride t) (price j) rs) rs
  unfolding climbed same_keys ladder prices_from entries_ok fitting
  climb_found j [] o = record { keys = λ rest s. s; entries = λ s. s; last = λ l. absurd (omega arith) }
  climb_found j (r ∷ rs) o =
      by_bool (ltb (price j) 10000 && fitting day m (price j) r)
      (λ e.
      let l = top-number j (ltb-true (price j) 10000 (and_l _ _ e)) in
      let g = and_r (ltb (price j) 10000) _ e in
      let h = and_r (eqb r.month m) _ g in
      let a : eqb r.month m ≡ true = and_l (eqb r.month m) _ g in
      let b : eqb r.price (price j) ≡ true = and_l (eqb r.price (price j)) _ h in
      let c = climb_found (j + stride t) rs (next-on t j o) in
      rw (e, next-price t j o) (record {
        keys = λ rest s. and_i a (and_i b (c.keys rest s));
        entries = λ s. and_i (and_r (eqb r.price (price j)) _ h) (c.entries s);
        last = λ u. by_le (climbed day m (stride t) (price (j + stride t)) rs) 0
            (λ z. let q = mul-suc (stride t) (climbed day m (stride t) (price (j + stride t)) rs) in
            let w : climbed day m (stride t) (price (j + stride t)) rs ≡ 0 = omega arith in
            omega (arith, ap (λ (k : ℕ). stride t * k) w, mul-zero (stride t)))
            (λ z. omega (arith, c.last z, mul-suc (stride t) (climbed day m (stride t) (price (j + stride t)) rs)));
      }))
      (λ e. rw e (record { keys = λ rest s. s; entries = λ s. s; last = λ l. absurd (omega arith) }))

  -- rows of another month, or none, do not go up
  climb_other : (n s p : ℕ) (g : ℕ → Entry) (ps : List ℕ) (rest : List Row) → eqb n m ≡ false → climbed day m s p rest ≡ 0 → climbed day m s p (ladder n g ps ++ rest) ≡ 0
  unfolding climbed ladder fitting
  climb_other n s p g [] rest e z = z
  climb_other n s p g (q ∷ qs) rest e z = rw (e, and_no (ltb p 10000) false refl)

  climb_others : (s p : ℕ) (ms : List ℕ) (G : ℕ → List ℕ) (e : ℕ → ℕ → Entry) → elem m ms ≡ false → climbed day m s p (rows_of ms G e) ≡ 0
  unfolding rows_of elem climbed
  climb_others s p [] G e h = refl
  climb_others s p (n ∷ ns) G e h =
      climb_other n s p (e n) (G n) (rows_of ns G e) (ne_eqb n m (λ q. eqb-false m n (or_fl (eqb m n) _ h) (sym q)))
      (climb_others s p ns G e (or_fr (eqb m n) (elem m ns) h))

-- ---- a ladder's rows before others: their first and last price, and what stands behind them
module _ (m : ℕ) (t : Tier) (g : ℕ → Entry) (rest : List Row) where
  first-price : (j n : ℕ) → head_price (ladder m g (prices_from (stride t) j (suc n)) ++ rest) ≡ price j
  unfolding head_price ladder prices_from
  first-price j n = refl

  last-price : (j n : ℕ) → head_price (drop n (ladder m g (prices_from (stride t) j (suc n)) ++ rest)) ≡ price (j + stride t * n)
  unfolding head_price ladder prices_from
  last-price j zero = let e : j + stride t * 0 ≡ j = omega (arith, mul-zero (stride t)) in rw e
  last-price j (suc n) = let e : j + stride t * suc n ≡ j + stride t + stride t * n = omega (arith, mul-suc (stride t) n) in rw e (last-price (j + stride t) n)

  behind : (j n : ℕ) → drop n (ladder m g (prices_from (stride t) j n) ++ rest) ≡ rest
  unfolding ladder prices_from
  behind j zero = refl
  behind j (suc n) = behind (j + stride t) n

  -- they go up, where what stands behind them does not
  module _ (day : ℕ) (stop : (p : ℕ) → climbed day m (stride t) p rest ≡ 0) where
    climb_laid : (j n : ℕ) → j % stride t ≡ 0 → j + stride t * n ≤ top_number + stride t → entries_ok day (ladder m g (prices_from (stride t) j n)) ≡ true
        → climbed day m (stride t) (price j) (ladder m g (prices_from (stride t) j n) ++ rest) ≡ n
    unfolding climbed ladder prices_from entries_ok fitting
    climb_laid j zero o l k = stop (price j)
    climb_laid j (suc n) o l k =
        let q = mul-suc (stride t) n in
        rw (lt-ltb (price j) 10000 (top-price j (omega arith)), eqb_self m, eqb_self (price j), and_l (entry_ok day (g (price j))) _ k, next-price t j o)
        (ap suc (climb_laid (j + stride t) n (next-on t j o) (omega arith) (and_r (entry_ok day (g (price j))) _ k)))

    ladder_laid : (j n : ℕ) → OnGrid t j → j + stride t * suc n ≤ top_number + stride t → entries_ok day (ladder m g (prices_from (stride t) j (suc n))) ≡ true
        → ladder_rows day m t (ladder m g (prices_from (stride t) j (suc n)) ++ rest) ≡ suc n
    unfolding ladder_rows
    ladder_laid j n o l k = rw (first-price j n, number-on t j o) (climb_laid j (suc n) o.multiple l k)

-- ---- the ladders of some months, as they are found
pub record LaddersFound (day f : ℕ) (ms : List ℕ) (rs : List Row) : Type 0 where
  pub low : ℕ → ℕ
  pub high : ℕ → ℕ
  pub low-on : (m : ℕ) → elem m ms ≡ true → OnGrid (tier_of f m) (low m)
  pub high-on : (m : ℕ) → elem m ms ≡ true → OnGrid (tier_of f m) (high m)
  pub order : (m : ℕ) → elem m ms ≡ true → low m ≤ high m
  pub keys : same_keys rs (rows_of ms (ladder_of f low high) blank) ≡ true
  pub entries : entries_ok day rs ≡ true

-- a month's ladder from a lowest to a highest number, which are the ends of its span
pub record SpanHeld (f : ℕ) (b : Body) (low high : ℕ → ℕ) (m : ℕ) : Type 0 where
  pub low-on : OnGrid (tier_of f m) (low m)
  pub high-on : OnGrid (tier_of f m) (high m)
  pub order : low m ≤ high m
  pub span-low : span_low b m ≡ price (low m)
  pub span-high : span_high b m ≡ price (high m)

module _ (day f : ℕ) where
  -- one month more in front, whose ladder goes from number j to the n-th behind it
  one_more : (m : ℕ) (ms : List ℕ) (rs : List Row) (j n : ℕ) → elem m ms ≡ false → OnGrid (tier_of f m) j → Climb day m (tier_of f m) j (suc n) rs
      → LaddersFound day f ms (drop (suc n) rs) → LaddersFound day f (m ∷ ms) rs
  unfolding rows_of elem
  one_more m ms rs j n apart o c w =
      let s : ℕ = stride (tier_of f m) in
      let l : j + s * n ≤ top_number = omega (arith, c.last (omega arith), mul-suc s n) in
      let low : ℕ → ℕ = λ k. cond (eqb k m) j (w.low k) in
      let high : ℕ → ℕ = λ k. cond (eqb k m) (j + s * n) (w.high k) in
      let on-high : OnGrid (tier_of f m) (j + s * n) = record {
        from = omega (arith, o.from);
        to = l;
        multiple = by-stride (λ s. j % s ≡ 0 → (j + s * n) % s ≡ 0) (λ z. omega arith) (λ z. omega arith) (λ z. omega arith) (tier_of f m) o.multiple;
      } in
      let first : ladder_of f low high m ≡ prices_from s j (suc n) = rw (eqb_self m) (run-between (tier_of f m) j n o l) in
      let others : rows_of ms (ladder_of f low high) blank ≡ rows_of ms (ladder_of f w.low w.high) blank =
      rows_of_same ms (ladder_of f low high) (ladder_of f w.low w.high) blank blank
      (λ k h. rw (ne_eqb k m (λ z. clash (elem m ms) (rw z at h) apart))) (λ k p h g. refl) in
      record {
        low = low;
        high = high;
        low-on = λ k e. by_bool (eqb k m) (λ q. rw (q, eqb-true k m q) o) (λ q. rw q (w.low-on k (rw q at e)));
        high-on = λ k e. by_bool (eqb k m) (λ q. rw (q, eqb-true k m q) on-high) (λ q. rw q (w.high-on k (rw q at e)));
        order = λ k e. by_bool (eqb k m) (λ q. rw q (omega arith)) (λ q. rw q (w.order k (rw q at e)));
        keys = rw (first, others) (c.keys (rows_of ms (ladder_of f w.low w.high) blank) w.keys);
        entries = c.entries w.entries;
      }

  -- where a month's ladder stands first, it goes up from a number of its grid
  stands-first : (m : ℕ) (rs : List Row) (n : ℕ) → ladder_rows day m (tier_of f m) rs ≡ suc n
      → (j : ℕ) × OnGrid (tier_of f m) j × Climb day m (tier_of f m) j (suc n) rs
  unfolding ladder_rows
  stands-first m rs n e =
      let t : Tier = tier_of f m in
      let p : ℕ = head_price rs in
      by_bool (elem p (grid_of t))
      (λ g.
      let k = grid-number t p g in
      let c = climb_found day m t (number_of p) rs k.0.multiple in
      let q : climbed day m (stride t) (price (number_of p)) rs ≡ suc n = rw k.1 (rw g at e) in
      (number_of p, k.0, rw q at c))
      (λ g. absurd (let z : 0 ≡ suc n = rw g at e in omega arith))

  pub find_ladders : (done : List (List ℕ)) (ms : List ℕ) (rs : List Row) → Apart ms → (ladder_spans day f done ms rs ≡ None) ⊎ LaddersFound day f ms rs
  unfolding ladder_spans same_keys rows_of entries_ok elem
  find_ladders done [] [] a =
      inr (record {
        low = λ m. 0;
        high = λ m. 0;
        low-on = λ m e. absurd (false≢true e);
        high-on = λ m e. absurd (false≢true e);
        order = λ m e. absurd (false≢true e);
        keys = refl;
        entries = refl;
      })
  find_ladders done [] (r ∷ rs) a = inl refl
  find_ladders done (m ∷ ms) rs a = go (ladder_rows day m (tier_of f m) rs) refl (λ spans n. find_ladders spans ms (drop n rs) a.1)
    where
      go : (n : ℕ) → ladder_rows day m (tier_of f m) rs ≡ n
          → ((spans : List (List ℕ)) (n : ℕ) → (ladder_spans day f spans ms (drop n rs) ≡ None) ⊎ LaddersFound day f ms (drop n rs))
          → (cond (eqb n 0) None (ladder_spans day f (done ++ ((head_price rs ∷ head_price (drop (n - 1) rs) ∷ []) ∷ [])) ms (drop n rs)) ≡ None) ⊎ LaddersFound day f (m ∷ ms) rs
      go zero e next = inl refl
      go (suc n) e next =
          let k = stands-first m rs n e in
          rw eqb-suc-zero
          (⊎_elim inl (λ w. inr (one_more m ms rs k.0 n a.0 k.1 k.2 w)) (next (done ++ ((head_price rs ∷ head_price (drop (suc n - 1) rs) ∷ []) ∷ [])) (suc n)))

  -- ---- and ladders from a lowest to a highest number are found, with the spans between their prices
  entries-append : (xs ys : List Row) → entries_ok day (xs ++ ys) ≡ true → (entries_ok day xs ≡ true) × (entries_ok day ys ≡ true)
  unfolding entries_ok
  entries-append [] ys h = (refl, h)
  entries-append (x ∷ xs) ys h = let r = entries-append xs ys (and_r (entry_ok day x.entry) _ h) in (and_i (and_l (entry_ok day x.entry) _ h) r.0, r.1)

  module _ (low high : ℕ → ℕ) (entry : ℕ → ℕ → Entry) (b : Body) where
    ladders_found : (done : List (List ℕ)) (ms : List ℕ) → ((m : ℕ) → elem m ms ≡ true → SpanHeld f b low high m) → Apart ms
        → entries_ok day (rows_of ms (ladder_of f low high) entry) ≡ true
        → ladder_spans day f done ms (rows_of ms (ladder_of f low high) entry) ≡ Some (done ++ spans_of b ms)
    unfolding ladder_spans rows_of spans_of
    ladders_found done [] h a k = ap Some (sym (append-nil done))
    ladders_found done (m ∷ ms) h a k =
        let t : Tier = tier_of f m in
        let s : ℕ = stride t in
        let w = h m (elem-here m ms) in
        let j : ℕ = low m in
        let n : ℕ = (high m - j) / s in
        let rest : List Row = rows_of ms (ladder_of f low high) entry in
        let size : j + s * n ≡ high m = run_end t j (high m) w.low-on w.high-on w.order in
        let prices : ladder_of f low high m ≡ prices_from s j (suc n) = run_is t j (high m) w.low-on w.high-on w.order in
        let e = entries-append (ladder m (entry m) (prices_from s j (suc n))) rest (rw prices at k) in
        let stop : (p : ℕ) → climbed day m s p rest ≡ 0 = λ p. climb_others day m t s p ms (ladder_of f low high) entry a.0 in
        let last : suc n - 1 ≡ n = omega arith in
        rw (
          prices,
          ladder_laid m t (entry m) rest day stop j n w.low-on (omega (arith, w.high-on.to, mul-suc s n)) e.0,
          eqb-suc-zero,
          last,
          first-price m t (entry m) rest j n,
          last-price m t (entry m) rest j n,
          size,
          behind m t (entry m) rest j (suc n),
        )
        (ladders_found (done ++ ((price j ∷ price (high m) ∷ []) ∷ [])) ms (λ k q. h k (elem_there k m ms q)) a.1 e.1
        ∙ ap Some (append_snoc done (price j ∷ price (high m) ∷ []) (spans_of b ms) ∙ rw (w.span-low, w.span-high)))

-- ---- all six
unfoldable pub held_found : (day f : ℕ) (rs : List Row) → LaddersFound day f (live_months f) rs → Held f rs
held_found day f rs w =
    let k = keyed (live_months f) (ladder_of f w.low w.high) blank rs (live_apart f)
    (λ m. select_rises (within (price (w.low m)) (price (w.high m))) 0 (grid_of (tier_of f m)) (grid_rises (tier_of f m))) w.keys in
    record {
      low = w.low;
      high = w.high;
      entry = k.0;
      low-on = w.low-on;
      high-on = w.high-on;
      order = w.order;
      rows_are = k.1;
    }

pub spanned : (f : ℕ) (b : Body) (h : Held f b.rows) (m : ℕ) → elem m (live_months f) ≡ true → SpanHeld f b h.low h.high m
unfolding span_low span_high
spanned f b h m e = record {
  low-on = h.low-on m e;
  high-on = h.high-on m e;
  order = h.order m e;
  span-low = least-held f b.rows h m e;
  span-high = greatest-held f b.rows h m e;
}

pub spans-held : (day f : ℕ) (b : Body) → Held f b.rows → entries_ok day b.rows ≡ true → ladder_spans day f [] (live_months f) b.rows ≡ Some (spans_of b (live_months f))
spans-held day f b h k =
    ap (ladder_spans day f [] (live_months f)) h.rows_are
    ∙ ladders_found day f h.low h.high h.entry b [] (live_months f) (spanned f b h) (live_apart f) (sym (ap (entries_ok day) h.rows_are) ∙ k)
