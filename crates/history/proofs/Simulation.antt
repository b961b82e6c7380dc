-- The register is the history written out, with origins that the history does not know; each accepted call keeps it so.
-- Assumes nothing but the laws of the rules.
use mathlib.Core.Path.{◌≡◌, refl, sym, ap, ◌∙◌}
use mathlib.Core.Bool.{Bool, true, false, cond, not, ◌&&◌, false≢true}
use mathlib.Core.List.{List, [], ◌∷◌, ◌++◌}
use mathlib.Core.Option.{Option, none, some}
use Prim.Native.Nat.{ℕ, ◌≤◌, min, max}
use native.Mathlib.Omega.{arith}
use lib.Dec.{eqb, ltb}
use borrow.Author.Tests.{eqb-true, eq-eqb, not-false}
use Rattle.base.specs.Lists.{elem, least_of, greatest_of, within}
use Rattle.base.specs.Causes.{first_cause}
use Rattle.base.proofs.Tests.{by_bool, clash, and_l, and_r, and_i, or_l, or_r, or_e, iff}
use Rattle.base.proofs.ListLaws.{within_i, within_l, within_r, elem-select, least_le, greatest_ge, least_P, greatest_P, least_is, greatest_is}
use Rattle.base.proofs.CauseLaws.{none_of, not-cause}
use Rattle.grid.specs.Grid.{close_taken}
use Rattle.rules.specs.Rules.{Moment, Rules, next, last_first_month}
use Rattle.calls.specs.declared.Call.{Call}
use Rattle.calls.specs.declared.Call.TheVariants.{Start, Session, Announce}
use Rattle.rules.proofs.Laws.{Laws}
use Rattle.layout.specs.Rows.{Entry, new_entry, rows_of, find, prices_of}
use Rattle.layout.specs.Register.{Body, Reg, empty, running, waiting_of, span_low, span_high, listed, announce_causes}
use Rattle.layout.proofs.RowLaws.{find-rows_of, elem_prices, rows_of_same}
use Rattle.calls.specs.Listing.{close_low, close_high, new_low, new_high, kept, new_origin, start_body, session_body, announce_body, number, accepted}
use Rattle.history.specs.History.{History, awaited, or_else, between, dated, on_start, taken_in, low_after, high_after, on_session, if_day, accepted_call}

module _ (R : Rules) where
  -- month and price are listed by the history
  unfoldable pub key : Moment → History → ℕ → ℕ → Bool
  key d h m p = elem m (R.live d) && elem p (between R d h.low h.high m)

  -- the register is the history written out, with some origins, and the history keeps its own bounds
  pub record Running (h : History) (b : Body) : Type 0 where
    pub at_is : h.at ≡ some b.at
    pub good-at : R.good b.at ≡ true
    pub waiting_is : h.waiting ≡ b.waiting
    pub entry : ℕ → ℕ → Entry
    pub rows_are : b.rows ≡ rows_of (R.live b.at) (between R b.at h.low h.high) entry
    pub low-on : (m : ℕ) → elem m (R.live b.at) ≡ true → elem (h.low m) (R.grid b.at m) ≡ true
    pub high-on : (m : ℕ) → elem m (R.live b.at) ≡ true → elem (h.high m) (R.grid b.at m) ≡ true
    pub low-high : (m : ℕ) → elem m (R.live b.at) ≡ true → h.low m ≤ h.high m
    pub waiting-on : (m p : ℕ) → elem p (waiting_of m b.waiting) ≡ true → elem p (R.grid (next R b.at) m) ≡ true
    -- what is listed, and nothing else, has a first day, its row's
    pub first_is : (m p : ℕ) → h.first m p ≡ cond (key b.at h m p) (some (entry m p).first) none

  abbrev pub Agree : History → Reg → Type 0
  Agree h empty = (h.at ≡ none) × (h.waiting ≡ []) × ((m p : ℕ) → h.first m p ≡ none)
  Agree h (running b) = Running h b

-- ---- the two readings of what waits

eqb_sym : (a b : ℕ) → eqb a b ≡ eqb b a
eqb_sym a b = iff (eqb a b) (eqb b a) (λ e. eq-eqb b a (sym (eqb-true a b e))) (λ e. eq-eqb a b (sym (eqb-true b a e)))

awaited_is : (ws : List (ℕ × ℕ)) (m : ℕ) → awaited ws m ≡ waiting_of m ws
unfolding awaited waiting_of
awaited_is [] m = refl
awaited_is (w ∷ ws) m = rw (eqb_sym w.0 m, awaited_is ws m)

pub waiting_snoc : (m p n q : ℕ) (ws : List (ℕ × ℕ)) → elem p (waiting_of m (ws ++ ((n, q) ∷ []))) ≡ true
    → (X : Type 0) → (elem p (waiting_of m ws) ≡ true → X) → (m ≡ n → p ≡ q → X) → X
unfolding waiting_of elem
waiting_snoc m p n q [] e X f g =
    by_bool (eqb m n)
    (λ t. or_e (eqb p q) false (rw t at e) (λ u. g (eqb-true m n t) (eqb-true p q u)) (λ u. absurd (false≢true u)))
    (λ t. absurd (false≢true (rw t at e)))
waiting_snoc m p n q (w ∷ ws) e X f g =
    by_bool (eqb m w.0)
    (λ t. or_e (eqb p w.1) (elem p (waiting_of m (ws ++ ((n, q) ∷ [])))) (rw t at e)
    (λ u. f (rw t (or_l (eqb p w.1) (elem p (waiting_of m ws)) u)))
    (λ u. waiting_snoc m p n q ws u X (λ v. f (rw t (or_r (eqb p w.1) (elem p (waiting_of m ws)) v))) g))
    (λ t. waiting_snoc m p n q ws (rw t at e) X (λ v. f (rw t v)) g)

pub no16 : ◌≡◌ {A = ℕ} 16 0 → ⊥
no16 e = omega arith

pub no17 : ◌≡◌ {A = ℕ} 17 0 → ⊥
no17 e = omega arith

-- ---- least_of and greatest_of

pub least-min : (a n : ℕ) (ys : List ℕ) → least_of (min a n) ys ≡ min n (least_of a ys)
unfolding least_of
least-min a n [] = omega arith
least-min a n (y ∷ ys) = let h = least-min a n ys in omega arith

pub greatest-max : (a n : ℕ) (ys : List ℕ) → greatest_of (max a n) ys ≡ max n (greatest_of a ys)
unfolding greatest_of
greatest-max a n [] = omega arith
greatest-max a n (y ∷ ys) = let h = greatest-max a n ys in omega arith

module _ (R : Rules) where
  pub between_is : (d : Moment) (lo hi : ℕ → ℕ) (m p : ℕ) → elem p (between R d lo hi m) ≡ (elem p (R.grid d m) && within (lo m) (hi m) p)
  unfolding between
  between_is d lo hi m p = elem-select (within (lo m) (hi m)) p (R.grid d m)

  -- ---- reading the register back
  module _ (h : History) (b : Body) (s : Running R h b) where
    pub found : (m p : ℕ) → find m p b.rows ≡ cond (key R b.at h m p) (some (s.entry m p)) none
    unfolding key
    found m p = rw s.rows_are (find-rows_of m p (R.live b.at) (between R b.at h.low h.high) s.entry)

    pub prices_are : (m p : ℕ) → elem p (prices_of m b.rows) ≡ key R b.at h m p
    unfolding key
    prices_are m p = rw s.rows_are (elem_prices m p (R.live b.at) (between R b.at h.low h.high) s.entry)

    pub key_i : (m p : ℕ) → elem m (R.live b.at) ≡ true → elem p (R.grid b.at m) ≡ true → h.low m ≤ p → p ≤ h.high m → key R b.at h m p ≡ true
    unfolding key
    key_i m p l g u v = and_i l (between_is b.at h.low h.high m p ∙ and_i g (within_i u v))

    pub key-grid : (m p : ℕ) → key R b.at h m p ≡ true → elem p (R.grid b.at m) ≡ true
    unfolding key
    key-grid m p k = and_l _ _ (sym (between_is b.at h.low h.high m p) ∙ and_r (elem m (R.live b.at)) _ k)

    pub key-within : (m p : ℕ) → key R b.at h m p ≡ true → within (h.low m) (h.high m) p ≡ true
    unfolding key
    key-within m p k = and_r (elem p (R.grid b.at m)) _ (sym (between_is b.at h.low h.high m p) ∙ and_r (elem m (R.live b.at)) _ k)

    -- a live month's lowest and highest price have rows, so they are its span
    pub low_there : (m : ℕ) → elem m (R.live b.at) ≡ true → elem (h.low m) (prices_of m b.rows) ≡ true
    low_there m l = let lh = s.low-high m l in prices_are m (h.low m) ∙ key_i m (h.low m) l (s.low-on m l) (omega arith) lh

    pub high_there : (m : ℕ) → elem m (R.live b.at) ≡ true → elem (h.high m) (prices_of m b.rows) ≡ true
    high_there m l = let lh = s.low-high m l in prices_are m (h.high m) ∙ key_i m (h.high m) l (s.high-on m l) lh (omega arith)

    pub span-low : (m : ℕ) → elem m (R.live b.at) ≡ true → span_low b m ≡ h.low m
    unfolding span_low
    span-low m l =
        least_is (h.low m) (prices_of m b.rows) (low_there m l)
        (λ p e. within_l (h.low m) (h.high m) p (key-within m p (sym (prices_are m p) ∙ e)))

    pub span-high : (m : ℕ) → elem m (R.live b.at) ≡ true → span_high b m ≡ h.high m
    unfolding span_high
    span-high m l =
        greatest_is (h.high m) (prices_of m b.rows) (high_there m l)
        (λ p e. within_r (h.low m) (h.high m) p (key-within m p (sym (prices_are m p) ∙ e)))

    -- ---- a session's spans are the history's
    module _ (L : Laws R) (d : Moment) (c : ℕ) (ok : close_taken c ≡ true) where
      low-after : (m : ℕ) → new_low R b d c m ≡ low_after R h b.at d c m
      unfolding new_low low_after close_low taken_in least_of
      low-after m =
          by_bool (elem m (R.live b.at))
          (λ l.
          let lh = L.low-high d false m c ok in
          let a = least-min (h.low m) (R.need_low d false m c) (waiting_of m b.waiting) in
          rw (l, span-low m l, s.waiting_is, awaited_is b.waiting m) (omega arith))
          (λ l. rw l)

      high-after : (m : ℕ) → new_high R b d c m ≡ high_after R h b.at d c m
      unfolding new_high high_after close_high taken_in greatest_of
      high-after m =
          by_bool (elem m (R.live b.at))
          (λ l.
          let lh = L.low-high d false m c ok in
          let a = greatest-max (h.high m) (R.need_high d false m c) (waiting_of m b.waiting) in
          rw (l, span-high m l, s.waiting_is, awaited_is b.waiting m) (omega arith))
          (λ l. rw l)

      module _ (is-next : d ≡ next R b.at) where
        taken-on : (m p : ℕ) → elem p (taken_in R h d c m) ≡ true → elem p (R.grid d m) ≡ true
        unfolding taken_in elem
        taken-on m p e =
            or_e (eqb p (R.need_low d false m c)) _ e
            (λ t. rw (eqb-true p (R.need_low d false m c) t) (L.low-on d false m c ok))
            (λ u. or_e (eqb p (R.need_high d false m c)) _ u
            (λ t. rw (eqb-true p (R.need_high d false m c) t) (L.high-on d false m c ok))
            (λ v. rw is-next (s.waiting-on m p (rw (s.waiting_is, awaited_is b.waiting m) at v))))

        fine : (m p : ℕ) → elem m (R.live b.at) ≡ true → elem m (R.live d) ≡ true → elem p (R.grid b.at m) ≡ true → elem p (R.grid d m) ≡ true
        fine m p k l g = rw is-next (L.finer b.at m p s.good-at k (rw is-next at l) g)

        low_on' : (m : ℕ) → elem m (R.live d) ≡ true → elem (low_after R h b.at d c m) (R.grid d m) ≡ true
        unfolding low_after
        low_on' m l =
            by_bool (elem m (R.live b.at))
            (λ k. rw k (least_P (λ p. elem p (R.grid d m) ≡ true) (h.low m) (taken_in R h d c m)
            (fine m (h.low m) k l (s.low-on m k)) (taken-on m)))
            (λ k. rw k (L.low-on d true m c ok))

        high_on' : (m : ℕ) → elem m (R.live d) ≡ true → elem (high_after R h b.at d c m) (R.grid d m) ≡ true
        unfolding high_after
        high_on' m l =
            by_bool (elem m (R.live b.at))
            (λ k. rw k (greatest_P (λ p. elem p (R.grid d m) ≡ true) (h.high m) (taken_in R h d c m)
            (fine m (h.high m) k l (s.high-on m k)) (taken-on m)))
            (λ k. rw k (L.high-on d true m c ok))

        low_high' : (m : ℕ) → low_after R h b.at d c m ≤ high_after R h b.at d c m
        unfolding low_after high_after
        low_high' m =
            by_bool (elem m (R.live b.at))
            (λ k.
            let lh = s.low-high m k in
            let lo = least_le (h.low m) (taken_in R h d c m) in
            let hi = greatest_ge (h.high m) (taken_in R h d c m) in
            rw k (omega arith))
            (λ k. rw k (L.low-high d true m c ok))

        lower : (m p : ℕ) → elem m (R.live b.at) ≡ true → h.low m ≤ p → low_after R h b.at d c m ≤ p
        unfolding low_after
        lower m p k u = let lo = least_le (h.low m) (taken_in R h d c m) in rw k (omega arith)

        upper : (m p : ℕ) → elem m (R.live b.at) ≡ true → p ≤ h.high m → p ≤ high_after R h b.at d c m
        unfolding high_after
        upper m p k u = let hi = greatest_ge (h.high m) (taken_in R h d c m) in rw k (omega arith)

        -- what was listed is listed still, if its month is live
        grows : (m p : ℕ) → elem m (R.live d) ≡ true → key R b.at h m p ≡ true
            → elem p (between R d (low_after R h b.at d c) (high_after R h b.at d c) m) ≡ true
        unfolding key
        grows m p l k =
            let k₀ : elem m (R.live b.at) ≡ true = and_l _ _ k in
            let w = key-within m p k in
            let u = within_l (h.low m) (h.high m) p w in
            let v = within_r (h.low m) (h.high m) p w in
            between_is d (low_after R h b.at d c) (high_after R h b.at d c) m p
            ∙ and_i (fine m p k₀ l (key-grid m p k)) (within_i (lower m p k₀ u) (upper m p k₀ v))

        -- the history after the session
        abbrev h' : History
        h' = on_session R b.at d c h

        -- a row's entry after the session
        abbrev entry' : ℕ → ℕ → Entry
        entry' m p = kept (find m p b.rows) (new_entry d.day (new_origin R b d c m p))

        first_is' : (m p : ℕ) → h'.first m p ≡ cond (key R d h' m p) (some (entry' m p).first) none
        unfolding on_session dated key or_else kept
        first_is' m p =
            by_bool (elem m (R.live d))
            (λ l. by_bool (elem p (between R d (low_after R h b.at d c) (high_after R h b.at d c) m))
            (λ e. by_bool (key R b.at h m p)
            (λ k. rw (l, e, s.first_is m p, found m p, k))
            (λ k. rw (l, e, s.first_is m p, found m p, k)))
            (λ e. by_bool (key R b.at h m p)
            (λ k. clash _ (grows m p l k) e)
            (λ k. rw (l, e, s.first_is m p, k))))
            (λ l. rw l)

        same_prices : (m : ℕ) → listed R d (new_low R b d c) (new_high R b d c) m ≡ between R d (low_after R h b.at d c) (high_after R h b.at d c) m
        unfolding listed between
        same_prices m = rw (low-after m, high-after m)

        rows_are' : (session_body R b d c).rows ≡ rows_of (R.live d) (between R d h'.low h'.high) entry'
        unfolding session_body on_session
        rows_are' = rows_of_same (R.live d) (listed R d (new_low R b d c) (new_high R b d c)) (between R d (low_after R h b.at d c) (high_after R h b.at d c))
            entry' entry' (λ m l. same_prices m) (λ m p l e. refl)

        pub after-session : Running R h' (session_body R b d c)
        unfolding on_session session_body waiting_of elem
        after-session =
            record {
              at_is = refl;
              good-at = rw is-next (L.good-move b.at s.good-at);
              waiting_is = refl;
              entry = entry';
              rows_are = rows_are';
              low-on = low_on';
              high-on = high_on';
              low-high = λ m l. low_high' m;
              waiting-on = λ m p e. absurd (false≢true e);
              first_is = first_is';
            }

    -- ---- an announcement
    pub after-announce : (m p : ℕ) → elem p (R.grid (next R b.at) m) ≡ true → Running R (accepted_call R (Announce m p) h) (announce_body b m p)
    unfolding accepted_call announce_body key
    after-announce m p g =
        record {
          at_is = s.at_is;
          good-at = s.good-at;
          waiting_is = ap (λ (ws : List (ℕ × ℕ)). ws ++ ((m, p) ∷ [])) s.waiting_is;
          entry = s.entry;
          rows_are = s.rows_are;
          low-on = s.low-on;
          high-on = s.high-on;
          low-high = s.low-high;
          waiting-on = λ n q e. waiting_snoc n q m p b.waiting e (elem q (R.grid (next R b.at) n) ≡ true)
              (s.waiting-on n q) (λ x y. rw (x, y) g);
          first_is = s.first_is;
        }

  -- ---- a start
  pub after-start : (h : History) → (h.waiting ≡ []) → ((m p : ℕ) → h.first m p ≡ none) → Laws R → (d : Moment) (c : ℕ) → close_taken c ≡ true → R.good d ≡ true
      → Running R (on_start R d c h) (start_body R d c)
  unfolding on_start start_body waiting_of elem listed between dated or_else key
  after-start h ws fs L d c ok g =
      record {
        at_is = refl;
        good-at = g;
        waiting_is = ws;
        entry = λ m p. new_entry d.day 5;
        rows_are = refl;
        low-on = λ m l. L.low-on d true m c ok;
        high-on = λ m l. L.high-on d true m c ok;
        low-high = λ m l. L.low-high d true m c ok;
        waiting-on = λ m p e. absurd (false≢true e);
        first_is = λ m p. rw (fs m p);
      }

  -- ---- what an accepted call tells
  pub with-day : (d c : ℕ) (h : History) (e : Moment) → h.at ≡ some e → if_day R h.at h (λ e. on_session R e (R.move e d) c h) ≡ on_session R e (R.move e d) c h
  unfolding if_day
  with-day d c h e q = ap (λ (o : Option Moment). if_day R o h (λ e. on_session R e (R.move e d) c h)) q

  pub on-grid : (b : Body) (m p : ℕ) → first_cause (announce_causes R b b.waiting m p) ≡ 0 → elem p (R.grid (next R b.at) m) ≡ true
  unfolding announce_causes
  on-grid b m p z =
      let z₁ = (none_of _ _ z).1 in
      let z₂ = (none_of _ _ z₁).1 in
      not-false _ (not-cause _ 22 (none_of _ _ z₂).0)

  pub session-told : (b : Body) (d c : ℕ) → number R (Session d c) (running b) ≡ 0
      → (d ≡ R.next_day b.at) × (ltb last_first_month (R.first_live (R.move b.at d)) ≡ false) × (close_taken c ≡ true)
  unfolding number
  session-told b d c z =
      let z₁ = (none_of _ _ z).1 in
      let z₂ = (none_of _ _ z₁).1 in (
        eqb-true d (R.next_day b.at) (not-false _ (not-cause _ 18 (none_of _ _ z).0)),
        not-cause _ 19 (none_of _ _ z₁).0,
        not-false (close_taken c) (not-cause _ 20 (none_of _ _ z₂).0),
      )

  -- ---- one call
  module _ (L : Laws R) where
    pub accept : (k : Call) (h : History) (r : Reg) → number R k r ≡ 0 → Agree R h r → Agree R (accepted_call R k h) (accepted R k r)
    unfolding number accepted_call accepted
    accept (Start d c) h empty z a =
        let z₁ = (none_of _ _ z).1 in
        let z₂ = (none_of _ _ z₁).1 in
        after-start h a.1 a.2 L (R.begin d) c (not-false (close_taken c) (not-cause (not (close_taken c)) 20 (none_of _ _ z₂).0)) (L.good-begin d)
    accept (Start d c) h (running b) z a = absurd (no16 z)
    accept (Session d c) h empty z a = absurd (no17 z)
    accept (Session d c) h (running b) z a =
        let t = session-told b d c z in
        rw (with-day d c h b.at a.at_is) (after-session h b a L (R.move b.at d) c t.2 (ap (R.move b.at) t.0))
    accept (Announce m p) h empty z a = absurd (no17 z)
    accept (Announce m p) h (running b) z a =
        after-announce h b a m p (on-grid b m p (none_of _ _ z).0)
