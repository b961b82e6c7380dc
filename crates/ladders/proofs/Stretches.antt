-- Rows from a price on that differ in price alone: where the next old row stands, and where added rows cease to be alike.
-- Assumes nothing.
use mathlib.Core.Path.{◌≡◌, refl, sym, ◌∙◌}
use Rattle.std.specs.Prelude.{Option, Some, None, slice_get}
use Rattle.std.proofs.lemmas.Option.{none-some, same_Some}
use mathlib.Core.Bool.{true, false, cond, ◌&&◌}
use mathlib.Core.List.{List, [], ◌∷◌, map}
use Rattle.layout.specs.Bytes.{row_of}
use Prim.Native.Nat.{ℕ, ◌+◌, ◌*◌, ◌≤◌, ◌<◌}
use native.Mathlib.Omega.{arith}
use lib.Dec.{eqb}
use borrow.Author.Tests.{le-leb, lt-leb, ne_eqb}
use Rattle.base.specs.Lists.{within}
use Rattle.base.proofs.Tests.{by_bool, by_le}
use Rattle.grid.specs.Numbers.{stride, band_step, band_end}
use Rattle.layout.specs.Rows.{Row}
use Rattle.base.specs.Words.{at16}
use Rattle.grid.proofs.Runs.{band-kept}
use Rattle.ladders.specs.declared.Plan.{Plan}
use Rattle.grid.specs.declared.Strikes.{Strikes}
use Rattle.ladders.specs.Writing.{added_origin, is_next, next_price, Alike, Ends}
use Rattle.ladders.proofs.OldRows.{entered-next, entered_new}

-- a price behind another lies in the same spans, where it passes neither the low end of one nor its high end
same_side : (lo hi p q : ℕ) → p ≤ q → (p < lo → q < lo) → (p < hi + 1 → q < hi + 1) → within lo hi q ≡ within lo hi p
unfolding within
same_side lo hi p q l a b =
    by_le lo p
    (λ h. rw (le-leb lo p h, le-leb lo q (omega arith))
    (by_le p hi (λ k. rw (le-leb p hi k, le-leb q hi (omega (arith, b (omega arith))))) (λ k. rw (lt-leb p hi k, lt-leb q hi (omega arith)))))
    (λ h. rw (lt-leb lo p h, lt-leb lo q (a h)))

module _ (m : Plan) where
  -- ---- the next old row
  pub no-price : (xs : List (List ℕ)) → None ≡ slice_get xs 0 → next_price m (map row_of xs) ≡ None
  unfolding next_price
  no-price [] e = refl
  no-price (x ∷ xs) e = absurd (none-some x e)

  pub first-price : (xs : List (List ℕ)) (x : List ℕ) → Some x ≡ slice_get xs 0 → next_price m (map row_of xs) ≡ cond (eqb m.month (at16 x 0)) (Some (at16 x 2)) None
  unfolding next_price
  first-price [] x e = absurd (none-some x (sym e))
  first-price (y ∷ xs) x e = rw (same_Some x y e)

  -- the row at a price is not next where the next price is another
  next-not : (p : ℕ) (rs : List Row) → (next_price m rs ≡ Some p → ⊥) → is_next m p rs ≡ false
  unfolding is_next next_price
  next-not p [] h = refl
  next-not p (r ∷ rs) h =
      by_bool (eqb m.month r.month)
      (λ k. rw (k, ne_eqb p r.price (λ e. h (rw (k, e)))))
      (λ k. rw k)

  pub first-next : (p : ℕ) (r : Row) (rs : List Row) → is_next m p (r ∷ rs) ≡ (eqb m.month r.month && eqb p r.price)
  unfolding is_next
  first-next p r rs = refl

  pub none_next : (p : ℕ) → is_next m p [] ≡ false
  unfolding is_next
  none_next p = refl

  -- ---- where a stretch ends
  -- the next old row is not passed
  abbrev pub Before : Option ℕ → ℕ → ℕ → Type 0
  Before next p r = (n : ℕ) → next ≡ Some n → p < n → r ≤ n

  module _ (next : Option ℕ) (end p : ℕ) where
    pub cut_some : (r n : ℕ) → next ≡ Some n → (r ≤ end) × (p < n → r ≤ n) → (r ≤ end) × Before next p r
    cut_some r n e h = (h.0, λ k g l. let q = same_Some n k (sym e ∙ g) in omega (arith, h.1 (omega arith)))

    pub cut_none : next ≡ None → (end ≤ end) × Before next p end
    cut_none e = (omega arith, λ k g l. absurd (none-some k (sym e ∙ g)))

  pub ends_none : (next : Option ℕ) (end p a : ℕ) → m.held ≡ None → a ≤ end → Before next p a → Ends m next end p a
  unfolding added_origin
  ends_none next end p a e l b = record { most = l; before = b; same = λ q u v. rw e }

  pub ends_held : (next : Option ℕ) (end p a b c d r : ℕ) (held : Strikes) → m.held ≡ Some held → a ≤ end → Before next p a
      → (b ≤ a) × (p < held.low → b ≤ held.low)
      → (c ≤ b) × (p < held.high + 1 → c ≤ held.high + 1)
      → (d ≤ c) × (p < m.wide.low → d ≤ m.wide.low)
      → (r ≤ d) × (p < m.wide.high + 1 → r ≤ m.wide.high + 1)
      → Ends m next end p r
  unfolding added_origin
  ends_held next end p a b c d r held e l before hb hc hd hr = record {
    most = omega (arith, hb.0, hc.0, hd.0, hr.0);
    before = λ n g k. omega (arith, before n g k, hb.0, hc.0, hd.0, hr.0);
    same = λ q u v.
        let h : within held.low held.high q ≡ within held.low held.high p = same_side held.low held.high p q u
        (λ l. omega (arith, hb.1 l, hc.0, hd.0, hr.0)) (λ l. omega (arith, hc.1 l, hd.0, hr.0)) in
        let w : within m.wide.low m.wide.high q ≡ within m.wide.low m.wide.high p = same_side m.wide.low m.wide.high p q u
        (λ l. omega (arith, hd.1 l, hr.0)) (λ l. omega (arith, hr.1 l)) in
        rw (e, h, w);
  }

  -- ---- the two kinds of stretch
  module _ (p step : ℕ) (s : step ≡ stride m.tier * band_step p) where
    -- an old row by itself
    pub old_alike : (r : Row) (rs : List Row) → is_next m p (r ∷ rs) ≡ true
        → Alike m (r ∷ rs) p (record { end = p + 1; step = step; first = r.entry.first; origin = r.entry.origin }) rs
    old_alike r rs e = record { here = entered-next m p r rs e; step = s; more = λ q a b. absurd (omega arith) }

    -- added rows up to the next change
    pub new_alike : (rs : List Row) (end : ℕ) → is_next m p rs ≡ false → Ends m (next_price m rs) (band_end p) p end
        → Alike m rs p (record { end = end; step = step; first = m.day; origin = added_origin m p }) rs
    new_alike rs end h e = record {
      here = entered_new m p rs h;
      step = s;
      more = λ q a b. (
        rw (← e.same q (omega arith) b) (entered_new m q rs (next-not q rs (λ g. omega (arith, e.before q g a)))),
        s ∙ rw (band-kept p q (omega arith) (omega (arith, e.most))).0,
      );
    }
