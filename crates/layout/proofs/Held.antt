-- What a well-formed register holds, by the numbers of the grids: six ladders, each from a lowest to a highest number of its
-- tier's grid. The check and the calls both go by this description.
-- Assumes nothing.
use mathlib.Core.Path.{◌≡◌, refl, sym, ap, ◌∙◌}
use mathlib.Core.Bool.{Bool, true, false, cond, ◌&&◌, false≢true}
use mathlib.Core.List.{List, [], ◌∷◌, ◌++◌}
use mathlib.Core.Option.{none, some}
use Prim.Native.Nat.{ℕ, ◌≤◌}
use native.Mathlib.Omega.{arith}
use lib.Dec.{leb, eqb, ltb}
use lib.ListN.{length}
use borrow.Author.Tests.{eqb-true, eq-eqb, ne_eqb}
use Rattle.base.specs.Lists.{elem, select, within, least, greatest}
use Rattle.base.proofs.Tests.{clash, and_l, and_r, and_i, or_e}
use Rattle.base.proofs.ListLaws.{elem-here, elem_there, elem-select, within_i, within_l, within_r, least_is, least_P, greatest_is, greatest_P}
use Rattle.base.proofs.Rising.{rises, rises_tail, rises-all, rises_all, select_rises}
use Rattle.calendar.specs.Live.{live_months, tier_of}
use Rattle.grid.specs.Grid.{grid_of}
use Rattle.grid.specs.Numbers.{price, number_of, OnGrid}
use Rattle.grid.proofs.Prices.{price_mono, price_back}
use Rattle.grid.proofs.Grids.{number-on}
use Rattle.rules.specs.Rules.{Rules, last_first_month}
use Rattle.rules.specs.Rulebook.{rules, first_at, tier_at}
use Rattle.rules.proofs.RulebookLaws.{grid_rises, live_rises}
use Rattle.layout.specs.Rows.{Entry, new_entry, Row, row, ladder, rows_of, find, prices_of}
use Rattle.layout.specs.Register.{most_waiting, Body, span_low, span_high, same_keys, non_empty, entries_ok, listed, waiting_ok, well_formed}
use Rattle.layout.proofs.RowLaws.{find-rows_of, elem_prices, ladder_same, rows_of_same}
use Rattle.grid.proofs.Between.{grid-number}

-- the prices of a month from one number to another on its tier's grid, where f is the first live month
abbrev pub ladder_of : ℕ → (ℕ → ℕ) → (ℕ → ℕ) → ℕ → List ℕ
ladder_of f low high m = select (within (price (low m)) (price (high m))) (grid_of (tier_of f m))

pub record Held (f : ℕ) (rs : List Row) : Type 0 where
  pub low : ℕ → ℕ
  pub high : ℕ → ℕ
  pub entry : ℕ → ℕ → Entry
  pub low-on : (m : ℕ) → elem m (live_months f) ≡ true → OnGrid (tier_of f m) (low m)
  pub high-on : (m : ℕ) → elem m (live_months f) ≡ true → OnGrid (tier_of f m) (high m)
  pub order : (m : ℕ) → elem m (live_months f) ≡ true → low m ≤ high m
  pub rows_are : rs ≡ rows_of (live_months f) (ladder_of f low high) entry

module _ (f : ℕ) (rs : List Row) (h : Held f rs) where
  pub found : (m p : ℕ) → find m p rs ≡ cond (elem m (live_months f) && elem p (ladder_of f h.low h.high m)) (some (h.entry m p)) none
  found m p = ap (find m p) h.rows_are ∙ find-rows_of m p (live_months f) (ladder_of f h.low h.high) h.entry

  prices : (m p : ℕ) → elem p (prices_of m rs) ≡ (elem m (live_months f) && elem p (ladder_of f h.low h.high m))
  prices m p = ap (λ (l : List Row). elem p (prices_of m l)) h.rows_are ∙ elem_prices m p (live_months f) (ladder_of f h.low h.high) h.entry

  ladder_is : (m p : ℕ) → elem p (ladder_of f h.low h.high m) ≡ (elem p (grid_of (tier_of f m)) && within (price (h.low m)) (price (h.high m)) p)
  ladder_is m p = elem-select (within (price (h.low m)) (price (h.high m))) p (grid_of (tier_of f m))

  in_span : (m p : ℕ) → elem p (prices_of m rs) ≡ true → within (price (h.low m)) (price (h.high m)) p ≡ true
  in_span m p e =
      and_r (elem p (grid_of (tier_of f m))) _ (sym (ladder_is m p) ∙ and_r (elem m (live_months f)) _ (sym (prices m p) ∙ e))

  pub there : (m j : ℕ) → elem m (live_months f) ≡ true → OnGrid (tier_of f m) j → h.low m ≤ j → j ≤ h.high m → elem (price j) (prices_of m rs) ≡ true
  there m j l o a b =
      let w : within (price (h.low m)) (price (h.high m)) (price j) ≡ true = within_i (price_mono (h.low m) j a) (price_mono j (h.high m) b) in
      prices m (price j) ∙ and_i l (ladder_is m (price j) ∙ and_i (number-on (tier_of f m) j o) w)

  -- the month's lowest and highest price are those of its lowest and highest number
  pub least-held : (m : ℕ) → elem m (live_months f) ≡ true → least (prices_of m rs) ≡ price (h.low m)
  least-held m l =
      least_is (price (h.low m)) (prices_of m rs) (there m (h.low m) l (h.low-on m l) (omega arith) (h.order m l))
      (λ p e. within_l (price (h.low m)) (price (h.high m)) p (in_span m p e))

  pub greatest-held : (m : ℕ) → elem m (live_months f) ≡ true → greatest (prices_of m rs) ≡ price (h.high m)
  greatest-held m l =
      greatest_is (price (h.high m)) (prices_of m rs) (there m (h.high m) l (h.high-on m l) (h.order m l) (omega arith))
      (λ p e. within_r (price (h.low m)) (price (h.high m)) p (in_span m p e))

-- ---- the sentences of well_formed one by one: those beside the ladders, and all
pub record Sound (R : Rules) (b : Body) : Type 0 where
  pub session-day : R.is_session b.at.day ≡ true
  pub good-at : R.good b.at ≡ true
  pub live : leb (R.first_live b.at) last_first_month ≡ true
  pub entries : entries_ok b.at.day b.rows ≡ true
  pub short : leb (length b.waiting) most_waiting ≡ true
  pub waits : waiting_ok R b [] b.waiting ≡ true

pub record Facts (R : Rules) (b : Body) : Type 0 where
  pub sound : Sound R b
  pub keys : same_keys b.rows (rows_of (R.live b.at) (listed R b.at (span_low b) (span_high b)) (λ m p. new_entry 0 0)) ≡ true
  pub some-row : non_empty b (R.live b.at) ≡ true

pub facts : (R : Rules) (b : Body) → well_formed R b ≡ true → Facts R b
unfolding well_formed
facts R b w =
    let w₁ = and_r (R.is_session b.at.day) _ w in
    let w₂ = and_r (R.good b.at) _ w₁ in
    let w₃ = and_r (leb (R.first_live b.at) last_first_month) _ w₂ in
    let w₄ = and_r (same_keys b.rows (rows_of (R.live b.at) (listed R b.at (span_low b) (span_high b)) (λ m p. new_entry 0 0))) _ w₃ in
    let w₅ = and_r (non_empty b (R.live b.at)) _ w₄ in
    let w₆ = and_r (entries_ok b.at.day b.rows) _ w₅ in
    record {
      sound = record {
        session-day = and_l (R.is_session b.at.day) _ w;
        good-at = and_l (R.good b.at) _ w₁;
        live = and_l (leb (R.first_live b.at) last_first_month) _ w₂;
        entries = and_l (entries_ok b.at.day b.rows) _ w₅;
        short = and_l (leb (length b.waiting) most_waiting) _ w₆;
        waits = and_r (leb (length b.waiting) most_waiting) _ w₆;
      };
      keys = and_l (same_keys b.rows (rows_of (R.live b.at) (listed R b.at (span_low b) (span_high b)) (λ m p. new_entry 0 0))) _ w₃;
      some-row = and_l (non_empty b (R.live b.at)) _ w₄;
    }

pub well-formed : (R : Rules) (b : Body) → Facts R b → well_formed R b ≡ true
unfolding well_formed
well-formed R b w =
    let v = w.sound in
    and_i v.session-day
    (and_i v.good-at
    (and_i v.live
    (and_i w.keys
    (and_i w.some-row
    (and_i v.entries
    (and_i v.short v.waits))))))

-- ---- no month stands twice in a list
abbrev pub Apart : List ℕ → Type 0
Apart [] = Unit {0}
Apart (m ∷ ms) = (elem m ms ≡ false) × Apart ms

not-below : (k m : ℕ) (ms : List ℕ) → rises k ms ≡ true → m ≤ k → elem m ms ≡ false
not-below k m ms h l = decide (elem m ms) refl
  where
    decide : (x : Bool) → elem m ms ≡ x → x ≡ false
    decide false e = refl
    decide true e = let a = rises-all k m ms h e in absurd (omega arith)

rises_apart : (k : ℕ) (ms : List ℕ) → rises k ms ≡ true → Apart ms
unfolding rises
rises_apart k [] h = tt
rises_apart k (m ∷ ms) h = let t = rises_tail k m ms h in (not-below m m ms t (omega arith), rises_apart m ms t)

all_apart : (ms : List ℕ) → rises_all ms ≡ true → Apart ms
unfolding rises_all
all_apart [] h = tt
all_apart (m ∷ ms) h = (not-below m m ms h (omega arith), rises_apart m ms h)

pub live_apart : (f : ℕ) → Apart (live_months f)
live_apart f = all_apart (live_months f) (live_rises f)

-- ---- rows with the months and prices of some ladders are those ladders, with some entries
abbrev Keyed : ℕ → List ℕ → List Row → List Row → Type 0
Keyed m ps rest rs = (g : ℕ → Entry) × (more : List Row) × (rs ≡ ladder m g ps ++ more) × (same_keys more rest ≡ true)

keyed-ladder : (k m : ℕ) (f : ℕ → Entry) (ps : List ℕ) (rest rs : List Row) → rises k ps ≡ true → same_keys rs (ladder m f ps ++ rest) ≡ true → Keyed m ps rest rs
unfolding ladder same_keys
keyed-ladder k m f [] rest rs h s = (f, rs, refl, s)
keyed-ladder k m f (p ∷ ps) rest [] h s = absurd (false≢true s)
keyed-ladder k m f (p ∷ ps) rest (r ∷ rs) h s =
    let a : r.month ≡ m = eqb-true r.month m (and_l _ _ s) in
    let s₁ = and_r (eqb r.month m) _ s in
    let c : r.price ≡ p = eqb-true r.price p (and_l _ _ s₁) in
    let s₂ = and_r (eqb r.price p) _ s₁ in
    let i = keyed-ladder p m f ps rest rs (rises_tail k p ps h) s₂ in
    let g : ℕ → Entry = λ q. cond (eqb q p) r.entry (i.0 q) in
    let here : g p ≡ r.entry = rw (eq-eqb p p refl) in
    let same : ladder m i.0 ps ≡ ladder m g ps =
    ladder_same m i.0 g ps (λ q e. let l = rises-all p q ps (rises_tail k p ps h) e in rw (ne_eqb q p (λ z. omega arith))) in
    let e₁ : r ≡ row m p (g p) = λ j. record { month = a j; price = c j; entry = sym here j } in
    (g, i.1, ap (λ (x : Row). x ∷ rs) e₁ ∙ ap (λ (xs : List Row). row m p (g p) ∷ xs) (i.2 ∙ ap (λ (xs : List Row). xs ++ i.1) same), i.3)

pub keyed : (L : List ℕ) (G : ℕ → List ℕ) (f : ℕ → ℕ → Entry) (rs : List Row) → Apart L → ((m : ℕ) → rises 0 (G m) ≡ true)
    → same_keys rs (rows_of L G f) ≡ true → (entry : ℕ → ℕ → Entry) × (rs ≡ rows_of L G entry)
unfolding rows_of same_keys
keyed [] G f [] a h s = (f, refl)
keyed [] G f (r ∷ rs) a h s = absurd (false≢true s)
keyed (m ∷ ms) G f rs a h s =
    let k = keyed-ladder 0 m (f m) (G m) (rows_of ms G f) rs (h m) s in
    let i = keyed ms G f k.1 a.1 h k.3 in
    let e : ℕ → ℕ → Entry = λ n p. cond (eqb n m) (k.0 p) (i.0 n p) in
    let here : ladder m k.0 (G m) ≡ ladder m (e m) (G m) = ladder_same m k.0 (e m) (G m) (λ p q. rw (eq-eqb m m refl)) in
    let there : rows_of ms G i.0 ≡ rows_of ms G e =
    rows_of_same ms G G i.0 e (λ n q. refl)
    (λ n p q r. rw (ne_eqb n m (λ z. clash (elem m ms) (rw z at q) a.0))) in
    (e, k.2 ∙ ap (λ (xs : List Row). xs ++ k.1) here ∙ ap (λ (xs : List Row). ladder m (e m) (G m) ++ xs) (i.1 ∙ there))

-- ---- the ends of a ladder
greatest_in : (x : ℕ) (xs : List ℕ) → elem x xs ≡ true → elem (greatest xs) xs ≡ true
unfolding greatest elem
greatest_in x [] e = absurd (false≢true e)
greatest_in x (y ∷ ys) e = greatest_P (λ (p : ℕ). elem p (y ∷ ys) ≡ true) y ys (elem-here y ys) (λ p q. elem_there p y ys q)

least_in : (xs : List ℕ) → ltb 0 (length xs) ≡ true → elem (least xs) xs ≡ true
unfolding least elem
least_in [] e = absurd (false≢true e)
least_in (y ∷ ys) e = least_P (λ (p : ℕ). elem p (y ∷ ys) ≡ true) y ys (elem-here y ys) (λ p q. elem_there p y ys q)

row_of : (b : Body) (L : List ℕ) (m : ℕ) → non_empty b L ≡ true → elem m L ≡ true → elem (span_low b m) (prices_of m b.rows) ≡ true
unfolding non_empty elem span_low
row_of b [] m h e = absurd (false≢true e)
row_of b (n ∷ ns) m h e =
    or_e (eqb m n) _ e
    (λ t. rw (eqb-true m n t) (least_in (prices_of n b.rows) (and_l _ _ h)))
    (λ t. row_of b ns m (and_r (ltb 0 (length (prices_of n b.rows))) _ h) t)

module _ (cal : List ℕ) (b : Body) (w : Facts (rules cal) b) where
  abbrev f : ℕ
  f = first_at cal b.at

  abbrev G : ℕ → List ℕ
  G m = select (within (span_low b m) (span_high b m)) (grid_of (tier_of f m))

  keys_are : same_keys b.rows (rows_of (live_months f) G (λ m p. new_entry 0 0)) ≡ true
  unfolding rules tier_at listed
  keys_are = w.keys

  rows : (entry : ℕ → ℕ → Entry) × (b.rows ≡ rows_of (live_months f) G entry)
  rows =
      keyed (live_months f) G (λ m p. new_entry 0 0) b.rows (live_apart f)
      (λ m. select_rises (within (span_low b m) (span_high b m)) 0 (grid_of (tier_of f m)) (grid_rises (tier_of f m))) keys_are

  module _ (m : ℕ) (e : elem m (live_months f) ≡ true) where
    low_there : elem (span_low b m) (prices_of m b.rows) ≡ true
    unfolding rules
    low_there = row_of b (live_months f) m w.some-row e

    on-ladder : (p : ℕ) → elem p (prices_of m b.rows) ≡ true → (elem p (grid_of (tier_of f m)) && within (span_low b m) (span_high b m) p) ≡ true
    on-ladder p q =
        let r = rows in
        sym (elem-select (within (span_low b m) (span_high b m)) p (grid_of (tier_of f m)))
        ∙ and_r (elem m (live_months f)) _ (sym (elem_prices m p (live_months f) G r.0) ∙ sym (ap (λ (l : List Row). elem p (prices_of m l)) r.1) ∙ q)

    high_there : elem (span_high b m) (prices_of m b.rows) ≡ true
    unfolding span_high
    high_there = greatest_in (span_low b m) (prices_of m b.rows) low_there

    low-number : OnGrid (tier_of f m) (number_of (span_low b m)) × (price (number_of (span_low b m)) ≡ span_low b m)
    low-number = grid-number (tier_of f m) (span_low b m) (and_l (elem (span_low b m) (grid_of (tier_of f m))) _ (on-ladder (span_low b m) low_there))

    high-number : OnGrid (tier_of f m) (number_of (span_high b m)) × (price (number_of (span_high b m)) ≡ span_high b m)
    high-number = grid-number (tier_of f m) (span_high b m) (and_l (elem (span_high b m) (grid_of (tier_of f m))) _ (on-ladder (span_high b m) high_there))

    in_order : number_of (span_low b m) ≤ number_of (span_high b m)
    in_order =
        let l = within_l (span_low b m) (span_high b m) (span_high b m) (and_r (elem (span_high b m) (grid_of (tier_of f m))) _ (on-ladder (span_high b m) high_there)) in
        let x = low-number.1 in
        let y = high-number.1 in
        price_back (number_of (span_low b m)) (number_of (span_high b m)) (omega arith)

  -- a well-formed register holds six ladders, by the numbers of its spans
  pub held : Held f b.rows
  held =
      let r = rows in
      record {
        low = λ m. number_of (span_low b m);
        high = λ m. number_of (span_high b m);
        entry = r.0;
        low-on = λ m e. (low-number m e).0;
        high-on = λ m e. (high-number m e).0;
        order = in_order;
        rows_are = r.1 ∙ rows_of_same (live_months f) G (ladder_of f (λ m. number_of (span_low b m)) (λ m. number_of (span_high b m))) r.0 r.0
            (λ m e. rw ((low-number m e).1, (high-number m e).1)) (λ m p e q. refl);
      }
