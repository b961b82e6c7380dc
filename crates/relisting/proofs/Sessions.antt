-- A session: each live month's span, the rows, their counts and the bytes are what document 01 says.
-- Assumes nothing.
use mathlib.Core.Path.{◌≡◌, refl, sym, ap, ◌∙◌}
use mathlib.Core.Bool.{Bool, true, false, cond, not, ◌&&◌}
use mathlib.Core.Option.{none, some}
use mathlib.Core.List.{List, [], ◌∷◌, ◌++◌}
use Prim.Native.Nat.{ℕ, suc, ◌+◌, ◌-◌, ◌≤◌, ◌<◌, min, max}
use native.Mathlib.Omega.{arith}
use lib.Dec.{eqb}
use lib.ListN.{length, get_or, drop, length-append}
use lib.Seq.{drop_at}
use borrow.Author.Tests.{eq-eqb, ne_eqb}
use Rattle.base.specs.Lists.{elem, within}
use Rattle.base.proofs.Tests.{by_bool, by_le, and_l, and_r, and_i}
use Rattle.base.specs.declared.Tier.TheVariants.{N}
use Rattle.base.proofs.ListLaws.{elem-here, elem_there, within_i, within_l, within_r, elem-select, least_le, greatest_ge, least_P, greatest_P}
use Rattle.base.proofs.Rising.{rises_tail, rises_all, select_rises}
use Rattle.calendar.specs.Calendar.{next_session}
use Rattle.calendar.specs.Live.{live_months, tier_of}
use Rattle.calendar.proofs.CalendarLaws.{next_later}
use Rattle.calendar.proofs.LiveLaws.{tier_n}
use Rattle.grid.specs.Grid.{grid_of, required_low, required_high}
use Rattle.grid.specs.Numbers.{price, number_of}
use Rattle.grid.proofs.Prices.{price_strict, number-price}
use Rattle.grid.proofs.Grids.{number-on}
use Rattle.grid.proofs.GridLaws.{required-low, required-high}
use Rattle.rules.specs.Rules as Rules
use Rattle.rules.specs.Rules.{Moment, Rules}
use Rattle.rules.specs.Rulebook.{moved, first_at, tier_at, rules}
use Rattle.rules.proofs.RulebookLaws.{laws, grid_rises, live_rises, first_later}
use Rattle.rules.proofs.NextLaws.{moves_by_one}
use Rattle.layout.specs.Rows.{Entry, new_entry, Row, ladder, rows_of, find}
use Rattle.layout.specs.Register.{Body, running, waiting_of, span_low, span_high, listed}
use Rattle.layout.specs.Origins.{origin_code}
use Rattle.layout.specs.declared.Origin.TheVariants.{Live}
use Rattle.layout.specs.Bytes.{register_length, most_rows, rows_bytes, padded, read_rows, bytes_of, moment_of, rows_from, rows_length}
use Rattle.base.specs.Words.{at16}
use Rattle.layout.specs.Spans.{spans_of, span_in}
use Rattle.layout.proofs.RowLaws.{rows_of_same, ladder-length}
use Rattle.layout.proofs.Running.{Running}
use Rattle.register.proofs.Well.{run-first}
use Rattle.layout.proofs.SpanLaws.{span-in}
use Rattle.layout.proofs.Held.{Held, ladder_of, found, least-held, greatest-held}
use Rattle.ladders.specs.declared.Plan.{Plan}
use Rattle.ladders.specs.Writing.{prices_in, added_origin, ladders_from, some_strikes, plan_at, Spanned, Ready}
use Rattle.spans.specs.Spans.{held_spans, close_pair, close_spans, announced_pair, new_pair, new_spans}
use Rattle.grid.proofs.Between.{between, near-count}
use Rattle.ladders.proofs.Ladders.{ladders-count}
use Rattle.spans.proofs.SpanLaws.{by-six}
use Rattle.ladders.proofs.Relisted.{added, ladders_over, left_over, ladders-over, At, from_over}
use Rattle.calls.specs.Listing.{kept, close_low, close_high, new_low, new_high, new_origin, session_body}
use Rattle.calls.specs.Answers as Calls
use Rattle.calls.specs.Answers.{count, rows_held, removed}
use Rattle.calls.specs.declared.Totals.{Totals}
use Rattle.relisting.specs.Writing.{answer, head_bytes, quiet_bytes, Taken, dropped_rows}
use Rattle.relisting.proofs.Head.{quiet_is}
use Rattle.calls.proofs.CountLaws.{count-append, on, none_yet, of, ladder_all, rows_none}
use Rattle.relisting.proofs.Counting.{count_months}
use Rattle.relisting.proofs.Plans.{prices_rise, index_of, ready}
use Rattle.relisting.proofs.Before as B
use Rattle.relisting.proofs.Before.{old, well, rows_laid, holds, waits-next}
use Rattle.relisting.proofs.NextMonth.{behind, stay-live, live-from}

-- the lower and the higher of two numbers is one of them
min_P : (P : ℕ → Type 0) (i j : ℕ) → P i → P j → P (min i j)
min_P P i j p q = by_le i j (λ l. let e : min i j ≡ i = omega arith in rw e p) (λ l. let e : min i j ≡ j = omega arith in rw e q)

max_P : (P : ℕ → Type 0) (i j : ℕ) → P i → P j → P (max i j)
max_P P i j p q = by_le i j (λ l. let e : max i j ≡ j = omega arith in rw e q) (λ l. let e : max i j ≡ i = omega arith in rw e p)

module _ (cal bs : List ℕ) (day close : ℕ) (size : length bs ≡ register_length) (run : Running cal bs) (ok : Taken cal (moved (moment_of bs) day) close) (next : day ≡ next_session cal (moment_of bs).day) where
  abbrev R : Rules
  R = rules cal

  -- the register before, the moment of the session, and the first live months of both
  abbrev pub b : Body
  b = old cal bs size run

  abbrev pub x : Moment
  x = moved (moment_of bs) day

  abbrev pub f : ℕ
  f = first_at cal (moment_of bs)

  abbrev pub g : ℕ
  g = first_at cal x

  abbrev pub h : Held f b.rows
  h = holds cal bs size run

  -- its moment is the next one
  x-next : x ≡ Rules.next R (moment_of bs)
  unfolding rules
  x-next = ap (moved (moment_of bs)) next

  pub later : (moment_of bs).day < day
  later = rw next (next_later cal (moment_of bs).day)

  pub not-before : f ≤ g
  not-before = rw x-next (first_later cal (moment_of bs))

  pub by_one : g ≤ f + 1
  by_one = rw x-next (moves_by_one cal ok.passes (moment_of bs) (run-first cal bs size run))

  -- ---- a month's pairs: what it held, that widened by the close, and its span
  abbrev held_at : ℕ → List ℕ
  held_at m = span_in (live_months f) (spans_of b (live_months f)) m

  abbrev wide_at : ℕ → List ℕ
  wide_at m = close_pair (held_at m) (required_low (tier_of g m) close) (required_high (tier_of g m) close)

  abbrev new_at : ℕ → List ℕ
  new_at m = new_pair b.waiting m (held_at m) (wide_at m)

  module _ (m : ℕ) (e : elem m (live_months f) ≡ true) where
    pub low_is : span_low b m ≡ price (h.low m)
    unfolding span_low
    low_is = least-held f b.rows h m e

    pub high_is : span_high b m ≡ price (h.high m)
    unfolding span_high
    high_is = greatest-held f b.rows h m e

    -- a price is never 0
    some-low : eqb (span_low b m) 0 ≡ false
    some-low = ne_eqb (span_low b m) 0 (λ q. omega (arith, low_is, price_strict 0 (h.low m) (h.low-on m e).from))

    pub held_is : held_at m ≡ span_low b m ∷ span_high b m ∷ []
    held_is = span-in b m (live_months f) ∙ rw e

    wide_is : wide_at m ≡ close_low R b x close m ∷ close_high R b x close m ∷ []
    unfolding close_pair close_low close_high rules tier_at
    wide_is = rw (held_is, some-low)

    live_here : elem m (R.live b.at) ≡ true
    unfolding rules
    live_here = e

    new-live : new_at m ≡ new_low R b x close m ∷ new_high R b x close m ∷ []
    unfolding new_pair announced_pair new_low new_high
    new-live = rw (wide_is, held_is, some-low, live_here)

  module _ (m : ℕ) (e : elem m (live_months f) ≡ false) where
    held_none : held_at m ≡ 0 ∷ 0 ∷ []
    held_none = span-in b m (live_months f) ∙ rw e

    fresh-here : elem m (R.live b.at) ≡ false
    unfolding rules
    fresh-here = e

    new_fresh : new_at m ≡ new_low R b x close m ∷ new_high R b x close m ∷ []
    unfolding new_pair close_pair new_low new_high rules tier_at
    new_fresh = rw (held_none, e)

  pub new_is : (m : ℕ) → new_at m ≡ new_low R b x close m ∷ new_high R b x close m ∷ []
  new_is m = by_bool (elem m (live_months f)) (new-live m) (new_fresh m)

  -- ---- a month's plan
  abbrev pub F : ℕ → Plan
  F m = record {
    month = m;
    tier = tier_of g m;
    day = day;
    origin = origin_code Live;
    span = record { low = get_or (new_at m) 0 0; high = get_or (new_at m) 1 0 };
    held = some_strikes (held_at m);
    wide = record { low = get_or (wide_at m) 0 0; high = get_or (wide_at m) 1 0 };
  }

  abbrev pub held_pairs : List (List ℕ)
  held_pairs = held_spans (live_months f) (spans_of b (live_months f)) (live_months g)

  abbrev pub wide_pairs : List (List ℕ)
  wide_pairs = close_spans (live_months g) held_pairs close

  abbrev pub new_pairs : List (List ℕ)
  new_pairs = new_spans b.waiting (live_months g) held_pairs wide_pairs

  abbrev pub plans : ℕ → Plan
  plans = plan_at day (origin_code Live) (live_months g) held_pairs wide_pairs new_pairs

  pub plans-at : At F plans 0 (live_months g)
  unfolding live_months held_spans close_spans new_spans
  plans-at = by-six (λ k. plans (0 + k) ≡ F (get_or (live_months g) k 0)) refl refl refl refl refl refl

  -- the pairs at a position are those of its month
  held-nth : (i : ℕ) → i < 6 → get_or held_pairs i [] ≡ held_at (get_or (live_months g) i 0)
  unfolding held_spans
  held-nth = by-six (λ i. get_or held_pairs i [] ≡ held_at (get_or (live_months g) i 0)) refl refl refl refl refl refl

  new-nth : (i : ℕ) → i < 6 → get_or new_pairs i [] ≡ new_at (get_or (live_months g) i 0)
  unfolding live_months held_spans close_spans new_spans
  new-nth = by-six (λ i. get_or new_pairs i [] ≡ new_at (get_or (live_months g) i 0)) refl refl refl refl refl refl

  pub origin_is : (m p : ℕ) → added_origin (F m) p ≡ new_origin R b x close m p
  unfolding added_origin new_origin
  origin_is m p =
      by_bool (elem m (live_months f))
      (λ e. rw (wide_is m e, held_is m e, some-low m e, live_here m e))
      (λ e. rw (held_none m e, fresh-here m e))

  -- ---- a month that was live and still is
  module _ (m : ℕ) (e : elem m (live_months f) ≡ true) where
    pub low_moves : new_low R b x close m ≤ span_low b m
    unfolding new_low close_low
    low_moves = rw (live_here m e) (let l = least_le (close_low R b x close m) (waiting_of m b.waiting) in omega arith)

    pub high_moves : span_high b m ≤ new_high R b x close m
    unfolding new_high close_high
    high_moves = rw (live_here m e) (let l = greatest_ge (close_high R b x close m) (waiting_of m b.waiting) in omega arith)

    module _ (s : elem m (live_months g) ≡ true) where
      -- its grid is as fine as it was, or finer
      finer : (p : ℕ) → elem p (grid_of (tier_of f m)) ≡ true → elem p (grid_of (tier_of g m)) ≡ true
      unfolding rules tier_at
      finer p q = rw x-next ((laws cal).finer b.at m p refl e (rw x-next at s) q)

      -- its old ends, what the close requires and what was announced are all on it
      low_was : elem (span_low b m) (grid_of (tier_of g m)) ≡ true
      low_was = finer (span_low b m) (rw (low_is m e) (number-on (tier_of f m) (h.low m) (h.low-on m e)))

      high_was : elem (span_high b m) (grid_of (tier_of g m)) ≡ true
      high_was = finer (span_high b m) (rw (high_is m e) (number-on (tier_of f m) (h.high m) (h.high-on m e)))

      low-on : elem (new_low R b x close m) (grid_of (tier_of g m)) ≡ true
      unfolding new_low close_low rules tier_at
      low-on =
          rw e
          (least_P (λ p. elem p (grid_of (tier_of g m)) ≡ true) (close_low R b x close m) (waiting_of m b.waiting)
          (min_P (λ p. elem p (grid_of (tier_of g m)) ≡ true) (span_low b m) (required_low (tier_of g m) close) low_was (required-low (tier_of g m) close).0)
          (λ p q. rw x-next (waits-next cal bs size run m p q)))

      high-on : elem (new_high R b x close m) (grid_of (tier_of g m)) ≡ true
      unfolding new_high close_high rules tier_at
      high-on =
          rw e
          (greatest_P (λ p. elem p (grid_of (tier_of g m)) ≡ true) (close_high R b x close m) (waiting_of m b.waiting)
          (max_P (λ p. elem p (grid_of (tier_of g m)) ≡ true) (span_high b m) (required_high (tier_of g m) close) high_was (required-high (tier_of g m) close).0)
          (λ p q. rw x-next (waits-next cal bs size run m p q)))

      -- and every price that it had is listed still
      pub still-listed : (p : ℕ) → elem p (ladder_of f h.low h.high m) ≡ true → elem p (prices_in (F m)) ≡ true
      unfolding prices_in
      still-listed p q =
          let w = sym (elem-select (within (price (h.low m)) (price (h.high m))) p (grid_of (tier_of f m))) ∙ q in
          let on = finer p (and_l (elem p (grid_of (tier_of f m))) _ w) in
          let in_span = and_r (elem p (grid_of (tier_of f m))) _ w in
          let a = within_l (price (h.low m)) (price (h.high m)) p in_span in
          let c = within_r (price (h.low m)) (price (h.high m)) p in_span in
          rw (new_is m)
          (elem-select (within (new_low R b x close m) (new_high R b x close m)) p (grid_of (tier_of g m))
          ∙ and_i on (within_i (omega (arith, a, low_is m e, low_moves)) (omega (arith, c, high_is m e, high_moves))))

  -- ---- the plans can be carried out
  fresh-low : (m : ℕ) → elem m (live_months f) ≡ false → elem (new_low R b x close m) (grid_of (tier_of g m)) ≡ true
  unfolding new_low rules tier_at
  fresh-low m e = rw e (required-low (tier_of g m) close).0

  fresh-high : (m : ℕ) → elem m (live_months f) ≡ false → elem (new_high R b x close m) (grid_of (tier_of g m)) ≡ true
  unfolding new_high rules tier_at
  fresh-high m e = rw e (required-high (tier_of g m) close).0

  spanned : (m : ℕ) → elem m (live_months g) ≡ true → Spanned (F m)
  spanned m s = record {
    low-on = rw (new_is m) (by_bool (elem m (live_months f)) (λ e. low-on m e s) (λ e. fresh-low m e));
    high-on = rw (new_is m) (by_bool (elem m (live_months f)) (λ e. high-on m e s) (λ e. fresh-high m e));
  }

  pub session_ready : Ready g plans
  session_ready = let l = ok.live in ready cal x F (λ m. refl) spanned (omega arith) plans plans-at

  -- ---- the old rows that stay: those of the months that are live still
  abbrev G : ℕ → List ℕ
  G = ladder_of f h.low h.high

  record Stays (stay : List ℕ) (gone : List Row) : Type 0 where
    rows_are : b.rows ≡ gone ++ rows_of stay G h.entry
    dropped : length gone ≡ dropped_rows f g (span_low b f ∷ span_high b f ∷ [])
    ascend : rises_all stay ≡ true
    live_both : (m : ℕ) → elem m stay ≡ true → (elem m (live_months f) ≡ true) × (elem m (live_months g) ≡ true)
    same : (m : ℕ) → elem m (live_months g) ≡ true → elem m stay ≡ elem m (live_months f)
    all_gone : count (of (λ m. not (elem m (live_months g)))) gone ≡ length gone

  stays_all : f ≡ g → Stays (live_months f) []
  unfolding dropped_rows count
  stays_all q = record {
    rows_are = h.rows_are;
    dropped = sym (rw (eq-eqb f g q));
    ascend = live_rises f;
    live_both = λ m e. (e, rw (← q) e);
    same = λ m e. refl;
    all_gone = refl;
  }

  first_live : elem f (live_months f) ≡ true
  unfolding live_months
  first_live = elem-here f (behind f)

  low-number : number_of (span_low b f) ≡ h.low f
  low-number = let o = h.low-on f first_live in ap number_of (low_is f first_live) ∙ number-price (h.low f) o.from o.to

  high-number : number_of (span_high b f) ≡ h.high f
  high-number = let o = h.high-on f first_live in ap number_of (high_is f first_live) ∙ number-price (h.high f) o.from o.to

  -- the first month's ladder was one of tier N
  first_count : length (G f) ≡ suc (number_of (span_high b f)) - number_of (span_low b f)
  first_count =
      let o = h.order f first_live in
      let l = (h.low-on f first_live).from in
      let u = (h.high-on f first_live).to in
      let e : h.low f + (h.high f - h.low f) ≡ h.high f = omega arith in
      let n : length (between N (h.low f) (h.high f)) ≡ suc (h.high f - h.low f) = rw e at (near-count (h.high f - h.low f) (h.low f) l (omega arith)) in
      rw (tier_n f f (omega arith), low-number, high-number) (omega (arith, n))

  not_live : f < g → not (elem f (live_months g)) ≡ true
  not_live l = by_bool (elem f (live_months g)) (λ e. absurd (omega (arith, live-from g f e))) (λ e. rw e)

  stays-behind : g ≡ f + 1 → Stays (behind f) (ladder f (h.entry f) (G f))
  unfolding dropped_rows live_months rows_of rises_all elem
  stays-behind q = record {
    rows_are = h.rows_are;
    dropped = ladder-length f (h.entry f) (G f) ∙ first_count ∙ sym (rw (ne_eqb f g (λ z. omega arith)));
    ascend = rises_tail f (f + 1) _ (live_rises f);
    live_both = λ m e. (elem_there m f (behind f) e, rw q (stay-live f m e));
    same = λ m e. let l = live-from g m e in sym (rw (ne_eqb m f (λ z. omega arith)));
    all_gone = ladder_all (λ m. not (elem m (live_months g))) f (h.entry f) (G f) (not_live (omega arith));
  }

  stays : (stay : List ℕ) × (gone : List Row) × Stays stay gone
  stays =
      by_le g f
      (λ l. (live_months f, [], stays_all (omega (arith, not-before))))
      (λ l. (behind f, ladder f (h.entry f) (G f), stays-behind (omega (arith, by_one))))

  -- ---- the rows: what a month had it keeps, and what its span takes in is added
  kept_is : (t : Bool) (p q : Entry) → cond t p q ≡ kept (cond t (some p) none) q
  unfolding kept
  kept_is true p q = refl
  kept_is false p q = refl

  abbrev pub after : Body
  after = session_body R b x close

  listed_is : (m : ℕ) → prices_in (F m) ≡ listed R x (new_low R b x close) (new_high R b x close) m
  unfolding prices_in listed rules tier_at
  listed_is m = rw (new_is m)

  none_today : count (on day) b.rows ≡ 0
  none_today = none_yet day (moment_of bs).day b.rows later (well cal bs size run).sound.entries

  module _ (stay : List ℕ) (gone : List Row) (s : Stays stay gone) where
    abbrev staying : List Row
    staying = rows_of stay G h.entry

    over : (ladders_over F (live_months g) staying
        ≡ rows_of (live_months g) (λ m. prices_in (F m)) (λ m p. cond (elem m stay && elem p (G m)) (h.entry m p) (added (F m) p)))
        × (left_over F (live_months g) staying ≡ [])
    over =
        ladders-over F (λ m. refl) G h.entry (λ m. prices_rise (F m))
        (λ m. select_rises (within (price (h.low m)) (price (h.high m))) 0 (grid_of (tier_of f m)) (grid_rises (tier_of f m)))
        (live_months g) stay (live_rises g) s.ascend (λ m e. (s.live_both m e).1) (λ m e. let k = s.live_both m e in still-listed m k.0 k.1)

    entry_is : (m p : ℕ) → elem m (live_months g) ≡ true
        → cond (elem m stay && elem p (G m)) (h.entry m p) (added (F m) p) ≡ kept (find m p b.rows) (new_entry day (new_origin R b x close m p))
    entry_is m p e = rw (s.same m e, found f b.rows h m p, ← origin_is m p) (kept_is (elem m (live_months f) && elem p (G m)) (h.entry m p) (added (F m) p))

    from_is : ladders_from plans 0 6 staying ≡ ladders_over F (live_months g) staying
    unfolding live_months
    from_is = from_over F plans 0 (live_months g) staying plans-at

    rows_new : ladders_from plans 0 6 staying ≡ after.rows
    unfolding session_body rules moved
    rows_new =
        from_is ∙ over.0
        ∙ rows_of_same (live_months g) (λ m. prices_in (F m)) (listed R x (new_low R b x close) (new_high R b x close)) _ _ (λ m e. listed_is m) (λ m p e q. entry_is m p e)

    row_count : length gone + length staying ≡ at16 bs 4
    row_count = sym (length-append gone staying) ∙ ap length (sym s.rows_are) ∙ B.row_count cal bs size run

    added_is : count (on day) after.rows + length staying ≡ length after.rows
    added_is =
        let a = sym (count-append (on day) gone staying) ∙ ap (count (on day)) (sym s.rows_are) ∙ none_today in
        let c = count_months day F (λ m. refl) (live_months g) staying (omega arith) in
        let l = over.1 in
        rw (← rows_new, from_is) (omega (arith, rw l at c))

    removed_is : count (of (λ m. not (elem m (live_months g)))) b.rows ≡ length gone
    removed_is =
        rw s.rows_are
        (count-append (of (λ m. not (elem m (live_months g)))) gone staying
        ∙ rw (s.all_gone, rows_none (λ m. not (elem m (live_months g))) stay G h.entry (λ m e. rw (s.live_both m e).1)) (omega arith))

    old-rows : drop (length gone) b.rows ≡ staying
    old-rows = ap (drop (length gone)) s.rows_are ∙ drop_at gone staying (length gone) refl

  -- ---- what a session answers and leaves
  abbrev answered : Totals
  answered = answer R (running b) (running after)

  answers : (new gone rows : ℕ) → new ≡ count (on day) after.rows → gone ≡ count (of (λ m. not (elem m (live_months g)))) b.rows → rows ≡ length after.rows
      → ◌≡◌ {A = Totals} (record { added = new; removed = gone; rows = rows }) answered
  unfolding Calls.added removed rows_held session_body rules moved
  answers new gone rows a r l = λ i. record { added = a i; removed = r i; rows = l i }

  abbrev first_span : List ℕ
  first_span = span_low b f ∷ span_high b f ∷ []

  pub first-order : number_of (span_low b f) ≤ number_of (span_high b f)
  first-order = omega (arith, low-number, high-number, h.order f first_live)

  pub dropped_le : dropped_rows f g first_span ≤ at16 bs 4
  dropped_le = let k = stays in omega (arith, k.2.dropped, row_count k.0 k.1 k.2)

  -- the months listed anew
  module _ (count₁ : ℕ) (out : List ℕ) where
    abbrev listed_rows : List Row
    listed_rows = ladders_from plans 0 6 (drop (dropped_rows f g first_span) b.rows)

    pub relisted : count₁ ≡ length listed_rows → out ≡ quiet_bytes day listed_rows
        → (at16 bs 4 ≤ count₁ + dropped_rows f g first_span)
        × (◌≡◌ {A = Totals} (record { added = count₁ + dropped_rows f g first_span - at16 bs 4; removed = dropped_rows f g first_span; rows = count₁ }) answered)
        × (out ≡ bytes_of (running after))
    unfolding session_body moved
    relisted c o =
        let k = stays in
        let n = row_count k.0 k.1 k.2 in
        let a = added_is k.0 k.1 k.2 in
        let d : dropped_rows f g first_span ≡ length k.1 = sym k.2.dropped in
        let olds : drop (dropped_rows f g first_span) b.rows ≡ rows_of k.0 G h.entry = rw d (old-rows k.0 k.1 k.2) in
        let r : listed_rows ≡ after.rows = ap (ladders_from plans 0 6) olds ∙ rows_new k.0 k.1 k.2 in
        let l : count₁ ≡ length after.rows = c ∙ ap length r in (
          omega (arith, d, n, l, a),
          answers (count₁ + dropped_rows f g first_span - at16 bs 4) (dropped_rows f g first_span) count₁ (omega (arith, d, n, l, a)) (d ∙ sym (removed_is k.0 k.1 k.2)) l,
          o ∙ ap (quiet_bytes day) r ∙ quiet_is x after.rows,
        )

  -- the rows left as they are
  module _ (q : f ≡ g) (same : held_pairs ≡ new_pairs) where
    was-live : (m : ℕ) → elem m (live_months g) ≡ true → elem m (live_months f) ≡ true
    was-live m e = rw q e

    six : length (live_months g) ≡ 6
    unfolding live_months
    six = refl

    span_stays : (m : ℕ) → elem m (live_months g) ≡ true → (new_low R b x close m ≡ span_low b m) × (new_high R b x close m ≡ span_high b m)
    span_stays m e =
        let k = index_of (live_months g) m e in
        let i : k.0 < 6 = omega (arith, k.1, six) in
        let w : held_at m ≡ new_at m =
        ap held_at (sym k.2) ∙ sym (held-nth k.0 i) ∙ ap (λ (ss : List (List ℕ)). get_or ss k.0 []) same ∙ new-nth k.0 i ∙ ap new_at k.2 in
        let v = sym (held_is m (was-live m e)) ∙ w ∙ new_is m in
        (sym (ap (λ (s : List ℕ). get_or s 0 0) v), sym (ap (λ (s : List ℕ). get_or s 1 0) v))

    prices_stay : (m : ℕ) → elem m (live_months g) ≡ true → listed R x (new_low R b x close) (new_high R b x close) m ≡ G m
    unfolding listed rules tier_at
    prices_stay m e =
        let k = span_stays m e in
        rw (k.0, k.1, low_is m (was-live m e), high_is m (was-live m e), q)

    unchanged : after.rows ≡ b.rows
    unfolding session_body kept rules
    unchanged =
        rows_of_same (live_months g) (listed R x (new_low R b x close) (new_high R b x close)) G _ h.entry prices_stay
        (λ m p e w. rw (found f b.rows h m p, was-live m e, w))
        ∙ ap (λ (k : ℕ). rows_of (live_months k) G h.entry) (sym q)
        ∙ sym h.rows_are

    pub head_only : (out : List ℕ) → out ≡ head_bytes day (at16 bs 4) ++ drop rows_from bs
        → (◌≡◌ {A = Totals} (record { added = 0; removed = 0; rows = at16 bs 4 }) answered) × (out ≡ bytes_of (running after))
    unfolding session_body moved
    head_only out o =
        let n : at16 bs 4 ≡ length b.rows = sym (B.row_count cal bs size run) in (
          answers 0 0 (at16 bs 4) (sym (ap (count (on day)) unchanged ∙ none_today)) (sym (removed_is (live_months f) [] (stays_all q))) (n ∙ ap length (sym unchanged)),
          o ∙ ap (λ (k : List ℕ). head_bytes day (at16 bs 4) ++ k) (rows_laid cal bs size run) ∙ ap (λ (k : ℕ). head_bytes day k ++ padded rows_length (rows_bytes b.rows)) n ∙ ap (quiet_bytes day) (sym unchanged) ∙ quiet_is x after.rows,
        )

  -- ---- the same of what the code takes up, each thing as it was given to it
  pub record TakenUp (spans : List (List ℕ)) (before first : ℕ) (months olds : List ℕ) (held wide new : List (List ℕ)) : Type 0 where
    pub spans_are : spans ≡ spans_of b (live_months f)
    pub before_is : before ≡ f
    pub first_is : first ≡ g
    pub months_are : months ≡ live_months first
    pub olds_are : olds ≡ live_months before
    pub held_are : held ≡ held_spans olds spans months
    pub wide_are : wide ≡ close_spans months held close
    pub new_are : new ≡ new_spans b.waiting months held wide

-- where these are taken up, the months can be listed, and the answer is a session's
module _ {cal bs : List ℕ} {day close : ℕ} {size : length bs ≡ register_length} {run : Running cal bs} {ok : Taken cal (moved (moment_of bs) day) close} {next : day ≡ next_session cal (moment_of bs).day}
    {spans : List (List ℕ)} {before first : ℕ} {months olds : List ℕ} {held wide new : List (List ℕ)}
    (u : TakenUp cal bs day close size run ok next spans before first months olds held wide new) where
  abbrev dropped₀ : ℕ
  dropped₀ = dropped_rows (first_at cal (moment_of bs)) (first_at cal (moved (moment_of bs) day)) (first_span cal bs day close size run ok next)

  abbrev answer₀ : Totals
  answer₀ = answered cal bs day close size run ok next

  abbrev bytes₀ : List ℕ
  bytes₀ = bytes_of (running (after cal bs day close size run ok next))

  abbrev listed₀ : ℕ → ℕ → List Row
  listed₀ rows dropped = ladders_from (plan_at day (origin_code Live) months held wide new) 0 6 (drop dropped (read_rows rows (drop rows_from bs)))

  pub up_ready : Ready (get_or months 0 0) (plan_at day (origin_code Live) months held wide new)
  unfolding live_months
  up_ready = rw (u.new_are, u.wide_are, u.held_are, u.olds_are, u.months_are, u.spans_are, u.before_is, u.first_is) (session_ready cal bs day close size run ok next)

  up_dropped : dropped_rows before first (get_or spans 0 []) ≡ dropped₀
  unfolding live_months spans_of
  up_dropped = rw (u.spans_are, u.before_is, u.first_is)

  pub up-order : number_of (get_or (get_or spans 0 []) 0 0) ≤ number_of (get_or (get_or spans 0 []) 1 0)
  unfolding live_months spans_of
  up-order = rw u.spans_are (first-order cal bs day close size run ok next)

  module _ {rows dropped : ℕ} (n : rows ≡ at16 bs 4) (d : dropped ≡ dropped_rows before first (get_or spans 0 [])) where
    pub up-within : dropped ≤ rows
    up-within = omega (arith, n, d, up_dropped, dropped_le cal bs day close size run ok next)

    pub up_relisted : {count₁ : ℕ} {out : List ℕ} → count₁ ≡ length (listed₀ rows dropped) → out ≡ quiet_bytes day (listed₀ rows dropped)
        → (rows ≤ count₁ + dropped) × (◌≡◌ {A = Totals} (record { added = count₁ + dropped - rows; removed = dropped; rows = count₁ }) answer₀) × (out ≡ bytes₀)
    up_relisted {count₁} {out} =
        rw (u.new_are, u.wide_are, u.held_are, u.olds_are, u.months_are, n, d, up_dropped, u.spans_are, u.before_is, u.first_is)
        (relisted cal bs day close size run ok next count₁ out)

    pub up-count : {count₁ : ℕ} → count₁ ≡ length (listed₀ rows dropped) → count₁ ≤ most_rows
    up-count c = omega (arith, c, ladders-count (plan_at day (origin_code Live) months held wide new) 0 6 (drop dropped (read_rows rows (drop rows_from bs))), up_ready.room)

  pub up_head : {rows : ℕ} {out : List ℕ} → rows ≡ at16 bs 4 → before ≡ first → held ≡ new → out ≡ head_bytes day rows ++ drop rows_from bs
      → (◌≡◌ {A = Totals} (record { added = 0; removed = 0; rows = rows }) answer₀) × (out ≡ bytes₀)
  up_head {rows} {out} n q =
      rw (n, u.new_are, u.wide_are, u.held_are, u.olds_are, u.months_are, u.spans_are, u.before_is, u.first_is)
      (λ same. head_only cal bs day close size run ok next (sym u.before_is ∙ q ∙ u.first_is) same out)
