-- The rows of a month: where they stand in a register that holds six ladders, and what the rows call says.
-- Assumes nothing.
use mathlib.Core.Path.{◌≡◌, refl, sym, ap, ◌∙◌}
use mathlib.Core.Bool.{true, false, cond, not, false≢true}
use mathlib.Core.List.{List, [], ◌∷◌, ◌++◌, append-nil, append_assoc}
use Prim.Native.Nat.{ℕ, zero, suc, ◌+◌, ◌-◌, ◌*◌, ◌/◌, ◌≤◌, ◌<◌}
use native.Mathlib.Nat.{add-zero}
use native.Mathlib.Numerals.{add-one}
use native.Mathlib.Omega.{arith}
use lib.Dec.{eqb, ltb}
use lib.ListN.{length, get_or, take, drop, replicate, length-append, length-drop, length-replicate}
use lib.Seq.{take_at, drop_at, drop-drop, drop-cons, get_or-drop}
use borrow.Author.Tests.{eqb-true, eq-eqb, ne_eqb, lt-ltb, le-ltb, not-false}
use Rattle.base.specs.Lists.{elem}
use Rattle.std.specs.Prelude.{Result, Ok, Err}
use Rattle.base.specs.Causes.{cause}
use Rattle.base.specs.Numbers.{number_of as number_of_cause, number_in}
use Rattle.base.specs.declared.causes.Cause.{Cause}
use Rattle.base.specs.declared.causes.Cause.TheVariants.{RowsMonth}
use Rattle.base.proofs.NumberLaws.{number-from}
use Rattle.base.proofs.Tests.{by_bool, or_e, or_fl, or_fr}
use Rattle.base.proofs.CauseLaws.{not-cause, alone}
use Rattle.base.proofs.ListLaws.{elem-here, elem_there}
use Rattle.base.proofs.Rising.{rises, rises_head, rises_tail, rises-all, rises_all}
use Rattle.calendar.specs.Live.{live_months, tier_of}
use Rattle.grid.specs.Numbers.{number_of, stride}
use Rattle.grid.proofs.Prices.{number-price}
use Rattle.grid.proofs.Grids.{prices-length}
use Rattle.rules.specs.Rulebook.{rules, first_at}
use Rattle.rules.proofs.RulebookLaws.{live_rises}
use Rattle.layout.specs.Rows.{Entry, Row, row, ladder, rows_of}
use Rattle.layout.specs.Register.{Body, running, span_low, span_high}
use Rattle.layout.specs.Bytes.{register_length, rows_bytes, moment_of, body_of, all_zero, reg_of, rows_from, rows_length}
use Rattle.calls.specs.RowsCall.{month_rows, earlier_rows, rows_cause, rows_number, rows_part, rows_place}
use Rattle.layout.specs.Spans.{spans_of}
use Rattle.rows.specs.Places.{ladder_size, no_rows, month_place}
use Rattle.layout.proofs.ByteLaws.{rows-length, rows_append}
use Rattle.layout.proofs.Held.{ladder_of, Held}
use Rattle.grid.proofs.Runs.{run_is}
use Rattle.scan.proofs.Found.{SpanHeld, spanned}
use Rattle.layout.proofs.Running.{Running, runs}
use Rattle.register.proofs.Well.{run-held, rows_behind}
use Rattle.layout.specs.Opening.{Refused, Reads}
use Rattle.layout.proofs.OpeningLaws.{none-opened, reads_own, refused_own, stands_else}
use Rattle.calls.specs.Results.{place_of}
use Rattle.calls.specs.declared.Part.{Part}
use Rattle.calls.specs.declared.Place.{Place}
use Rattle.layout.proofs.RowLaws.{ladder-length}

-- ---- the loop over the months, from the i-th on
-- the size of the i-th month's rows in bytes
abbrev pub size_at : ℕ → List ℕ → List (List ℕ) → ℕ → ℕ
size_at f ms spans i = 8 * ladder_size (tier_of f (get_or ms i 0)) (get_or (get_or spans i []) 0 0) (get_or (get_or spans i []) 1 0)

module _ (f m at : ℕ) (ms : List ℕ) (spans : List (List ℕ)) (i : ℕ) (h : i < length ms) where
  pub rows-here : m ≡ get_or ms i 0 → month_place f m at (drop i ms) (drop i spans) ≡ record { number = 0; at = at; size = size_at f ms spans i }
  unfolding month_place
  rows-here e = rw (drop-cons ms i 0 h, get_or-drop i spans 0 [], add-zero i, eq-eqb m (get_or ms i 0) e)

  pub rows_next : (m ≡ get_or ms i 0 → ⊥)
      → month_place f m at (drop i ms) (drop i spans) ≡ month_place f m (at + size_at f ms spans i) (drop (i + 1) ms) (drop (i + 1) spans)
  unfolding month_place
  rows_next e = rw (drop-cons ms i 0 h, get_or-drop i spans 0 [], add-zero i, ne_eqb m (get_or ms i 0) e, drop-drop 1 i spans, add-one i)

-- a month's rows among ladders are its own ladder, and the rows before them are the ladders of the months before
month-ladder : (m n : ℕ) (g : ℕ → Entry) (ps : List ℕ) (rest : List Row) → month_rows m (ladder n g ps ++ rest) ≡ cond (eqb n m) (ladder n g ps) [] ++ month_rows m rest
unfolding month_rows ladder
month-ladder m n g [] rest = by_bool (eqb n m) (λ e. rw e) (λ e. rw e)
month-ladder m n g (p ∷ ps) rest =
    by_bool (eqb n m)
    (λ e. rw e (ap (λ (xs : List Row). row n p (g p) ∷ xs) (month-ladder m n g ps rest ∙ rw e)))
    (λ e. rw e (month-ladder m n g ps rest ∙ rw e))

earlier-ladder : (m n : ℕ) (g : ℕ → Entry) (ps : List ℕ) (rest : List Row) → earlier_rows m (ladder n g ps ++ rest) ≡ cond (ltb n m) (ladder n g ps) [] ++ earlier_rows m rest
unfolding earlier_rows ladder
earlier-ladder m n g [] rest = by_bool (ltb n m) (λ e. rw e) (λ e. rw e)
earlier-ladder m n g (p ∷ ps) rest =
    by_bool (ltb n m)
    (λ e. rw e (ap (λ (xs : List Row). row n p (g p) ∷ xs) (earlier-ladder m n g ps rest ∙ rw e)))
    (λ e. rw e (earlier-ladder m n g ps rest ∙ rw e))

rest_rises : (k : ℕ) (ms : List ℕ) → rises k ms ≡ true → rises_all ms ≡ true
unfolding rises_all
rest_rises k [] h = refl
rest_rises k (m ∷ ms) h = rises_tail k m ms h

-- ---- the rows of a month among the ladders of months that ascend
module _ (m : ℕ) (G : ℕ → List ℕ) (entry : ℕ → ℕ → Entry) where
  -- later months have no row of it, and none before it
  later : (k : ℕ) (ms : List ℕ) → rises k ms ≡ true → m ≤ k → (month_rows m (rows_of ms G entry) ≡ []) × (earlier_rows m (rows_of ms G entry) ≡ [])
  unfolding rows_of month_rows earlier_rows
  later k [] h l = (refl, refl)
  later k (n ∷ ns) h l =
      let a = rises_head k n ns h in
      let r = later n ns (rises_tail k n ns h) (omega arith) in
      let rest : List Row = rows_of ns G entry in (
        month-ladder m n (entry n) (G n) rest ∙ rw (ne_eqb n m (λ q. omega arith)) r.0,
        earlier-ladder m n (entry n) (G n) rest ∙ rw (le-ltb n m (omega arith)) r.1,
      )

  module _ (n : ℕ) (ns : List ℕ) (h : rises n ns ≡ true) where
    -- the first ladder is its own
    first_own : m ≡ n → (month_rows m (rows_of (n ∷ ns) G entry) ≡ ladder n (entry n) (G n)) × (earlier_rows m (rows_of (n ∷ ns) G entry) ≡ [])
    unfolding rows_of
    first_own e =
        let r = later n ns h (omega arith) in
        let rest : List Row = rows_of ns G entry in (
          month-ladder m n (entry n) (G n) rest ∙ rw (eq-eqb n m (sym e), r.0, append-nil),
          earlier-ladder m n (entry n) (G n) rest ∙ rw (le-ltb n m (omega arith), r.1),
        )

    -- the first ladder is that of a month before it
    first-before : elem m ns ≡ true → let rest = rows_of ns G entry in
        (month_rows m (rows_of (n ∷ ns) G entry) ≡ month_rows m rest) × (earlier_rows m (rows_of (n ∷ ns) G entry) ≡ ladder n (entry n) (G n) ++ earlier_rows m rest)
    unfolding rows_of
    first-before e =
        let l = rises-all n m ns h e in
        let rest : List Row = rows_of ns G entry in (
          month-ladder m n (entry n) (G n) rest ∙ rw (ne_eqb n m (λ q. omega arith)),
          earlier-ladder m n (entry n) (G n) rest ∙ rw (lt-ltb n m l),
        )

  -- the rows are those before it, then its own, then others
  stretch : (ms : List ℕ) → rises_all ms ≡ true → elem m ms ≡ true →
      let rs = rows_of ms G entry in
      (more : List Row) × (rs ≡ earlier_rows m rs ++ (month_rows m rs ++ more))
  unfolding rises_all elem rows_of
  stretch [] h e = absurd (false≢true e)
  stretch (n ∷ ns) h e =
      or_e (eqb m n) (elem m ns) e
      (λ t. let w = first_own n ns h (eqb-true m n t) in (rows_of ns G entry, rw (w.0, w.1)))
      (λ t.
      let w = first-before n ns h t in
      let r = stretch ns (rest_rises n ns h) t in
      (r.0, rw (w.0, w.1, append_assoc (ladder n (entry n) (G n))) (ap (λ (rs : List Row). ladder n (entry n) (G n) ++ rs) r.1)))

-- ---- the place of a month's rows, where the ladders of months that ascend stand from a byte on
module _ (f m : ℕ) (b : Body) (low high : ℕ → ℕ) (entry : ℕ → ℕ → Entry) where
  size_is : (n : ℕ) → SpanHeld f b low high n → ladder_size (tier_of f n) (span_low b n) (span_high b n) ≡ length (ladder n (entry n) (ladder_of f low high n))
  unfolding ladder_size
  size_is n w =
      let lo = number-price (low n) w.low-on.from w.low-on.to in
      let hi = number-price (high n) w.high-on.from w.high-on.to in
      let run = run_is (tier_of f n) (low n) (high n) w.low-on w.high-on w.order in
      let k = ladder-length n (entry n) (ladder_of f low high n) in
      let p = ap length run ∙ prices-length (stride (tier_of f n)) (low n) (suc ((high n - low n) / stride (tier_of f n))) in
      rw (w.span-low, w.span-high, lo, hi) (omega arith)

  placed : (ms : List ℕ) (at : ℕ) → ((n : ℕ) → elem n ms ≡ true → SpanHeld f b low high n) → rises_all ms ≡ true → elem m ms ≡ true →
      let rs = rows_of ms (ladder_of f low high) entry in
      month_place f m at ms (spans_of b ms) ≡ record { number = 0; at = at + 8 * length (earlier_rows m rs); size = 8 * length (month_rows m rs) }
  unfolding month_place spans_of elem rises_all
  placed [] at h a e = absurd (false≢true e)
  placed (n ∷ ns) at h a e =
      let G : ℕ → List ℕ = ladder_of f low high in
      let L : List Row = ladder n (entry n) (G n) in
      let s = size_is n (h n (elem-here n ns)) in
      by_bool (eqb m n)
      (λ q. let w = first_own m G entry n ns a (eqb-true m n q) in rw (q, s, w.0, w.1, add-zero))
      (λ q.
      let t : elem m ns ≡ true = rw q at e in
      let w = first-before m G entry n ns a t in
      let E : List Row = earlier_rows m (rows_of ns G entry) in
      let behind : at + 8 * length L + 8 * length E ≡ at + 8 * length (L ++ E) = omega (arith, length-append L E) in
      rw (q, s, w.0, w.1, ← behind) (placed ns (at + 8 * length L) (λ k j. h k (elem_there k n ns j)) (rest_rises n ns a) t))

not_placed : (f m : ℕ) (b : Body) (ms : List ℕ) (at : ℕ) → elem m ms ≡ false → month_place f m at ms (spans_of b ms) ≡ no_rows 26
unfolding month_place spans_of elem
not_placed f m b [] at e = refl
not_placed f m b (n ∷ ns) at e = rw (or_fl (eqb m n) (elem m ns) e) (not_placed f m b ns _ (or_fr (eqb m n) (elem m ns) e))

-- each span's numbers ascend
each-order : (f : ℕ) (b : Body) (low high : ℕ → ℕ) (ms : List ℕ) → ((n : ℕ) → elem n ms ≡ true → SpanHeld f b low high n)
    → (i : ℕ) → i < length ms → number_of (get_or (get_or (spans_of b ms) i []) 0 0) ≤ number_of (get_or (get_or (spans_of b ms) i []) 1 0)
unfolding spans_of
each-order f b low high [] h i l = absurd (omega arith)
each-order f b low high (n ∷ ns) h zero l =
    let w = h n (elem-here n ns) in
    let lo = number-price (low n) w.low-on.from w.low-on.to in
    let hi = number-price (high n) w.high-on.from w.high-on.to in
    rw (w.span-low, w.span-high, lo, hi) w.order
each-order f b low high (n ∷ ns) h (suc i) l = each-order f b low high ns (λ k e. h k (elem_there k n ns e)) i (omega arith)

pub spans-order : (f : ℕ) (b : Body) → Held f b.rows → (i : ℕ) → i < 6
    → let spans = spans_of b (live_months f) in number_of (get_or (get_or spans i []) 0 0) ≤ number_of (get_or (get_or spans i []) 1 0)
unfolding live_months
spans-order f b h i l = each-order f b h.low h.high (live_months f) (spanned f b h) i l

-- ---- the rows call
module _ (cal bs : List ℕ) (m : ℕ) where
  pub rows-refused : {why : Cause} → Refused cal bs (rows_cause (rules cal) m (reg_of bs)) why → place_of (Err why) ≡ rows_place (rules cal) bs m
  unfolding rows_place rows_number
  rows-refused {why} x = rw (x.says, ne_eqb (number_of_cause why) 0 (λ z. omega (arith, number-from why, z)))

  own_is : rows_cause (rules cal) m (running (body_of bs)) ≡ cause (not (elem m (live_months (first_at cal (moment_of bs))))) 26
  unfolding rows_cause rules body_of
  own_is = alone (cause (not (elem m (live_months (first_at cal (moment_of bs))))) 26)

  pub rows_placed : Reads cal bs (running (body_of bs)) → Running cal bs →
      let f = first_at cal (moment_of bs) in month_place f m rows_from (live_months f) (spans_of (body_of bs) (live_months f)) ≡ rows_place (rules cal) bs m
  unfolding rows_place rows_number cause
  rows_placed x r =
      let f : ℕ = first_at cal (moment_of bs) in
      let b : Body = body_of bs in
      let h = run-held cal bs x.size r in
      let own = rows_cause (rules cal) m in
      by_bool (elem m (live_months f))
      (λ e.
      let z : rows_number (rules cal) bs m ≡ 0 = reads_own cal bs (running b) x own ∙ own_is ∙ rw e in
      placed f m b h.low h.high h.entry (live_months f) rows_from (spanned f b h) (live_rises f) e ∙ rw (z, ← h.rows_are))
      (λ e. not_placed f m b (live_months f) rows_from e ∙ rows-refused (refused_own cal bs (running b) x own RowsMonth (sym (own_is ∙ rw e)) (λ z. omega arith)))

  -- ---- what lies at that place

  -- where the number is 0 the register runs and the month is live
  accepted : rows_number (rules cal) bs m ≡ 0 → (length bs ≡ register_length) × Running cal bs × (elem m (live_months (first_at cal (moment_of bs))) ≡ true)
  unfolding rows_number rows_cause reg_of
  accepted h =
      let k = none-opened (rules cal) bs (rows_cause (rules cal) m (reg_of bs)) h in
      by_bool (all_zero bs)
      (λ t. let z : ◌≡◌ {A = ℕ} 17 0 = rw t at k.3 in absurd (omega arith))
      (λ t.
      let z : rows_cause (rules cal) m (running (body_of bs)) ≡ 0 = rw t at k.3 in
      (k.1, runs cal bs (sym (stands_else cal bs t) ∙ k.2), not-false _ (not-cause (not (elem m (live_months (first_at cal (moment_of bs))))) 25 (sym own_is ∙ z))))

  -- behind the rows of the months before stand the month's rows, and they end inside the register
  record There : Type 0 where
    rest : List ℕ
    bytes_are : let rs = (body_of bs).rows in drop (rows_from + 8 * length (earlier_rows m rs)) bs ≡ rows_bytes (month_rows m rs) ++ rest
    inside : let rs = (body_of bs).rows in rows_from + 8 * length (earlier_rows m rs) + 8 * length (month_rows m rs) ≤ length bs

  there : rows_number (rules cal) bs m ≡ 0 → There
  there z =
      let k = accepted z in
      let f : ℕ = first_at cal (moment_of bs) in
      let h = run-held cal bs k.0 k.1 in
      let rs : List Row = (body_of bs).rows in
      let zeros : List ℕ = replicate (rows_length - length (rows_bytes rs)) 0 in
      let t : (more : List Row) × (rs ≡ earlier_rows m rs ++ (month_rows m rs ++ more)) = rw h.rows_are (stretch m (ladder_of f h.low h.high) h.entry (live_months f) (live_rises f) k.2) in
      let E : List Row = earlier_rows m rs in
      let M : List Row = month_rows m rs in
      let d : drop rows_from bs ≡ rows_bytes rs ++ zeros = rows_behind cal bs k.0 k.1 in
      let e : rows_bytes rs ≡ rows_bytes E ++ (rows_bytes M ++ rows_bytes t.0) = ap rows_bytes t.1 ∙ rows_append E (M ++ t.0) ∙ ap (λ (xs : List ℕ). rows_bytes E ++ xs) (rows_append M t.0) in
      record {
        rest = rows_bytes t.0 ++ zeros;
        bytes_are = sym (drop-drop (8 * length E) rows_from bs) ∙ rw (d, e, append_assoc (rows_bytes E), append_assoc (rows_bytes M)) (drop_at (rows_bytes E) _ _ (rows-length E));
        inside = omega (arith, simp (length-drop, length-append, length-replicate) at (ap length d), rows-length rs, simp length-append at (ap length t.1));
      }

  -- the bytes at the place of the rows call are its part, for every register
  pub place_part : let p = rows_place (rules cal) bs m in take p.size (drop p.at bs) ≡ rows_part (rules cal) bs m
  unfolding rows_place rows_part
  place_part =
      by_bool (eqb (rows_number (rules cal) bs m) 0)
      (λ z. let t = there (eqb-true _ _ z) in rw (z, t.bytes_are) (take_at (rows_bytes (month_rows m (body_of bs).rows)) t.rest _ (rows-length (month_rows m (body_of bs).rows))))
      (λ z. rw z)

  -- and they lie inside it
  pub place_inside : let p = rows_place (rules cal) bs m in p.at + p.size ≤ length bs
  unfolding rows_place
  place_inside =
      by_bool (eqb (rows_number (rules cal) bs m) 0)
      (λ z. rw z (there (eqb-true _ _ z)).inside)
      (λ z. rw z (omega arith))

  -- ---- the same of a result
  module _ (part : Part) (e : place_of (Ok part) ≡ rows_place (rules cal) bs m) where
    pub part-inside : part.at + part.size ≤ length bs
    part-inside = rw (← e) at place_inside

    pub part_is : take part.size (drop part.at bs) ≡ rows_part (rules cal) bs m
    part_is = rw (← e) at place_part

  module _ (why : Cause) (e : place_of (Err why) ≡ rows_place (rules cal) bs m) where
    pub part_none : [] ≡ rows_part (rules cal) bs m
    part_none = rw (← e) at place_part

  pub number-placed : (r : Result Part Cause) → place_of r ≡ rows_place (rules cal) bs m → number_in r ≡ rows_number (rules cal) bs m
  unfolding rows_place
  number-placed (Ok part) e = ap (λ (p : Place). p.number) e
  number-placed (Err why) e = ap (λ (p : Place). p.number) e
