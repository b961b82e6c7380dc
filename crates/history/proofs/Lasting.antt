-- What lasts, at the register's bytes: a span never shrinks, and a row once listed keeps first day and origin as long as its month is
-- live. For every calendar, every running register and every list of calls on it, accepted or refused.
-- Assumes nothing.
use mathlib.Core.Path.{◌≡◌, refl, sym, ap, ◌∙◌}
use mathlib.Core.Bool.{true, false, false≢true}
use mathlib.Core.List.{List, [], ◌∷◌}
use mathlib.Core.Option.{Option, none, some}
use Prim.Native.Nat.{ℕ, ◌≤◌}
use native.Mathlib.Omega.{arith}
use lib.Dec.{eqb}
use borrow.Author.Tests.{eqb-true}
use Rattle.base.specs.Lists.{elem, within}
use Rattle.base.proofs.Tests.{by_bool, and_l, and_i}
use Rattle.base.proofs.ListLaws.{within_i, within_l, within_r, elem-select, least_le, greatest_ge, least-of, greatest-of}
use Rattle.calendar.specs.Live.{first_live, live_months}
use Rattle.calendar.proofs.LiveLaws.{live_mono, live-between}
use Rattle.rules.specs.Rules.{Moment, Rules, next}
use Rattle.rules.specs.Rulebook.{first_at, rules, expiry_at}
use Rattle.calls.specs.declared.Call.{Call}
use Rattle.calls.specs.declared.Call.TheVariants.{Start, Session, Announce}
use Rattle.rules.proofs.Laws.{Laws}
use Rattle.rules.proofs.RulebookLaws.{laws}
use Rattle.layout.specs.Rows.{Entry, find, prices_of}
use Rattle.layout.specs.Register.{Body, running, waiting_of, span_low, span_high, listed}
use Rattle.base.specs.Words.{at16}
use Rattle.layout.specs.Bytes.{body_of, moment_of}
use Rattle.layout.proofs.RowLaws.{find-rows_of, is_some, prices-find}
use Rattle.calls.specs.Listing.{close_low, close_high, new_low, new_high, kept, session_body, announce_body, number, accepted}
use Rattle.calls.specs.Answers.{number_at, after_at}
use Rattle.history.specs.History.{History}
use Rattle.history.specs.Claim.{final_at}
use Rattle.history.proofs.Simulation.{Running, key, found, key-grid, key-within, low_there, high_there, span-low, span-high, session-told, no16}
use Rattle.history.proofs.Closing.{last-number}
use Rattle.history.proofs.Accepts.{Runs, run_read}
use Rattle.history.proofs.Written.{Written, written_after, written_body, written_runs, run-written}
use Rattle.calendar.specs.Calendar.{expiry_of}

-- ---- from one register to a later one
pub record Lasts (R : Rules) (before after : Body) : Type 0 where
  pub day : before.at.day ≤ after.at.day
  pub row : (m p : ℕ) (e : Entry) → elem m (R.live after.at) ≡ true → find m p before.rows ≡ some e → find m p after.rows ≡ some e

none_some : (e : Entry) → none ≡ some e → ⊥
none_some e q = let z : ◌≡◌ {A = ℕ} 0 1 = cc in omega arith

-- a price that has a row is one of the month's prices, and the other way
has-row : (o : Option Entry) → is_some o ≡ true → (e : Entry) × (o ≡ some e)
unfolding is_some
has-row none h = absurd (false≢true h)
has-row (some e) h = (e, refl)

module _ (R : Rules) (h : History) (b : Body) (s : Running R h b) where
  -- a row's month is live, its price on the grid and in the span
  key_of : (m p : ℕ) (e : Entry) → find m p b.rows ≡ some e → key R b.at h m p ≡ true
  key_of m p e q =
      by_bool (key R b.at h m p)
      (λ k. k)
      (λ k. absurd (none_some e (sym (rw k at (found R h b s m p)) ∙ q)))

  row-live : (m p : ℕ) (e : Entry) → find m p b.rows ≡ some e → elem m (R.live b.at) ≡ true
  unfolding key
  row-live m p e q = and_l (elem m (R.live b.at)) _ (key_of m p e q)

  row_within : (m p : ℕ) (e : Entry) → find m p b.rows ≡ some e → within (span_low b m) (span_high b m) p ≡ true
  row_within m p e q =
      let l = row-live m p e q in
      rw (span-low R h b s m l, span-high R h b s m l) (key-within R h b s m p (key_of m p e q))

  -- a session
  module _ (L : Laws R) (x : Moment) (c : ℕ) (is-next : x ≡ next R b.at) where
    still-listed : (m p : ℕ) (e : Entry) → elem m (R.live x) ≡ true → find m p b.rows ≡ some e
        → elem p (listed R x (new_low R b x c) (new_high R b x c) m) ≡ true
    unfolding listed new_low new_high close_low close_high
    still-listed m p e l q =
        let k = row-live m p e q in
        let w = row_within m p e q in
        let lo = within_l (span_low b m) (span_high b m) p w in
        let hi = within_r (span_low b m) (span_high b m) p w in
        let u = least_le (close_low R b x c m) (waiting_of m b.waiting) in
        let v = greatest_ge (close_high R b x c m) (waiting_of m b.waiting) in
        let g : elem p (R.grid x m) ≡ true =
        rw is-next (L.finer b.at m p s.good-at k (rw is-next at l) (key-grid R h b s m p (key_of m p e q))) in
        elem-select (within (new_low R b x c m) (new_high R b x c m)) p (R.grid x m)
        ∙ and_i g (within_i (rw k (omega arith)) (rw k (omega arith)))

    session-row : (m p : ℕ) (e : Entry) → elem m (R.live x) ≡ true → find m p b.rows ≡ some e → find m p (session_body R b x c).rows ≡ some e
    unfolding session_body kept
    session-row m p e l q = find-rows_of m p (R.live x) _ _ ∙ rw (l, still-listed m p e l q, q)

  -- a span that keeps its rows does not shrink
  module _ (after : Body) (m : ℕ) (l : elem m (R.live b.at) ≡ true)
      (keep : (p : ℕ) (e : Entry) → find m p b.rows ≡ some e → find m p after.rows ≡ some e) where
    still_there : (p : ℕ) → elem p (prices_of m b.rows) ≡ true → elem p (prices_of m after.rows) ≡ true
    unfolding is_some
    still_there p e =
        let r = has-row (find m p b.rows) (sym (prices-find m p b.rows) ∙ e) in
        prices-find m p after.rows ∙ rw (keep p r.0 r.1)

    wider : (span_low after m ≤ span_low b m) × (span_high b m ≤ span_high after m)
    unfolding span_low span_high
    wider = (
      (least-of (λ p. Unit {0}) (span_low b m) (prices_of m after.rows) (still_there (span_low b m) (rw (span-low R h b s m l) (low_there R h b s m l))) (λ p q. tt)).1,
      (greatest-of (λ p. Unit {0}) (span_high b m) (prices_of m after.rows) (still_there (span_high b m) (rw (span-high R h b s m l) (high_there R h b s m l))) (λ p q. tt)).1,
    )

-- ---- one call
stays : (R : Rules) (b : Body) → Lasts R b b
stays R b = record { day = omega arith; row = λ m p e l q. q }

module _ (cal : List ℕ) where
  abbrev R : Rules
  R = rules cal

  abbrev L : Laws R
  L = laws cal

  accepted_lasts : (h : History) (b : Body) → Running R h b → (k : Call) → number R k (running b) ≡ 0 → (after : Body) × (accepted R k (running b) ≡ running after) × Lasts R b after
  unfolding number accepted announce_body session_body
  accepted_lasts h b s (Start d c) n = absurd (no16 n)
  accepted_lasts h b s (Session d c) n =
      let t = session-told R b d c n in
      let day = L.move-day b.at d in
      let later = L.later b.at in
      (session_body R b (R.move b.at d) c, refl, record { day = omega arith; row = session-row R h b s L (R.move b.at d) c (ap (R.move b.at) t.0) })
  accepted_lasts h b s (Announce m p) n = (announce_body b m p, refl, record { day = omega arith; row = λ m p e l q. q })

  module _ (bs : List ℕ) (run : Runs cal bs) (k : Call) where
    taken : number_at R k bs ≡ 0 → Runs cal (after_at R k bs) × Lasts R (body_of bs) (body_of (after_at R k bs))
    taken z =
        let w = run-written cal bs run in
        let n : number R k (running (body_of bs)) ≡ 0 = rw (run_read cal bs run) at (last-number R L k bs z) in
        let a = accepted_lasts w.history (body_of bs) w.agree k n in
        let v : Written cal (after_at R k bs) (running a.0) = rw a.1 at (written_after cal bs (running (body_of bs)) w k z) in
        (written_runs cal (after_at R k bs) a.0 v, rw (written_body cal (after_at R k bs) a.0 v) a.2)

    refused : eqb (number_at R k bs) 0 ≡ false → after_at R k bs ≡ bs
    unfolding after_at
    refused e = rw e

    one_call : Runs cal (after_at R k bs) × Lasts R (body_of bs) (body_of (after_at R k bs))
    one_call = by_bool (eqb (number_at R k bs) 0) (λ e. taken (eqb-true (number_at R k bs) 0 e)) (λ e. rw (refused e) (run, stays R (body_of bs)))

lasts_on : (cal : List ℕ) (a b c : Body) → ((m p : ℕ) (e : Entry) → find m p a.rows ≡ some e → elem m ((rules cal).live a.at) ≡ true)
    → Lasts (rules cal) a b → Lasts (rules cal) b c → Lasts (rules cal) a c
unfolding rules first_at expiry_at
lasts_on cal a b c lived x y = record {
  day = let u = x.day in let v = y.day in omega arith;
  row = λ m p e l q.
      let mid = live-between (first_live (expiry_of cal) a.at.day) (first_live (expiry_of cal) b.at.day) (first_live (expiry_of cal) c.at.day) m
      (live_mono (expiry_of cal) a.at.day b.at.day x.day) (live_mono (expiry_of cal) b.at.day c.at.day y.day) (lived m p e q) l in
      y.row m p e l (x.row m p e mid q);
}

-- ---- a list of calls
lasting : (cal bs : List ℕ) → Runs cal bs → (calls : List Call)
    → Runs cal (final_at (rules cal) calls bs) × Lasts (rules cal) (body_of bs) (body_of (final_at (rules cal) calls bs))
unfolding final_at
lasting cal bs run [] = (run, stays (rules cal) (body_of bs))
lasting cal bs run (k ∷ ks) =
    let one = one_call cal bs run k in
    let more = lasting cal (after_at (rules cal) k bs) one.0 ks in
    (more.0, lasts_on cal (body_of bs) (body_of (after_at (rules cal) k bs)) (body_of (final_at (rules cal) ks (after_at (rules cal) k bs))) (row-live (rules cal) _ (body_of bs) (run-written cal bs run).agree) one.1 more.1)

-- a month is live on the day that bytes 2–3 hold
abbrev pub LiveIn : List ℕ → List ℕ → ℕ → Type 0
LiveIn cal bs m = elem m (live_months (first_live (expiry_of cal) (at16 bs 2))) ≡ true

module _ (cal bs : List ℕ) (run : Runs cal bs) (calls : List Call) (m : ℕ) where
  abbrev after : List ℕ
  after = final_at (rules cal) calls bs

  -- a row once listed keeps first day and origin as long as its month is live
  pub row_lasts : LiveIn cal after m → (p : ℕ) (e : Entry) → find m p (body_of bs).rows ≡ some e → find m p (body_of after).rows ≡ some e
  unfolding rules first_at expiry_at body_of moment_of
  row_lasts l p e q = (lasting cal bs run calls).1.row m p e l q

  -- a span never shrinks: the lowest price of the month's rows does not rise and the highest does not fall, as long as it is live
  pub span_lasts : LiveIn cal bs m → LiveIn cal after m
      → (span_low (body_of after) m ≤ span_low (body_of bs) m) × (span_high (body_of bs) m ≤ span_high (body_of after) m)
  unfolding rules first_at expiry_at body_of moment_of
  span_lasts k l = wider (rules cal) _ (body_of bs) (run-written cal bs run).agree (body_of after) m k (row_lasts l)

  -- and the register runs on, well formed
  pub runs_on : Runs cal after
  runs_on = (lasting cal bs run calls).0
