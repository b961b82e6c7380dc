-- Lines 9 to 11: a month's ladder after a start, and after a session behind it, depends on the calendar by the month's tiers alone.
-- Assumes nothing.
use mathlib.Core.Path.{◌≡◌, refl, sym, ap, subst, ◌∙◌}
use mathlib.Core.Bool.{Bool, true, false, cond, not, ◌&&◌, ◌||◌}
use mathlib.Core.List.{List, [], ◌∷◌, ◌++◌, map, append-nil, append_assoc}
use mathlib.Core.Option.{some, none}
use Prim.Native.Nat.{ℕ, min, max, ◌≤◌, ◌<◌}
use native.Mathlib.Omega.{arith}
use lib.Dec.{eqb, ltb}
use lib.ListN.{length, length-append}
use borrow.Author.Tests.{eq-eqb, ltb-true, le-ltb, le-leb, lt-leb, not-true}
use Rattle.base.specs.Lists.{elem, select, within, least, greatest, least_of, greatest_of}
use Rattle.base.specs.Causes.{cause, first_cause}
use Rattle.base.specs.declared.Tier.{Tier}
use Rattle.base.proofs.Tests.{by_bool, by_le, and_l, and_r, and_i, eqb_self}
use Rattle.calendar.specs.Calendar.{Passes, expiry_of, next_session}
use Rattle.calendar.specs.Live.{first_live, live_months}
use Rattle.calendar.proofs.CalendarLaws.{next_later}
use Rattle.calendar.proofs.LiveLaws.{calendar-dated, dates-ascend, live-unexpired}
use Rattle.grid.specs.Grid.{grid_of, required_low, required_high, close_taken}
use Rattle.rules.specs.Rules.{Rules, Moment}
use Rattle.rules.specs.Rulebook as Rulebook
use Rattle.rules.specs.Rulebook.{first_at, tier_at, rules, expiry_at}
use Rattle.calls.specs.declared.Call.{Call}
use Rattle.calls.specs.declared.Call.TheVariants.{Start, Session, Announce}
use Rattle.rules.proofs.RulebookLaws.{laws}
use Rattle.layout.specs.Rows.{new_entry, Row, find, prices_of}
use Rattle.layout.specs.Register.{most_waiting, Body, running, waiting_of, span_low, span_high, listed, announce_causes}
use Rattle.layout.specs.Bytes.{all_zero}
use Rattle.layout.proofs.RowLaws.{find-rows_of}
use Rattle.layout.proofs.Held.{live_apart}
use Rattle.calls.specs.Listing.{kept, close_low, close_high, new_low, new_high, new_origin, start_body, session_body, announce_body, number, accepted}
use Rattle.calls.specs.Answers.{number_at, after_at}
use Rattle.history.specs.Claim.{empty_register, final_at, numbers_at}
use Rattle.history.proofs.Written.{Written, written-number, written_after, written_body}
use Rattle.calendar.proofs.LiveLaws.{live_e}
use Rattle.worked.specs.Worked.{rows_read, of_origin, Reach, Reaches, LiveAs, relists, Holds}
use Rattle.worked.proofs.Months.{month_prices, origin-rows}
use Rattle.worked.proofs.Starts.{start_prices, begun, start-prices, start-taken, start-written}

-- ---- the ladder by tiers
module _ (t u : Tier) (c d : ℕ) where
  -- the span of the session before, widened by the close alone
  unfoldable pub low : ℕ
  low = min (least (start_prices c t)) (required_low u d)

  unfoldable pub high : ℕ
  high = max (greatest (start_prices c t)) (required_high u d)

  unfoldable pub prices : List ℕ → List ℕ
  prices ps = select (within (least_of low ps) (greatest_of high ps)) (grid_of u)

  unfoldable pub origin : ℕ → ℕ
  origin p =
      cond (elem p (start_prices c t)) 5
      (cond (within (least (start_prices c t)) (greatest (start_prices c t)) p) 2
      (cond (within low high p) 3 4))

-- prices that can be announced for the month, behind others that wait for it
module _ (t u : Tier) (c : ℕ) where
  unfoldable pub announceable : List ℕ → List ℕ → Bool
  announceable past [] = true
  announceable past (p ∷ ps) =
      elem p (grid_of u)
      && (not (within (least (start_prices c t)) (greatest (start_prices c t)) p || elem p past)
      && (ltb (length past) most_waiting && announceable (past ++ (p ∷ [])) ps))

-- the register after a start, where some prices wait
abbrev body : List ℕ → ℕ → ℕ → List (ℕ × ℕ) → Body
body cal day c waiting = record { at = (rules cal).begin day; waiting = waiting; rows = begun cal day c }

module _ (cal : List ℕ) (day c m : ℕ) (t : Tier) (live : LiveAs cal day m t) where
  abbrev R : Rules
  R = rules cal

  start-find : (p : ℕ) → find m p (begun cal day c) ≡ cond (elem p (start_prices c t)) (some (new_entry day 5)) none
  unfolding LiveAs start_body rules Rulebook.begun Rulebook.moved first_at expiry_at tier_at listed
  start-find p = find-rows_of m p (live_months (first_live (expiry_of cal) day)) _ (λ m p. new_entry day 5) ∙ rw (live.0, live.1)

  -- a session on another day, where some prices wait for the month
  module _ (waiting : List (ℕ × ℕ)) (ps : List ℕ) (wait : waiting_of m waiting ≡ ps) (later d : ℕ) (u : Tier) (still : LiveAs cal later m u) where
    abbrev b : Body
    b = body cal day c waiting

    abbrev y : Moment
    y = R.move b.at later

    close-low : close_low R b y d m ≡ low t u c d
    unfolding LiveAs close_low span_low rules Rulebook.begun Rulebook.moved first_at expiry_at tier_at low
    close-low = rw (start-prices cal day c m t live, still.1)

    close-high : close_high R b y d m ≡ high t u c d
    unfolding LiveAs close_high span_high rules Rulebook.begun Rulebook.moved first_at expiry_at tier_at high
    close-high = rw (start-prices cal day c m t live, still.1)

    new_prices : listed R y (new_low R b y d) (new_high R b y d) m ≡ prices t u c d ps
    unfolding LiveAs listed new_low new_high rules Rulebook.begun Rulebook.moved first_at expiry_at tier_at prices
    new_prices = rw (live.0, close-low, close-high, wait, still.1)

    new-origin : (p : ℕ) → (kept (find m p (begun cal day c)) (new_entry later (new_origin R b y d m p))).origin ≡ origin t u c d p
    unfolding LiveAs new_origin span_low span_high rules Rulebook.begun Rulebook.moved first_at expiry_at kept origin
    new-origin p =
        by_bool (elem p (start_prices c t))
        (λ e. rw (start-find p, e))
        (λ e. rw (start-find p, e, live.0, start-prices cal day c m t live, close-low, close-high))

    abbrev relisted : List Row
    relisted = (session_body R b y d).rows

    pub session_prices : prices_of m relisted ≡ prices t u c d ps
    unfolding LiveAs session_body rules Rulebook.begun Rulebook.moved first_at expiry_at
    session_prices = month_prices m _ _ (live_months (first_live (expiry_of cal) later)) (live_apart (first_live (expiry_of cal) later)) still.0 ∙ new_prices

    pub session-origin : (o : ℕ) → prices_of m (of_origin o relisted) ≡ select (λ p. eqb (origin t u c d p) o) (prices t u c d ps)
    unfolding LiveAs session_body rules Rulebook.begun Rulebook.moved first_at expiry_at
    session-origin o =
        ap (prices_of m) (origin-rows o (live_months (first_live (expiry_of cal) later)) _ _)
        ∙ month_prices m _ _ (live_months (first_live (expiry_of cal) later)) (live_apart (first_live (expiry_of cal) later)) still.0
        ∙ simp (new_prices, new-origin)

-- ---- the announcements, where the calendar passes and the next session can be
module _ (cal : List ℕ) (passes : Passes cal) (day c m : ℕ) (t u : Tier) (live : LiveAs cal day m t)
    (first : first_live (expiry_of cal) (next_session cal day) ≤ 1190) (still : LiveAs cal (next_session cal day) m u) where
  abbrev later : ℕ
  later = next_session cal day

  -- a month that is live at the next session has not expired
  unexpired : day < expiry_of cal m
  unfolding LiveAs rules Rulebook.begun Rulebook.moved first_at expiry_at
  unexpired =
      let g : ℕ = first_live (expiry_of cal) later in
      let a = (live_e g m still.0).0 in
      let b = (laws cal).live_in ((rules cal).begin later) m (le-leb g 1190 first) still.0 in
      let x = live-unexpired (expiry_of cal) later (omega arith) in
      let n = next_later cal day in
      by_le m g
      (λ l. let e : m ≡ g = omega arith in rw e (omega arith))
      (λ l. let y = dates-ascend (expiry_of cal) (calendar-dated cal passes) g m l (omega arith) in omega arith)

  announce-number : (p : ℕ) (past : List ℕ) (ws : List (ℕ × ℕ)) → waiting_of m ws ≡ past → length ws ≡ length past → (ps : List ℕ)
      → announceable t u c past (p ∷ ps) ≡ true → number (rules cal) (Announce m p) (running (body cal day c ws)) ≡ 0
  unfolding LiveAs announceable number announce_causes span_low span_high rules Rulebook.begun Rulebook.moved first_at expiry_at tier_at cause first_cause
  announce-number p past ws wait size ps h =
      let on : elem p (grid_of u) ≡ true = and_l (elem p (grid_of u)) _ h in
      let h₁ = and_r (elem p (grid_of u)) _ h in
      let out : (within (least (start_prices c t)) (greatest (start_prices c t)) p || elem p past) ≡ false =
      not-true _ (and_l (not (within (least (start_prices c t)) (greatest (start_prices c t)) p || elem p past)) _ h₁) in
      let h₂ = and_r (not (within (least (start_prices c t)) (greatest (start_prices c t)) p || elem p past)) _ h₁ in
      let room = ltb-true (length past) most_waiting (and_l (ltb (length past) most_waiting) _ h₂) in
      rw (
        le-ltb 1190 (first_live (expiry_of cal) later) first,
        live.0,
        lt-leb (expiry_of cal m) day unexpired,
        still.1,
        on,
        start-prices cal day c m t live,
        wait,
        out,
        size,
        lt-leb most_waiting (length past) room,
      )

  waiting-more : (p : ℕ) (ws : List (ℕ × ℕ)) → waiting_of m (ws ++ ((m, p) ∷ [])) ≡ waiting_of m ws ++ (p ∷ [])
  unfolding waiting_of
  waiting-more p [] = rw (eqb_self m)
  waiting-more p (w ∷ ws) =
      by_bool (eqb m w.0) (λ e. rw e (ap (λ (l : List ℕ). w.1 ∷ l) (waiting-more p ws))) (λ e. rw e (waiting-more p ws))

  -- each is accepted, and they wait
  announced : (ps past : List ℕ) (ws : List (ℕ × ℕ)) (bs : List ℕ) → waiting_of m ws ≡ past → length ws ≡ length past
      → Written cal bs (running (body cal day c ws)) → announceable t u c past ps ≡ true
      → (all_zero (numbers_at (rules cal) (map (Announce m) ps) bs) ≡ true)
      × (more : List (ℕ × ℕ)) × (waiting_of m more ≡ past ++ ps) × Written cal (final_at (rules cal) (map (Announce m) ps) bs) (running (body cal day c more))
  unfolding final_at numbers_at all_zero accepted announce_body announceable
  announced [] past ws bs wait size w h = (refl, ws, rw append-nil wait, w)
  announced (p ∷ ps) past ws bs wait size w h =
      let n = written-number cal bs (running (body cal day c ws)) w passes (Announce m p) ∙ announce-number p past ws wait size ps h in
      let h₁ = and_r (elem p (grid_of u)) _ h in
      let h₂ = and_r (not (within (least (start_prices c t)) (greatest (start_prices c t)) p || elem p past)) _ h₁ in
      let h₃ = and_r (ltb (length past) most_waiting) _ h₂ in
      let i = announced ps (past ++ (p ∷ [])) (ws ++ ((m, p) ∷ [])) (after_at (rules cal) (Announce m p) bs)
      (waiting-more p ws ∙ rw wait)
      (simp (length-append, size))
      (written_after cal bs (running (body cal day c ws)) w (Announce m p) n)
      h₃ in
      (and_i (eq-eqb _ 0 n) i.0, i.1, i.2 ∙ append_assoc past (p ∷ []) ps, i.3)

-- ---- the session, at the bytes
module _ (cal : List ℕ) (day c d : ℕ) (ws : List (ℕ × ℕ)) (bs : List ℕ) (w : Written cal bs (running (body cal day c ws))) where
  abbrev moves : Call
  moves = Session (next_session cal day) d

  session-taken : Passes cal → first_live (expiry_of cal) (next_session cal day) ≤ 1190 → close_taken d ≡ true → number_at (rules cal) moves bs ≡ 0
  unfolding number rules Rulebook.begun Rulebook.moved first_at expiry_at cause first_cause
  session-taken passes first ok =
      written-number cal bs (running (body cal day c ws)) w passes moves
      ∙ rw (eqb_self (next_session cal day), le-ltb 1190 (first_live (expiry_of cal) (next_session cal day)) first, ok)

  rows_before : rows_read bs ≡ begun cal day c
  rows_before = ap (λ (b : Body). b.rows) (written_body cal bs (body cal day c ws) w)

  rows_after : number_at (rules cal) moves bs ≡ 0
      → rows_read (after_at (rules cal) moves bs) ≡ (session_body (rules cal) (body cal day c ws) ((rules cal).move ((rules cal).begin day) (next_session cal day)) d).rows
  unfolding accepted rules
  rows_after n =
      ap (λ (b : Body). b.rows)
      (written_body cal (after_at (rules cal) moves bs) (session_body (rules cal) (body cal day c ws) ((rules cal).move ((rules cal).begin day) (next_session cal day)) d)
      (written_after cal bs (running (body cal day c ws)) w moves n))

-- so a line that holds of the tiers holds
pub relists_by : (t u : Tier) (c : ℕ) (ps : List ℕ) (d : ℕ) (old new : Reach) (o : ℕ) (these : Reach)
    → close_taken c ≡ true → close_taken d ≡ true → announceable t u c [] ps ≡ true
    → Reaches (start_prices c t) old → Reaches (prices t u c d ps) new → Reaches (select (λ p. eqb (origin t u c d p) o) (prices t u c d ps)) these
    → Holds (relists t u c ps d old new o these)
unfolding Holds final_at numbers_at all_zero waiting_of start_body
relists_by t u c ps d old new o these okc okd fresh e f g cal day m can first live still =
    let passes = can.passes in
    let begun-at : List ℕ = after_at (rules cal) (Start day c) empty_register in
    let a = announced cal passes day c m t u live first still ps [] [] begun-at refl refl (start-written cal day c can okc) fresh in
    let before : List ℕ = final_at (rules cal) (map (Announce m) ps) begun-at in
    let n = session-taken cal day c d a.1 before a.3 passes first okd in
    let rows = rows_after cal day c d a.1 before a.3 n in (
      and_i (eq-eqb _ 0 (start-taken cal day c can okc)) a.0,
      n,
      subst (λ (rs : List Row). Reaches (prices_of m rs) old) (sym (rows_before cal day c d a.1 before a.3)) (rw (start-prices cal day c m t live) e),
      subst (λ (rs : List Row). Reaches (prices_of m rs) new) (sym rows)
          (rw (session_prices cal day c m t live a.1 ps a.2 (next_session cal day) d u still) f),
      subst (λ (rs : List Row). Reaches (prices_of m (of_origin o rs)) these) (sym rows)
          (rw (session-origin cal day c m t live a.1 ps a.2 (next_session cal day) d u still o) g),
    )
