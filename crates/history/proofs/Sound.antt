-- Every register that a list of calls reaches is well formed, so that cause 15 never arises there.
-- Assumes nothing but the laws of the rules.
use mathlib.Core.Path.{◌≡◌, refl, sym, ap, ◌∙◌}
use mathlib.Core.Bool.{Bool, true, false, cond, not, ◌&&◌, ◌||◌, or-false, true≢false}
use mathlib.Core.List.{List, [], ◌∷◌, ◌++◌, append_assoc}
use Prim.Native.Nat.{ℕ, ◌≤◌}
use native.Mathlib.Omega.{arith}
use lib.Dec.{leb, eqb, ltb}
use lib.ListN.{length, length-append}
use borrow.Author.Tests.{eqb-true, eq-eqb, leb-false, le-leb, ltb-false, not-false}
use Rattle.base.specs.Lists.{elem, within}
use Rattle.base.specs.Causes.{first_cause}
use Rattle.base.proofs.Tests.{by_bool, and_l, and_r, and_i, or_fr, eqb_self}
use Rattle.base.proofs.CauseLaws.{none_of, not-cause}
use Rattle.dates.specs.Months.{day_count}
use Rattle.rules.specs.Rules.{Moment, Rules, last_first_month}
use Rattle.calls.specs.declared.Call.{Call}
use Rattle.calls.specs.declared.Call.TheVariants.{Start, Session, Announce}
use Rattle.rules.proofs.Laws.{Laws}
use Rattle.layout.specs.Rows.{Entry, new_entry, entry_ok, Row, ladder, rows_of, find}
use Rattle.layout.specs.Register.{Body, Reg, empty, running, waiting_of, span_low, span_high, same_keys, entries_ok, listed, announce_causes, waiting_ok, well_formed}
use Rattle.layout.proofs.Held.{Sound, well-formed}
use Rattle.layout.proofs.RowLaws.{all_some, entry_later, entry_new, rows_of_same}
use Rattle.calls.specs.Listing.{close_low, close_high, new_low, new_high, kept, new_origin, start_body, session_body, announce_body, number, accepted}
use Rattle.history.specs.History.{History, between}
use Rattle.history.proofs.Simulation.{Running, low_there, span-low, span-high, session-told}

-- ---- keys
same-ladder : (m : ℕ) (f g : ℕ → Entry) (ps : List ℕ) (xs ys : List Row) → same_keys (ladder m f ps ++ xs) (ladder m g ps ++ ys) ≡ same_keys xs ys
unfolding same_keys ladder
same-ladder m f g [] xs ys = refl
same-ladder m f g (p ∷ ps) xs ys = rw (eqb_self m, eqb_self p) (same-ladder m f g ps xs ys)

same_rows : (L : List ℕ) (G : ℕ → List ℕ) (f g : ℕ → ℕ → Entry) → same_keys (rows_of L G f) (rows_of L G g) ≡ true
unfolding rows_of same_keys
same_rows [] G f g = refl
same_rows (m ∷ ms) G f g =
    same-ladder m (f m) (g m) (G m) (rows_of ms G f) (rows_of ms G g) ∙ same_rows ms G f g

-- ---- first days and origins
ok-ladder : (d m : ℕ) (f : ℕ → Entry) (ps : List ℕ) (xs : List Row) → ((p : ℕ) → entry_ok d (f p) ≡ true)
    → entries_ok d xs ≡ true → entries_ok d (ladder m f ps ++ xs) ≡ true
unfolding ladder entries_ok
ok-ladder d m f [] xs h k = k
ok-ladder d m f (p ∷ ps) xs h k = and_i (h p) (ok-ladder d m f ps xs h k)

ok_rows : (d : ℕ) (L : List ℕ) (G : ℕ → List ℕ) (f : ℕ → ℕ → Entry) → ((m p : ℕ) → entry_ok d (f m p) ≡ true)
    → entries_ok d (rows_of L G f) ≡ true
unfolding rows_of entries_ok
ok_rows d [] G f h = refl
ok_rows d (m ∷ ms) G f h = ok-ladder d m (f m) (G m) (rows_of ms G f) (h m) (ok_rows d ms G f h)

kept_ok : (d e m p : ℕ) (x : Entry) (rs : List Row) → entries_ok d rs ≡ true → d ≤ e → entry_ok e x ≡ true → entry_ok e (kept (find m p rs) x) ≡ true
unfolding kept find entries_ok
kept_ok d e m p x [] k le f = f
kept_ok d e m p x (r ∷ rs) k le f =
    by_bool (eqb m r.month && eqb p r.price)
    (λ t. rw t (entry_later d e r.entry le (and_l _ _ k)))
    (λ t. rw t (kept_ok d e m p x rs (and_r (entry_ok d r.entry) _ k) le f))

origin_range : (x y z : Bool) → within 1 5 (cond x 1 (cond y 2 (cond z 3 4))) ≡ true
unfolding within
origin_range true y z = refl
origin_range false true z = refl
origin_range false false true = refl
origin_range false false false = refl

-- ---- what waits
waiting_of-append : (m p : ℕ) (xs ys : List (ℕ × ℕ)) → elem p (waiting_of m (xs ++ ys)) ≡ (elem p (waiting_of m xs) || elem p (waiting_of m ys))
unfolding waiting_of elem
waiting_of-append m p [] ys = refl
waiting_of-append m p (x ∷ xs) ys =
    by_bool (eqb m x.0)
    (λ t. by_bool (eqb p x.1) (λ u. rw (t, u)) (λ u. rw (t, u) (waiting_of-append m p xs ys)))
    (λ t. rw t (waiting_of-append m p xs ys))

module _ (R : Rules) where
  module _ (h : History) (b : Body) (s : Running R h b) (v : Sound R b) where
    pub well : well_formed R b ≡ true
    unfolding listed between
    well =
        well-formed R b
        (record { sound = v; keys = keys; some-row = all_some b (R.live b.at) (λ m l. rw (span-low R h b s m l) (low_there R h b s m l)) })
      where
        span : (m : ℕ) → elem m (R.live b.at) ≡ true → listed R b.at (span_low b) (span_high b) m ≡ between R b.at h.low h.high m
        span m l = rw (span-low R h b s m l, span-high R h b s m l)

        keys : same_keys b.rows (rows_of (R.live b.at) (listed R b.at (span_low b) (span_high b)) (λ m p. new_entry 0 0)) ≡ true
        keys =
            ap (λ (rs : List Row). same_keys rs (rows_of (R.live b.at) (listed R b.at (span_low b) (span_high b)) (λ m p. new_entry 0 0))) s.rows_are
            ∙ ap (λ (rs : List Row). same_keys (rows_of (R.live b.at) (between R b.at h.low h.high) s.entry) rs)
            (rows_of_same (R.live b.at) (listed R b.at (span_low b) (span_high b)) (between R b.at h.low h.high) (λ m p. new_entry 0 0) (λ m p. new_entry 0 0)
            span (λ m p l e. refl))
            ∙ same_rows (R.live b.at) (between R b.at h.low h.high) s.entry (λ m p. new_entry 0 0)

  -- ---- one more waits
  module _ (b : Body) (m p : ℕ) where
    other : (n q : ℕ) → (m ≡ n → p ≡ q → ⊥) → elem q (waiting_of n ((m, p) ∷ [])) ≡ false
    unfolding waiting_of elem
    other n q ne =
        by_bool (eqb n m)
        (λ t. by_bool (eqb q p)
        (λ u. absurd (ne (sym (eqb-true n m t)) (sym (eqb-true q p u))))
        (λ u. rw (t, u)))
        (λ t. rw t)

    still : (others : List (ℕ × ℕ)) (n q : ℕ) → (m ≡ n → p ≡ q → ⊥)
        → first_cause (announce_causes R b others n q) ≡ 0 → first_cause (announce_causes R (announce_body b m p) (others ++ ((m, p) ∷ [])) n q) ≡ 0
    unfolding announce_causes announce_body span_low span_high
    still others n q ne z = rw (waiting_of-append n q others ((m, p) ∷ []), other n q ne, or-false (elem q (waiting_of n others))) z

    same_causes : (others : List (ℕ × ℕ)) (n q : ℕ) → first_cause (announce_causes R b others n q) ≡ 0
        → first_cause (announce_causes R (announce_body b m p) others n q) ≡ 0
    unfolding announce_causes announce_body span_low span_high
    same_causes others n q z = z

    not_among : (others : List (ℕ × ℕ)) → first_cause (announce_causes R b others m p) ≡ 0 → elem p (waiting_of m others) ≡ false
    unfolding announce_causes
    not_among others z =
        let z₁ = (none_of _ _ z).1 in
        let z₂ = (none_of _ _ z₁).1 in
        let z₃ = (none_of _ _ z₂).1 in
        or_fr (within (span_low b m) (span_high b m) p) _ (not-cause _ 23 (none_of _ _ z₃).0)

    differs : (past : List (ℕ × ℕ)) (w : ℕ × ℕ) (ws : List (ℕ × ℕ)) → elem p (waiting_of m (past ++ w ∷ ws)) ≡ false → m ≡ w.0 → p ≡ w.1 → ⊥
    unfolding waiting_of elem
    differs past w ws e x y =
        let t : elem p (waiting_of m (w ∷ ws)) ≡ false = or_fr (elem p (waiting_of m past)) _ (sym (waiting_of-append m p past (w ∷ ws)) ∙ e) in
        true≢false (rw (eq-eqb m w.0 x, eq-eqb p w.1 y) at t)

    -- each that waits is still accepted beside the others and one more, which none of them is
    all_still : (past ws : List (ℕ × ℕ)) → first_cause (announce_causes R b (past ++ ws) m p) ≡ 0 → waiting_ok R b past ws ≡ true
        → waiting_ok R (announce_body b m p) past (ws ++ ((m, p) ∷ [])) ≡ true
    unfolding waiting_ok
    all_still past [] z k = and_i (eq-eqb _ 0 (same_causes (past ++ []) m p z)) refl
    all_still past (w ∷ ws) z k =
        let here : first_cause (announce_causes R (announce_body b m p) (past ++ (ws ++ ((m, p) ∷ []))) w.0 w.1) ≡ 0 =
        rw (← append_assoc past ws ((m, p) ∷ []))
        (still (past ++ ws) w.0 w.1 (differs past w ws (not_among (past ++ w ∷ ws) z)) (eqb-true _ 0 (and_l _ _ k))) in
        and_i (eq-eqb _ 0 here)
        (all_still (past ++ (w ∷ [])) ws (rw (append_assoc past (w ∷ []) ws) z)
        (and_r (eqb (first_cause (announce_causes R b (past ++ ws) w.0 w.1)) 0) _ k))

    sound-announce : Sound R b → first_cause (announce_causes R b b.waiting m p) ≡ 0 → leb 32 (length b.waiting) ≡ false → Sound R (announce_body b m p)
    unfolding announce_body
    sound-announce v z room = record {
      session-day = v.session-day;
      good-at = v.good-at;
      live = v.live;
      entries = v.entries;
      short = let r = leb-false 32 (length b.waiting) room in
          le-leb (length (b.waiting ++ ((m, p) ∷ []))) 32 (rw (length-append b.waiting ((m, p) ∷ [])) (omega arith));
      waits = all_still [] b.waiting z v.waits;
    }

  origin_ok : (b : Body) (d : Moment) (c m p : ℕ) → within 1 5 (new_origin R b d c m p) ≡ true
  unfolding new_origin
  origin_ok b d c m p =
      origin_range (not (elem m (R.live b.at))) (within (span_low b m) (span_high b m) p) (within (close_low R b d c m) (close_high R b d c m) p)

  module _ (L : Laws R) where
    sound-session : (b : Body) (d c : ℕ) → Sound R b → d ≡ R.next_day b.at → ltb last_first_month (R.first_live (R.move b.at d)) ≡ false
        → Sound R (session_body R b (R.move b.at d) c)
    unfolding session_body waiting_ok
    sound-session b d c v nx fl =
        let x : Moment = R.move b.at d in
        let le = L.later b.at in
        let dy : (R.move b.at d).day ≡ d = L.move-day b.at d in
        let fl' : leb (R.first_live x) last_first_month ≡ true = le-leb _ last_first_month (ltb-false last_first_month (R.first_live x) fl) in
        record {
          session-day = rw (dy, nx) (L.next-session b.at v.good-at (rw nx at fl'));
          good-at = rw nx (L.good-move b.at v.good-at);
          live = fl';
          entries = ok_rows x.day (R.live x) (listed R x (new_low R b x c) (new_high R b x c)) _
              (λ m p. kept_ok b.at.day x.day m p (new_entry x.day (new_origin R b x c m p)) b.rows v.entries (omega arith) (entry_new x.day _ (origin_ok b x c m p)));
          short = refl;
          waits = refl;
        }

    sound-start : (d c : ℕ) → R.is_session d ≡ true → ltb last_first_month (R.first_live (R.begin d)) ≡ false → Sound R (start_body R (R.begin d) c)
    unfolding start_body waiting_ok within
    sound-start d c sd fl =
        let x : Moment = R.begin d in
        record {
          session-day = rw (L.begin-day d) sd;
          good-at = L.good-begin d;
          live = le-leb _ last_first_month (ltb-false last_first_month (R.first_live x) fl);
          entries = ok_rows x.day (R.live x) (listed R x (λ m. R.need_low x true m c) (λ m. R.need_high x true m c)) (λ m p. new_entry x.day 5) (λ m p. entry_new x.day 5 refl);
          short = refl;
          waits = refl;
        }

    abbrev pub SoundReg : Reg → Type 0
    SoundReg empty = Unit {0}
    SoundReg (running b) = Sound R b

    pub sound_accept : (k : Call) (r : Reg) → number R k r ≡ 0 → SoundReg r → SoundReg (accepted R k r)
    unfolding number accepted
    sound_accept (Start d c) empty z v =
        let z₁ = (none_of _ _ z).1 in
        sound-start d c (and_r (ltb d day_count) _ (not-false _ (not-cause _ 17 (none_of _ _ z).0))) (not-cause _ 19 (none_of _ _ z₁).0)
    sound_accept (Start d c) (running b) z v = v
    sound_accept (Session d c) empty z v = v
    sound_accept (Session d c) (running b) z v = let t = session-told R b d c z in sound-session b d c v t.0 t.1
    sound_accept (Announce m p) empty z v = v
    sound_accept (Announce m p) (running b) z v =
        let z₁ = (none_of _ _ z).1 in
        sound-announce b m p v (none_of _ _ z).0 (not-cause _ 24 (none_of _ _ z₁).0)
