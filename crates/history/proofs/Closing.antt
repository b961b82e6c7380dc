-- Demand 3 at the register's bytes.
-- Assumes nothing but the laws of the rules.
use mathlib.Core.Path.{◌≡◌, refl, sym, ap, ◌∙◌, subst}
use mathlib.Core.Bool.{Bool, true}
use mathlib.Core.List.{List, [], ◌∷◌, ◌++◌, map}
use mathlib.Core.Option.{Option, some}
use Prim.Native.Nat.{ℕ, ◌≤◌, ◌<◌}
use native.Mathlib.Omega.{arith}
use lib.Dec.{leb, eqb}
use lib.ListN.{length, length-append, length-map}
use borrow.Author.Tests.{eqb-true, leb-true, not-false}
use Rattle.base.specs.Lists.{elem, select, within}
use Rattle.base.specs.Causes.{first_cause}
use Rattle.base.proofs.Tests.{by_bool, and_l, and_r, and_i, or_fl}
use Rattle.base.proofs.ListLaws.{elem-here, elem_there, select-count}
use Rattle.base.proofs.CauseLaws.{none_of, not-cause}
use Rattle.rules.specs.Rules.{Moment, Rules, next, last_first_month}
use Rattle.rules.specs.Rulebook.{rules}
use Rattle.calls.specs.declared.Call.{Call}
use Rattle.rules.proofs.Laws.{Laws, total}
use Rattle.rules.proofs.RulebookLaws.{laws}
use Rattle.layout.specs.Rows.{Entry, entry_ok, Row, ladder, rows_of}
use Rattle.layout.specs.Register.{Body, Reg, empty, running, entries_ok, announce_causes, waiting_ok}
use Rattle.layout.proofs.RowLaws.{entry_first, ladder-length}
use Rattle.calls.specs.Listing.{number, accepted}
use Rattle.history.specs.History.{History, blank, between, accepted_call, heard, told, month_told, months_told, rows_told}
use Rattle.layout.specs.Bytes.{register_length, most_rows, body_of, body_bytes, reg_of, bytes_of, in_layout}
use Rattle.layout.specs.Opening.{stands, empty_or_well}
use Rattle.layout.proofs.OpeningLaws.{none-opened}
use Rattle.layout.proofs.Held.{Sound}
use Rattle.layout.proofs.ByteLaws.{PlacesFit, RowsFit, Fits, RegFits, back, body_back, day_back, count_back, bytes-length, layout-kept}
use Rattle.calls.specs.Answers.{number_at, after_at}
use Rattle.history.specs.Claim.{empty_register, final_at, numbers_at, row_told, rows_standing, HoldsDay, ClaimAt, Claim}
use Rattle.history.proofs.Simulation.{Running, Agree, key, between_is, accept}
use Rattle.history.proofs.Ascend.{rows-ascend}
use Rattle.history.proofs.Sound.{SoundReg, sound_accept, well}

-- ---- what is reached fits its bytes

pub total-listed : (f : ℕ → ℕ → Bool) (G : ℕ → List ℕ) (L : List ℕ) → total (λ m. select (f m) (G m)) L ≤ total G L
unfolding total
total-listed f G [] = omega arith
total-listed f G (m ∷ ms) = let h = total-listed f G ms in let k = select-count (f m) (G m) in omega arith

pub rows_total : (L : List ℕ) (G : ℕ → List ℕ) (f : ℕ → ℕ → Entry) → length (rows_of L G f) ≡ total G L
unfolding rows_of total
rows_total [] G f = refl
rows_total (m ∷ ms) G f = rw (length-append (ladder m (f m) (G m)), ladder-length m (f m) (G m), rows_total ms G f)

ladder_fits : (d m : ℕ) (f : ℕ → Entry) (ps : List ℕ) (rest : List Row) → d < 65536 → m < 65536 → ((p : ℕ) → elem p ps ≡ true → p < 65536)
    → entries_ok d (ladder m f ps ++ rest) ≡ true → (entries_ok d rest ≡ true → RowsFit rest) → RowsFit (ladder m f ps ++ rest)
unfolding ladder entries_ok
ladder_fits d m f [] rest hd hm hp k go = go k
ladder_fits d m f (p ∷ ps) rest hd hm hp k go =
    let t = entry_first d (f p) (and_l _ _ k) in (
      record { month_fits = hm; price_fits = hp p (elem-here p ps); first_fits = omega arith },
      ladder_fits d m f ps rest hd hm (λ q e. hp q (elem_there q p ps e)) (and_r (entry_ok d (f p)) _ k) go,
    )

pub rows_fit_of : (d : ℕ) (L : List ℕ) (G : ℕ → List ℕ) (f : ℕ → ℕ → Entry) → d < 65536 → ((m : ℕ) → elem m L ≡ true → m < 65536)
    → ((m p : ℕ) → elem p (G m) ≡ true → p < 65536) → entries_ok d (rows_of L G f) ≡ true → RowsFit (rows_of L G f)
unfolding rows_of
rows_fit_of d [] G f hd hm hp k = tt
rows_fit_of d (m ∷ ms) G f hd hm hp k =
    ladder_fits d m (f m) (G m) (rows_of ms G f) hd (hm m (elem-here m ms)) (hp m) k
    (rows_fit_of d ms G f hd (λ n e. hm n (elem_there n m ms e)) hp)

module _ (R : Rules) (L : Laws R) where
  places_fit : (b : Body) → leb (R.first_live b.at) last_first_month ≡ true → (past ws : List (ℕ × ℕ)) → waiting_ok R b past ws ≡ true → PlacesFit ws
  unfolding waiting_ok announce_causes
  places_fit b fl past [] k = tt
  places_fit b fl past (w ∷ ws) k =
      let z = eqb-true _ 0 (and_l _ _ k) in
      let z₁ = (none_of _ _ z).1 in
      let z₂ = (none_of _ _ z₁).1 in
      let m-live = not-false (elem w.0 (R.live b.at)) (or_fl _ (leb (R.expiry b.at w.0) b.at.day) (not-cause _ 21 (none_of _ _ z₁).0)) in
      let p-on = not-false (elem w.1 (R.grid (next R b.at) w.0)) (not-cause _ 22 (none_of _ _ z₂).0) in
      let a = L.live_in b.at w.0 fl m-live in
      let c = L.price_in (next R b.at) w.0 w.1 p-on in
      (omega arith, omega arith, places_fit b fl (past ++ (w ∷ [])) ws (and_r (eqb (first_cause (announce_causes R b (past ++ ws) w.0 w.1)) 0) _ k))

  module _ (h : History) (b : Body) (s : Running R h b) (v : Sound R b) where
    day_lt : b.at.day < 65536
    day_lt = let a = L.day-in b.at v.good-at v.live in omega arith

    row_count : length b.rows ≤ most_rows
    unfolding between
    row_count =
        let c = L.capacity b.at in
        let t = total-listed (λ m. within (h.low m) (h.high m)) (R.grid b.at) (R.live b.at) in
        let n = ap length s.rows_are ∙ rows_total (R.live b.at) (between R b.at h.low h.high) s.entry in
        omega arith

    fits : Fits b
    fits = record {
      day_fits = day_lt;
      waiting_fits = leb-true _ 32 v.short;
      rows_fit = row_count;
      places = places_fit b v.live [] b.waiting v.waits;
      each = rw s.rows_are
          (rows_fit_of b.at.day (R.live b.at) (between R b.at h.low h.high) s.entry day_lt
          (λ m e. let a = L.live_in b.at m v.live e in omega arith)
          (λ m p e. let a = L.price_in b.at m p (and_l _ _ (sym (between_is R b.at h.low h.high m p) ∙ e)) in omega arith)
          (rw s.rows_are at v.entries));
    }

  -- ---- one call, and a list of calls
  pub last-number : (k : Call) (bs : List ℕ) → number_at R k bs ≡ 0 → number R k (reg_of bs) ≡ 0
  unfolding number_at
  last-number k bs z = (none-opened R bs (number R k (reg_of bs)) z).3

  pub reg_fits : (h : History) (r : Reg) → Agree R h r → SoundReg R L r → RegFits r
  reg_fits h empty a v = tt
  reg_fits h (running b) a v = fits h b a v

  -- the bytes are those of a sound register that agrees with the history
  pub record Reached (h : History) (bs : List ℕ) : Type 0 where
    pub reg : Reg
    pub written : bs ≡ bytes_of reg
    pub agree : Agree R h reg
    pub sound : SoundReg R L reg

  read_back : (h : History) (bs : List ℕ) (x : Reached h bs) → reg_of bs ≡ x.reg
  read_back h bs x = ap reg_of x.written ∙ back x.reg (reg_fits h x.reg x.agree x.sound)

  pub reached-step : (k : Call) (h : History) (bs : List ℕ) → Reached h bs → Reached (heard R k (number_at R k bs) h) (after_at R k bs)
  unfolding heard after_at
  reached-step k h bs x =
      by_bool (eqb (number_at R k bs) 0)
      (λ e. rw e (taken (eqb-true _ 0 e)))
      (λ e. rw e x)
    where
      taken : number_at R k bs ≡ 0 → Reached (accepted_call R k h) (bytes_of (accepted R k (reg_of bs)))
      taken z =
          let q = read_back h bs x in
          let n : number R k x.reg ≡ 0 = rw q at (last-number k bs z) in
          record {
            reg = accepted R k x.reg;
            written = rw q;
            agree = accept R L k h x.reg n x.agree;
            sound = sound_accept R L k x.reg n x.sound;
          }

  reached_all : (ks : List Call) (h : History) (bs : List ℕ) → Reached h bs → Reached (told R ks (numbers_at R ks bs) h) (final_at R ks bs)
  unfolding told numbers_at final_at
  reached_all [] h bs x = x
  reached_all (k ∷ ks) h bs x = reached_all ks (heard R k (number_at R k bs) h) (after_at R k bs) (reached-step k h bs x)

  pub from_zeros : Reached blank empty_register
  unfolding blank bytes_of
  from_zeros = record { reg = empty; written = refl; agree = (refl, refl, λ m p. refl); sound = tt }

  -- ---- causes 14 and 15 never arise
  well_reg : (h : History) (r : Reg) → Agree R h r → SoundReg R L r → empty_or_well R r ≡ true
  unfolding empty_or_well
  well_reg h empty a v = refl
  well_reg h (running b) a v = well R h b a v

  pub reached-stands : (h : History) (bs : List ℕ) → Reached h bs → (length bs ≡ register_length) × (stands R bs ≡ true)
  unfolding stands
  reached-stands h bs x =
      let f = reg_fits h x.reg x.agree x.sound in
      let layout : in_layout bs ≡ true = rw x.written (layout-kept x.reg f) in
      let well : empty_or_well R (reg_of bs) ≡ true = rw (read_back h bs x) (well_reg h x.reg x.agree x.sound) in
      (rw x.written (bytes-length x.reg f), and_i layout well)

  pub always-stands : (ks : List Call) → (length (final_at R ks empty_register) ≡ register_length) × (stands R (final_at R ks empty_register) ≡ true)
  always-stands ks = reached-stands _ _ (reached_all ks blank empty_register from_zeros)

  -- ---- the claim
  tell-ladder : (h : History) (m : ℕ) (f : ℕ → Entry) (ps : List ℕ) (rest : List Row) → ((p : ℕ) → elem p ps ≡ true → h.first m p ≡ some (f p).first)
      → map row_told (ladder m f ps ++ rest) ≡ month_told R h m ps ++ map row_told rest
  unfolding ladder month_told row_told
  tell-ladder h m f [] rest k = refl
  tell-ladder h m f (p ∷ ps) rest k = rw (tell-ladder h m f ps rest (λ q e. k q (elem_there q p ps e)), k p (elem-here p ps))

  tell-rows : (h : History) (x : Moment) (f : ℕ → ℕ → Entry) (ms : List ℕ)
      → ((m p : ℕ) → elem m ms ≡ true → elem p (between R x h.low h.high m) ≡ true → h.first m p ≡ some (f m p).first)
      → map row_told (rows_of ms (between R x h.low h.high) f) ≡ months_told R h x ms
  unfolding rows_of months_told
  tell-rows h x f [] k = refl
  tell-rows h x f (m ∷ ms) k =
      tell-ladder h m (f m) (between R x h.low h.high m) (rows_of ms (between R x h.low h.high) f) (λ p e. k m p (elem-here m ms) e)
      ∙ rw (tell-rows h x f ms (λ n p e. k n p (elem_there n m ms e)))

  holds : (h : History) (b : Body) → Running R h b → Fits b → HoldsDay R h b.at (body_bytes b)
  unfolding rows_standing rows_told body_of key
  holds h b s f =
      let body = body_back b f in
      let told-rows : map row_told b.rows ≡ months_told R h b.at (R.live b.at) =
      ap (λ (rs : List Row). map row_told rs) s.rows_are ∙ tell-rows h b.at s.entry (R.live b.at) (λ m p l e. s.first_is m p ∙ rw (and_i l e)) in
      record {
        day = day_back b f;
        rows = ap (λ (x : Body). map row_told x.rows) body ∙ told-rows;
        dated = λ m p l e. ((s.entry m p).first, s.first_is m p ∙ rw (and_i l e));
        ascend = rw (ap (λ (x : Body). map row_told x.rows) body ∙ told-rows) (rows-ascend R L h b.at);
        count = count_back b f ∙ sym (length-map b.rows row_told) ∙ ap length told-rows;
        most = rw (count_back b f) f.rows_fit;
      }

  claim_of : (h : History) (bs : List ℕ) (r : Reg) → bs ≡ bytes_of r → Agree R h r → SoundReg R L r → Claim R h bs
  unfolding bytes_of
  claim_of h bs empty w a v = subst (λ (o : Option Moment). ClaimAt R h o bs) (sym a.0) w
  claim_of h bs (running b) w a v =
      subst (λ (o : Option Moment). ClaimAt R h o bs) (sym a.at_is) (rw w (holds h b a (fits h b a v)))

  pub claimed : (h : History) (bs : List ℕ) → Reached h bs → Claim R h bs
  claimed h bs x = claim_of h bs x.reg x.written x.agree x.sound

  pub closing_of : (ks : List Call) → Claim R (told R ks (numbers_at R ks empty_register) blank) (final_at R ks empty_register)
  closing_of ks = claimed _ _ (reached_all ks blank empty_register from_zeros)

-- Demand 3: for every calendar and every list of calls, from the all-zero register.
pub closing : (calendar : List ℕ) (calls : List Call) →
    Claim (rules calendar)
    (told (rules calendar) calls (numbers_at (rules calendar) calls empty_register) blank)
    (final_at (rules calendar) calls empty_register)
closing calendar calls = closing_of (rules calendar) (laws calendar) calls
