-- A running register, reached by calls or not, is one that a history tells. So a call answers and leaves at its bytes what the
-- definitions say of its rows.
-- Assumes nothing.
use mathlib.Core.Path.{◌≡◌, refl, ap, ◌∙◌}
use mathlib.Core.Bool.{true, false, cond, not, ◌&&◌, false≢true}
use mathlib.Core.List.{List, [], ◌∷◌, ◌++◌}
use mathlib.Core.Option.{none, some}
use Prim.Native.Nat.{ℕ}
use lib.Dec.{eqb}
use borrow.Author.Tests.{eqb-true, not-false}
use Rattle.base.specs.Lists.{elem}
use Rattle.base.specs.Causes.{first_cause}
use Rattle.base.proofs.Tests.{by_bool, and_l, and_r, and_i, or_e}
use Rattle.base.proofs.CauseLaws.{none_of, not-cause}
use Rattle.calendar.specs.Calendar.{Passes}
use Rattle.calendar.specs.Live.{live_months, tier_of}
use Rattle.grid.specs.Numbers.{price}
use Rattle.grid.proofs.Prices.{price_mono}
use Rattle.grid.proofs.Grids.{number-on}
use Rattle.rules.specs.Rules.{Rules, next}
use Rattle.rules.specs.Rulebook.{first_at, tier_at, rules, expiry_at}
use Rattle.calls.specs.declared.Call.{Call}
use Rattle.rules.proofs.Laws.{Laws}
use Rattle.rules.proofs.RulebookLaws.{laws}
use Rattle.layout.specs.Register.{Body, Reg, empty, running, waiting_of, announce_causes, waiting_ok}
use Rattle.layout.specs.Bytes.{body_of, body_bytes, bytes_of, all_zero, reg_of}
use Rattle.layout.specs.Spans.{runs_well}
use Rattle.layout.proofs.ByteLaws.{back, body_back}
use Rattle.layout.proofs.Held.{ladder_of, Held, Facts, held}
use Rattle.layout.proofs.OpeningLaws.{says_own}
use Rattle.layout.proofs.Running.{runs}
use Rattle.calls.specs.Listing.{number, accepted}
use Rattle.calls.specs.Answers.{number_at, after_at}
use Rattle.history.specs.History.{History, blank, between, accepted_call}
use Rattle.history.specs.Claim.{empty_register}
use Rattle.history.proofs.Simulation.{Running, Agree, key, accept}
use Rattle.history.proofs.Sound.{SoundReg, sound_accept}
use Rattle.history.proofs.Closing.{last-number, reg_fits, Reached, reached-stands}
use Rattle.history.proofs.Accepts.{Runs}

-- the bytes are those of a register that a history tells
pub record Written (cal bs : List ℕ) (r : Reg) : Type 0 where
  pub history : History
  pub agree : Agree (rules cal) history r
  pub sound : SoundReg (rules cal) (laws cal) r
  pub bytes : bs ≡ bytes_of r

module _ (cal : List ℕ) where
  abbrev R : Rules
  R = rules cal

  abbrev L : Laws R
  L = laws cal

  pub empty-written : Written cal empty_register empty
  unfolding blank bytes_of
  empty-written = record { history = blank; agree = (refl, refl, λ m p. refl); sound = tt; bytes = refl }

  module _ (bs : List ℕ) (r : Reg) (w : Written cal bs r) where
    reached : Reached R L w.history bs
    reached = record { reg = r; written = w.bytes; agree = w.agree; sound = w.sound }

    pub written_read : reg_of bs ≡ r
    written_read = ap reg_of w.bytes ∙ back r (reg_fits R L w.history r w.agree w.sound)

    -- the number at the bytes
    pub written-number : Passes cal → (k : Call) → number_at R k bs ≡ number R k r
    unfolding number_at rules
    written-number passes k =
        let s = reached-stands R L w.history bs reached in
        says_own R bs (number R k (reg_of bs)) passes s.0 s.1 ∙ ap (number R k) written_read

    -- the register after an accepted call
    pub written_after : (k : Call) → number_at R k bs ≡ 0 → Written cal (after_at R k bs) (accepted R k r)
    unfolding after_at
    written_after k z =
        let n : number R k r ≡ 0 = rw written_read at (last-number R L k bs z) in
        record {
          history = accepted_call R k w.history;
          agree = accept R L k w.history r n w.agree;
          sound = sound_accept R L k r n w.sound;
          bytes = rw (z, written_read);
        }

  -- ---- a register that runs
  module _ (bs : List ℕ) (b : Body) (w : Written cal bs (running b)) where
    pub written_body : body_of bs ≡ b
    unfolding bytes_of
    written_body = ap body_of w.bytes ∙ body_back b (reg_fits R L w.history (running b) w.agree w.sound)

    some_byte : all_zero bs ≡ false
    unfolding all_zero bytes_of body_bytes
    some_byte = ap all_zero w.bytes

    pub written_runs : Runs cal bs
    written_runs = let s = reached-stands R L w.history bs (reached bs (running b) w) in (s.0, some_byte, s.1)

-- ---- a well-formed register is one that a history could tell
waiting-grid : (R : Rules) (b : Body) (past ws : List (ℕ × ℕ)) → waiting_ok R b past ws ≡ true
    → (m p : ℕ) → elem p (waiting_of m ws) ≡ true → elem p (R.grid (next R b.at) m) ≡ true
unfolding waiting_ok announce_causes waiting_of elem
waiting-grid R b past [] k m p e = absurd (false≢true e)
waiting-grid R b past (w ∷ ws) k m p e =
    let z = (none_of _ _ (eqb-true _ 0 (and_l _ _ k))).1 in
    let on : elem w.1 (R.grid (next R b.at) w.0) ≡ true = not-false _ (not-cause _ 22 (none_of _ _ (none_of _ _ z).1).0) in
    let rest = waiting-grid R b (past ++ (w ∷ [])) ws (and_r (eqb (first_cause (announce_causes R b (past ++ ws) w.0 w.1)) 0) _ k) m p in
    by_bool (eqb m w.0)
    (λ t. or_e (eqb p w.1) _ (rw t at e) (λ u. rw (eqb-true m w.0 t, eqb-true p w.1 u) on) rest)
    (λ t. rest (rw t at e))

module _ (cal : List ℕ) (b : Body) (w : Facts (rules cal) b) where
  abbrev f : ℕ
  f = first_at cal b.at

  abbrev holds : Held f b.rows
  holds = held cal b w

  unfoldable teller : History
  teller = record {
    at = some b.at;
    waiting = b.waiting;
    low = λ m. price (holds.low m);
    high = λ m. price (holds.high m);
    first = λ m p. cond (elem m (live_months f) && elem p (ladder_of f holds.low holds.high m)) (some (holds.entry m p).first) none;
  }

  tells : Running (rules cal) teller b
  unfolding key between rules first_at expiry_at tier_at teller
  tells = record {
    at_is = refl;
    good-at = refl;
    waiting_is = refl;
    entry = holds.entry;
    rows_are = holds.rows_are;
    low-on = λ m e. number-on (tier_of f m) (holds.low m) (holds.low-on m e);
    high-on = λ m e. number-on (tier_of f m) (holds.high m) (holds.high-on m e);
    low-high = λ m e. price_mono (holds.low m) (holds.high m) (holds.order m e);
    waiting-on = waiting-grid (rules cal) b [] b.waiting w.sound.waits;
    first_is = λ m p. refl;
  }

pub run-written : (cal bs : List ℕ) → Runs cal bs → Written cal bs (running (body_of bs))
unfolding bytes_of runs_well
run-written cal bs run =
    let r = runs cal bs (and_i (ap not run.1) run.2) in
    record { history = teller cal (body_of bs) r.well; agree = tells cal (body_of bs) r.well; sound = r.well.sound; bytes = r.written }
