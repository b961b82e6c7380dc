-- Laws of the session calendar: its last bits, a month's session, the check's number, expiry dates and the next session.
-- Assumes nothing.
use mathlib.Core.Path.{◌≡◌, refl, sym, ap, ◌∙◌}
use mathlib.Core.Bool.{Bool, true, false, not, ◌||◌}
use mathlib.Core.List.{List, [], ◌∷◌}
use Prim.Native.Nat.{ℕ, ◌+◌, ◌-◌, ◌*◌, ◌/◌, ◌%◌, ◌^◌, ◌≤◌, ◌<◌}
use native.Mathlib.Nat.{zero-div}
use native.Mathlib.Omega.{arith}
use lib.Dec.{eqb, ltb}
use lib.ListN.{length, get_or, get_or-eq_default}
use lib.Pow.{shr-shr}
use borrow.Author.Tests.{lt-ltb, le-ltb, ltb-true, ltb-false, eq-eqb, ne_eqb, eqb-false, not-false}
use Rattle.base.specs.Search.{first_in, some_in}
use Rattle.base.specs.Lists.{least_of}
use Rattle.base.specs.Causes.{cause, first_cause}
use Rattle.base.proofs.Tests.{by_le, clash}
use Rattle.base.proofs.SearchLaws.{first_end, first_skip, first-low, first-before, first_found, last_le, last_ge, some_wider, last_found, some_split}
use Rattle.base.proofs.CauseLaws.{none_of, not-cause, passed}
use Rattle.dates.specs.Months.{month_count, day_count, first_day, third_friday}
use Rattle.dates.proofs.MonthLaws.{third-friday_rule, third-friday-below}
use Rattle.calendar.specs.declared.Checked.{Checked}
use Rattle.calendar.specs.Calendar.{calendar_length, session, tail_set, lacks, first_lacking, calendar_causes, calendar_cause, check_of, Passes, expiry_of, next_session}
use Rattle.base.proofs.ListLaws.{least_at}
use Rattle.calendar.proofs.Bits.{word, word_sessions}

-- past the calendar's end there is no session
pub no-session : (cal : List ℕ) (n : ℕ) → length cal ≤ n / 8 → session cal n ≡ false
unfolding session
no-session cal n h = rw (get_or-eq_default cal 0 h, zero-div (2 ^ (n % 8)))

-- ---- the three bits after day 36,524, by the last byte
any : (x y z : Bool) → (x ≡ false → y ≡ false → z ≡ true) → (x || (y || z)) ≡ true
any true y z h = refl
any false true z h = refl
any false false z h = h refl refl

pub tail-set : (cal : List ℕ) → get_or cal 4565 0 < 256 → 32 ≤ get_or cal 4565 0 → tail_set cal ≡ true
unfolding tail_set session
tail-set cal u l = any (eqb (b / 32 % 2) 1) (eqb (b / 64 % 2) 1) (eqb (b / 128 % 2) 1) last
  where
    b : ℕ
    b = get_or cal 4565 0

    last : eqb (b / 32 % 2) 1 ≡ false → eqb (b / 64 % 2) 1 ≡ false → eqb (b / 128 % 2) 1 ≡ true
    last x y =
        let h : 64 ≤ b = omega (arith, eqb-false (b / 32 % 2) 1 x) in
        let g : 128 ≤ b = omega (arith, eqb-false (b / 64 % 2) 1 y) in
        eq-eqb (b / 128 % 2) 1 (omega arith)

pub tail_clear : (cal : List ℕ) → get_or cal 4565 0 < 32 → tail_set cal ≡ false
unfolding tail_set session
tail_clear cal u =
    let b = get_or cal 4565 0 in
    rw (ne_eqb (b / 32 % 2) 1 (omega arith), ne_eqb (b / 64 % 2) 1 (omega arith), ne_eqb (b / 128 % 2) 1 (omega arith))

-- ---- a month's session
-- a month has it where a stretch of its days up to the third Friday has a session
pub lacks-not : (cal : List ℕ) (m a b : ℕ) → first_day m ≤ a → b ≤ third_friday m + 1 → some_in (session cal) a b ≡ true → lacks cal m ≡ false
unfolding lacks
lacks-not cal m a b l u s = ap not (some_wider (session cal) a b (first_day m) (third_friday m + 1) l u s)

-- by its last 15 of these days and by those before them
pub lacks_parts : (cal : List ℕ) (m : ℕ) → lacks cal m ≡ not (some_in (session cal) (third_friday m - 14) (third_friday m + 1) || some_in (session cal) (first_day m) (third_friday m - 14))
unfolding lacks
lacks_parts cal m = ap not (some_split (session cal) (first_day m) (third_friday m - 14) (third_friday m + 1) (omega (arith, (third-friday_rule m).from)) (omega arith))

module _ (cal : List ℕ) (bytes : (i : ℕ) → get_or cal i 0 < 256) where
  -- a byte that is not zero gives it, where the byte's days all lie there
  pub byte-lacks-not : (m k : ℕ) → first_day m ≤ 8 * k → 8 * k + 7 ≤ third_friday m → 0 < get_or cal k 0 → lacks cal m ≡ false
  unfolding word
  byte-lacks-not m k l u h =
      let w = word_sessions cal bytes 1 k 0 8 (omega arith) in
      lacks-not cal m (8 * k + 0) (8 * k + 0 + 8) (omega arith) (omega arith)
      (w ∙ lt-ltb 0 ((get_or cal k 0 + 256 * 0) / 1 % 256) (omega (arith, bytes k)))

  -- each month's days hold a whole byte: where no byte is zero, none lacks its session
  pub no_zero_byte : length cal ≡ calendar_length → 0 < least_of 255 cal → first_lacking cal ≡ month_count
  unfolding first_lacking
  no_zero_byte e h =
      first_skip (lacks cal) 0 month_count month_count (omega arith) (omega arith) has
      ∙ first_end (lacks cal) month_count month_count (omega arith)
    where
      has : (m : ℕ) → 0 ≤ m → m < month_count → lacks cal m ≡ false
      has m z u =
          let k : ℕ = (first_day m + 7) / 8 in
          let f = (third-friday_rule m).from in
          byte-lacks-not m k (omega arith) (omega arith) (omega (arith, least_at 255 cal k (omega (arith, third-friday-below m u))))

  -- the 15 days up to day d, in the four bytes that end with the 16 days that d lies in
  pub four_bytes :
      (d : ℕ) →
      16 ≤ d →
      let k = d / 16 * 2 - 2 in
      ltb 0 ((get_or cal k 0 + 256 * get_or cal (k + 1) 0 + 65536 * (get_or cal (k + 2) 0 + 256 * get_or cal (k + 3) 0)) / 2 ^ (d % 16) / 4 % 32768)
      ≡ some_in (session cal) (d - 14) (d + 1)
  unfolding word
  four_bytes d h =
      let k : ℕ = d / 16 * 2 - 2 in
      let w = word_sessions cal bytes 4 k (d % 16 + 2) 15 (omega arith) in
      let a : 8 * k + (d % 16 + 2) ≡ d - 14 = omega arith in
      let b : d - 14 + 15 ≡ d + 1 = omega arith in
      let i : k + 1 + 1 ≡ k + 2 = omega arith in
      let j : k + 2 + 1 ≡ k + 3 = omega arith in
      let v : word cal k 4 ≡ get_or cal k 0 + 256 * get_or cal (k + 1) 0 + 65536 * (get_or cal (k + 2) 0 + 256 * get_or cal (k + 3) 0) = rw (i, j) (omega arith) in
      sym (rw (a, b, v, ← shr-shr _ (d % 16) 2) at w)

-- ---- the check's number: where the length and the last byte are right, the first month that lacks its session decides
pub months_decide : (cal : List ℕ) → length cal ≡ calendar_length → get_or cal 4565 0 < 32 → calendar_cause cal ≡ first_cause (cause (ltb (first_lacking cal) month_count) 13 ∷ [])
unfolding calendar_cause calendar_causes first_lacking
months_decide cal e t =
    passed (not (eqb (length cal) calendar_length)) 11 _ (ap not (eq-eqb (length cal) calendar_length e))
    ∙ passed (tail_set cal) 12 _ (tail_clear cal t)

-- ---- what the check's answer tells
pub check_tells : (cal : List ℕ) {checked : Checked} → checked ≡ check_of cal → checked.number ≡ calendar_cause cal
unfolding check_of
check_tells cal e = ap (λ r. r.number) e

-- ---- a calendar that passes
pub passes_of : (cal : List ℕ) → length cal ≡ calendar_length → get_or cal 4565 0 < 32 → month_count ≤ first_lacking cal → Passes cal
unfolding cause first_cause
passes_of cal e t h = rw (months_decide cal e t, le-ltb (first_lacking cal) month_count h)

pub passes-month : (cal : List ℕ) → Passes cal → (m : ℕ) → m < month_count → lacks cal m ≡ false
unfolding calendar_cause calendar_causes
passes-month cal h m l =
    let last = (none_of _ _ (none_of _ _ (none_of _ _ h).1).1).0 in
    let g = ltb-false (first_in (lacks cal) 0 month_count) month_count (not-cause (some_in (lacks cal) 0 month_count) 12 last) in
    first-before (lacks cal) 0 month_count m (omega arith) (omega arith)

-- ---- expiry dates
pub expiry-to : (cal : List ℕ) (m : ℕ) → expiry_of cal m ≤ third_friday m
unfolding expiry_of
expiry-to cal m = last_le (session cal) (third_friday m)

pub expiry-below : (cal : List ℕ) (m : ℕ) → m < month_count → expiry_of cal m < day_count
expiry-below cal m h = omega (arith, expiry-to cal m, third-friday-below m h)

module _ (cal : List ℕ) (passes : Passes cal) where
  -- the first session of a month's days up to its third Friday
  found : (m : ℕ) → m < month_count → first_in (session cal) (first_day m) (third_friday m + 1) < third_friday m + 1
  unfolding lacks
  found m h = ltb-true (first_in (session cal) (first_day m) (third_friday m + 1)) (third_friday m + 1) (not-false _ (passes-month cal passes m h))

  pub expiry-from : (m : ℕ) → m < month_count → first_day m ≤ expiry_of cal m
  unfolding expiry_of
  expiry-from m h =
      let k : ℕ = first_in (session cal) (first_day m) (third_friday m + 1) in
      let u = found m h in
      omega (arith, first-low (session cal) (first_day m) (third_friday m + 1), last_ge (session cal) (third_friday m) k (omega arith) (first_found (session cal) (first_day m) (third_friday m + 1) u))

  pub expiry-session : (m : ℕ) → m < month_count → session cal (expiry_of cal m) ≡ true
  unfolding expiry_of
  expiry-session m h =
      let u = found m h in
      last_found (session cal) (third_friday m) _ (omega arith) (first_found (session cal) (first_day m) (third_friday m + 1) u)

-- ---- the next session
pub next_later : (cal : List ℕ) (d : ℕ) → d < next_session cal d
unfolding next_session
next_later cal d = omega (arith, first-low (session cal) (d + 1) day_count)

-- it comes by every session after the day
pub next_by : (cal : List ℕ) (d e : ℕ) → d < e → session cal e ≡ true → next_session cal d ≤ e
unfolding next_session
next_by cal d e l s =
    by_le (first_in (session cal) (d + 1) day_count) e (λ k. k)
    (λ k. clash (session cal e) s (first-before (session cal) (d + 1) day_count e (omega arith) k))
