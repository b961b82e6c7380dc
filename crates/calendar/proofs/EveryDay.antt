-- A calendar that passes: each of the days 0 to 36,524 has a session. It shows that what is said of every calendar that passes is said of one.
-- Assumes nothing.
use mathlib.Core.Path.{◌≡◌, refl, ap, ◌∙◌}
use mathlib.Core.Bool.{true}
use mathlib.Core.List.{List, [], ◌∷◌, ◌++◌}
use Prim.Native.Nat.{ℕ, zero, suc, ◌+◌, ◌/◌, ◌%◌, ◌^◌, ◌≤◌, ◌<◌}
use native.Mathlib.Omega.{arith}
use lib.Dec.{eqb, lit<}
use lib.ListN.{length, get_or, replicate, length-append, length-replicate, get_or-replicate, get_or-append, get_or-eq_default}
use lib.Seq.{get_or_at}
use Rattle.base.specs.Lists.{least_of}
use Rattle.base.specs.Causes.{cause, first_cause}
use Rattle.base.proofs.Tests.{by_le}
use Rattle.base.proofs.SearchLaws.{first_hit, last_hit}
use Rattle.dates.specs.Months.{month_count, day_count, first_day, third_friday}
use Rattle.dates.proofs.MonthLaws.{third-friday-before, third-friday-below, month_of_is}
use Rattle.calendar.specs.Calendar.{Passes, session, expiry_of, next_session}
use Rattle.calendar.specs.Live.{first_live}
use Rattle.calendar.proofs.CalendarLaws.{no_zero_byte, months_decide}
use Rattle.calendar.proofs.LiveLaws.{calendar-dated, live_now, live-next}

-- ---- some bytes with all eight bits, and a last one with five
unfoldable pub days_of : ℕ → List ℕ
days_of n = replicate n 255 ++ (31 ∷ [])

module _ (n : ℕ) where
  days-length : length (days_of n) ≡ n + 1
  unfolding days_of
  days-length = length-append (replicate n 255) (31 ∷ []) ∙ ap (λ (k : ℕ). k + 1) (length-replicate n 255)

  full_byte : (i : ℕ) → i < n → get_or (days_of n) i 0 ≡ 255
  unfolding days_of
  full_byte i h = get_or-append (replicate n 255) (31 ∷ []) 0 i (rw length-replicate h) ∙ get_or-replicate n i 255 0 h

  last_byte : get_or (days_of n) n 0 ≡ 31
  unfolding days_of
  last_byte = get_or_at (replicate n 255) 31 [] 0 n (length-replicate n 255)

  days_bytes : (i : ℕ) → get_or (days_of n) i 0 < 256
  days_bytes i =
      by_le n i
      (λ l. by_le i n
      (λ u. let e : i ≡ n = omega arith in rw (e, last_byte) (lit< tt))
      (λ u. rw (get_or-eq_default (days_of n) 0 {n = i} (omega (arith, days-length))) (lit< tt)))
      (λ l. rw (full_byte i l) (lit< tt))

days-least : (n : ℕ) → 0 < least_of 255 (days_of n)
unfolding least_of days_of
days-least zero = lit< tt
days-least (suc n) = let h = days-least n in omega arith

-- ---- the calendar: 36,525 days are 4,565 bytes and five bits
abbrev pub every_day : List ℕ
every_day = days_of 4565

pub every-day-passes : Passes every_day
unfolding cause first_cause
every-day-passes =
    months_decide every_day (days-length 4565) (rw (last_byte 4565) (lit< tt))
    ∙ rw (no_zero_byte every_day (days_bytes 4565) (days-length 4565) (days-least 4565))

-- the bits of 255, and the lowest five
eight : (k : ℕ) → k < 8 → eqb (255 / 2 ^ k % 2) 1 ≡ true
eight zero h = refl
eight (suc zero) h = refl
eight (suc (suc zero)) h = refl
eight (suc (suc (suc zero))) h = refl
eight (suc (suc (suc (suc zero)))) h = refl
eight (suc (suc (suc (suc (suc zero))))) h = refl
eight (suc (suc (suc (suc (suc (suc zero)))))) h = refl
eight (suc (suc (suc (suc (suc (suc (suc zero))))))) h = refl
eight (suc (suc (suc (suc (suc (suc (suc (suc k)))))))) h = absurd (omega arith)

five : (k : ℕ) → k < 5 → eqb (31 / 2 ^ k % 2) 1 ≡ true
five zero h = refl
five (suc zero) h = refl
five (suc (suc zero)) h = refl
five (suc (suc (suc zero))) h = refl
five (suc (suc (suc (suc zero)))) h = refl
five (suc (suc (suc (suc (suc k))))) h = absurd (omega arith)

pub every-day-session : (d : ℕ) → d ≤ 36524 → session every_day d ≡ true
unfolding session
every-day-session d h =
    by_le 4565 (d / 8)
    (λ l. let e : d / 8 ≡ 4565 = omega arith in rw (e, last_byte 4565) (five (d % 8) (omega arith)))
    (λ l. rw (full_byte 4565 (d / 8) l) (eight (d % 8) (omega arith)))

-- a month expires on its third Friday, and the next session is the next day
pub every-day-expiry : (m : ℕ) → m < month_count → expiry_of every_day m ≡ third_friday m
unfolding expiry_of
every-day-expiry m h = last_hit (session every_day) (third_friday m) (every-day-session (third_friday m) (omega (arith, third-friday-below m h)))

pub every-day-next : (d : ℕ) → d < 36524 → next_session every_day d ≡ d + 1
unfolding next_session
every-day-next d h = first_hit (session every_day) (d + 1) day_count (omega arith) (every-day-session (d + 1) (omega arith))

-- the first live month is the day's own up to its third Friday, then the next
module _ (d m : ℕ) (l : m < month_count) (from : first_day m ≤ d) where
  pub every-day-first : d ≤ third_friday m → first_live (expiry_of every_day) d ≡ m
  every-day-first h =
      let b = third-friday-before m in
      let k = third-friday-below m l in
      let e = month_of_is d m (record { from = from; before = omega arith }) l in
      live_now (expiry_of every_day) (calendar-dated every_day every-day-passes) d (omega arith) (rw (e, every-day-expiry m l) h) ∙ e

  pub every-day_later : third_friday m < d → d < first_day (m + 1) → d < day_count → first_live (expiry_of every_day) d ≡ m + 1
  every-day_later h b u =
      let e = month_of_is d m (record { from = from; before = b }) l in
      live-next (expiry_of every_day) (calendar-dated every_day every-day-passes) d u (rw (e, every-day-expiry m l) h) ∙ ap (λ (k : ℕ). k + 1) e
