-- From a moment to the next session under a calendar that passes: the first live month stays or moves on by one, and a month expires by the
-- moment's day exactly where it is before the next session's first live month.
-- Assumes nothing.
use mathlib.Core.Path.{◌≡◌, refl, sym}
use mathlib.Core.List.{List}
use Prim.Native.Nat.{ℕ, ◌+◌, ◌≤◌, ◌<◌}
use native.Mathlib.Omega.{arith}
use lib.Dec.{leb, ltb}
use borrow.Author.Tests.{le-leb, lt-leb, lt-ltb, le-ltb}
use Rattle.base.proofs.Tests.{by_le}
use Rattle.dates.specs.Months.{month_count}
use Rattle.calendar.specs.Calendar.{Passes, next_session}
use Rattle.calendar.specs.Live.{first_live}
use Rattle.calendar.proofs.CalendarLaws.{expiry-session, next_later, next_by}
use Rattle.calendar.proofs.LiveLaws.{Dated, dates-ascend, calendar-dated, live-unexpired, live-first}
use Rattle.rules.specs.Rules.{Moment, next, last_first_month}
use Rattle.rules.specs.Rulebook.{moved, expiry_at, first_at, rules}

module _ (cal : List ℕ) (p : Passes cal) (x : Moment) where
  abbrev E : ℕ → ℕ
  E = expiry_at cal x

  dated : Dated E
  unfolding expiry_at
  dated = calendar-dated cal p

  -- no session lies between the day and the next, so the next comes by every expiry date after the day
  next_comes : (m : ℕ) → m < month_count → x.day < E m → next_session cal x.day ≤ E m
  unfolding expiry_at
  next_comes m h l = next_by cal x.day (E m) l (expiry-session cal p m h)

  next-first : first_at cal (next (rules cal) x) ≡ first_live E (next_session cal x.day)
  unfolding rules moved first_at expiry_at
  next-first = refl

  pub expired-next : (m : ℕ) → m < month_count → leb (E m) x.day ≡ ltb m (first_at cal (next (rules cal) x))
  expired-next m h =
      let nd : ℕ = next_session cal x.day in
      let f : ℕ = first_live E nd in
      rw next-first
      (by_le (E m) x.day
      (λ l. rw (le-leb (E m) x.day l)
      (sym (lt-ltb m f
      (by_le f m
      (λ k.
      let later = next_later cal x.day in
      let u = live-unexpired E nd (omega arith) in
      by_le m f
      (λ e. let q : f ≡ m = omega arith in let v : nd ≤ E m = rw q at u in absurd (omega arith))
      (λ e. let v = dates-ascend E dated f m e h in absurd (omega arith)))
      (λ k. k)))))
      (λ l. rw (lt-leb (E m) x.day l) (sym (le-ltb m f (live-first E nd m (next_comes m h l))))))

  pub moves_by_one : first_at cal x ≤ last_first_month → first_at cal (next (rules cal) x) ≤ first_at cal x + 1
  unfolding first_at
  moves_by_one h =
      let f : ℕ = first_at cal x in
      let u = live-unexpired E x.day (omega arith) in
      let v = dates-ascend E dated f (f + 1) (omega arith) (omega arith) in
      rw next-first (live-first E (next_session cal x.day) (f + 1) (next_comes (f + 1) (omega arith) (omega arith)))
