-- Lines 3, 7 and 8: an accepted start's rows, counted over the tiers of the six live months.
-- Assumes nothing.
use mathlib.Core.Path.{◌≡◌, refl, sym, ap, ◌∙◌}
use mathlib.Core.Bool.{true}
use mathlib.Core.List.{List, [], ◌∷◌, map}
use Prim.Native.Nat.{ℕ, ◌+◌, ◌*◌}
use native.Mathlib.Omega.{arith}
use lib.Dec.{eqb}
use lib.ListN.{length, drop, length-append}
use Rattle.base.specs.Lists.{select, within}
use Rattle.base.specs.Causes.{cause}
use Rattle.base.specs.declared.Tier.{Tier}
use Rattle.base.specs.declared.Tier.TheVariants.{N, M, F}
use Rattle.base.proofs.Tests.{eqb_self}
use Rattle.base.proofs.ListLaws.{select_all}
use Rattle.calendar.specs.Live.{first_live, next_quarter, live_months, tier_of}
use Rattle.calendar.proofs.LiveLaws.{quarter_is, tier_n, tier_m, tier_f, live_tiers}
use Rattle.grid.specs.Grid.{grid_of, required_low, required_high, close_taken}
use Rattle.rules.specs.Rulebook as Rulebook
use Rattle.rules.specs.Rulebook.{first_at, tier_at, rules, expiry_at}
use Rattle.calls.specs.declared.Call.TheVariants.{Start}
use Rattle.layout.specs.Rows.{Entry, new_entry, Row, ladder, rows_of, prices_of}
use Rattle.layout.specs.Register.{Body, empty, running, listed}
use Rattle.layout.specs.Bytes.{rows_from, body_of, moment_of}
use Rattle.base.specs.Words.{at16}
use Rattle.layout.proofs.RowLaws.{rows_of_same, ladder-length}
use Rattle.layout.proofs.Held.{live_apart}
use Rattle.layout.proofs.ByteLaws.{rows-count}
use Rattle.calls.specs.Listing.{start_body, accepted}
use Rattle.calls.specs.Answers.{rows_held, count, number_at, after_at, added, removed, listed_at}
use Rattle.calls.proofs.CountLaws.{on, count-append}
use Rattle.history.specs.Claim.{empty_register}
use Rattle.calendar.proofs.LiveLaws.{live-near, live_far}
use Rattle.history.proofs.Written.{Written, empty-written, written_read, written_after, written_body}
use Rattle.worked.specs.Worked.{rows_read, of_origin, together, Reach, Reaches, LiveAs, CanStart, starts, lists, Holds}
use Rattle.worked.proofs.Returns.{start-returns}
use Rattle.worked.proofs.Months.{month_prices, origin-rows}
use Rattle.calendar.specs.Calendar.{expiry_of}

-- a tier's prices that a start at a close lists
abbrev pub start_prices : ℕ → Tier → List ℕ
start_prices c t = select (within (required_low t c) (required_high t c)) (grid_of t)

-- how many prices some tiers have
unfoldable pub sizes : (Tier → List ℕ) → List Tier → ℕ
sizes H [] = 0
sizes H (t ∷ ts) = length (H t) + sizes H ts

rows-length : (H : Tier → List ℕ) (T : ℕ → Tier) (e : ℕ → ℕ → Entry) (L : List ℕ) → length (rows_of L (λ m. H (T m)) e) ≡ sizes H (map T L)
unfolding rows_of sizes
rows-length H T e [] = refl
rows-length H T e (m ∷ ms) =
    length-append (ladder m (e m) (H (T m))) (rows_of ms (λ m. H (T m)) e)
    ∙ rw (ladder-length m (e m) (H (T m)), rows-length H T e ms)

-- rows of one first day are all added on it
module _ (d o : ℕ) where
  ladder_new : (m : ℕ) (ps : List ℕ) → count (on d) (ladder m (λ p. new_entry d o) ps) ≡ length (ladder m (λ p. new_entry d o) ps)
  unfolding count ladder
  ladder_new m [] = refl
  ladder_new m (p ∷ ps) = rw (eqb_self d, ladder_new m ps)

  rows_new : (L : List ℕ) (G : ℕ → List ℕ) → count (on d) (rows_of L G (λ m p. new_entry d o)) ≡ length (rows_of L G (λ m p. new_entry d o))
  unfolding count rows_of
  rows_new [] G = refl
  rows_new (m ∷ ms) G =
      let l : List Row = ladder m (λ p. new_entry d o) (G m) in
      let r : List Row = rows_of ms G (λ m p. new_entry d o) in
      count-append (on d) l r ∙ rw (ladder_new m (G m), rows_new ms G, length-append l r)

-- the rows of a start
abbrev pub begun : List ℕ → ℕ → ℕ → List Row
begun cal day c = (start_body (rules cal) ((rules cal).begin day) c).rows

pub start-prices : (cal : List ℕ) (day c m : ℕ) (t : Tier) → LiveAs cal day m t → prices_of m (begun cal day c) ≡ start_prices c t
unfolding LiveAs start_body rules Rulebook.begun Rulebook.moved first_at expiry_at tier_at listed
start-prices cal day c m t live =
    let f : ℕ = first_live (expiry_of cal) day in
    month_prices m _ (λ m p. new_entry day 5) (live_months f) (live_apart f) live.0 ∙ rw live.1

-- the six live months' tiers, whatever the calendar and the day
abbrev pub six : List Tier
six = N ∷ M ∷ M ∷ F ∷ F ∷ F ∷ []

module _ (cal : List ℕ) (day c : ℕ) where
  start-size : length (begun cal day c) ≡ sizes (start_prices c) six
  unfolding start_body rules Rulebook.begun Rulebook.moved first_at expiry_at tier_at listed
  start-size =
      let f : ℕ = first_live (expiry_of cal) day in
      rows-length (start_prices c) (tier_of f) (λ m p. new_entry day 5) (live_months f) ∙ rw (live_tiers f)

  start_new : added (running (start_body (rules cal) ((rules cal).begin day) c)) ≡ sizes (start_prices c) six
  unfolding added start_body rules Rulebook.begun Rulebook.moved
  start_new = rows_new day 5 _ _ ∙ start-size

  -- each row has origin 5
  start-origin : of_origin 5 (begun cal day c) ≡ begun cal day c
  unfolding start_body rules Rulebook.begun
  start-origin =
      origin-rows 5 ((rules cal).live ((rules cal).begin day)) _ (λ m p. new_entry day 5)
      ∙ rows_of_same ((rules cal).live ((rules cal).begin day)) _ _ (λ m p. new_entry day 5) (λ m p. new_entry day 5)
      (λ m l. select_all (λ p. eqb 5 5) _ (λ p e. refl)) (λ m p l e. refl)

  -- ---- at the bytes, wherever a start can be
  module _ (can : CanStart cal day) (ok : close_taken c ≡ true) where
    pub start-taken : number_at (rules cal) (Start day c) empty_register ≡ 0
    unfolding cause
    start-taken = start-returns cal day c can ∙ rw ok

    abbrev bs : List ℕ
    bs = after_at (rules cal) (Start day c) empty_register

    pub start-written : Written cal bs (running (start_body (rules cal) ((rules cal).begin day) c))
    unfolding accepted rules
    start-written = written_after cal empty_register empty (empty-written cal) (Start day c) start-taken

    pub start_read : rows_read bs ≡ begun cal day c
    start_read = ap (λ (b : Body). b.rows) (written_body cal bs (start_body (rules cal) ((rules cal).begin day) c) start-written)

    start-answer : listed_at cal (Start day c) empty_register
        ≡ record { number = 0; added = sizes (start_prices c) six; removed = 0; rows = sizes (start_prices c) six }
    unfolding listed_at accepted rows_held removed count rules
    start-answer =
        rw (start-taken, written_read cal empty_register empty (empty-written cal))
        (λ i. record { number = 0; added = start_new i; removed = 0; rows = start-size i })

    start-count : at16 bs 4 ≡ sizes (start_prices c) six
    unfolding body_of moment_of
    start-count = sym (rows-count (at16 bs 4) (drop rows_from bs)) ∙ ap length start_read ∙ start-size

    start_five : length (of_origin 5 (rows_read bs)) ≡ sizes (start_prices c) six
    start_five = rw (start_read, start-origin) start-size

-- the first live month is of tier N, the next two of tier M, the last three of tier F
module _ (cal : List ℕ) (day : ℕ) where
  abbrev f : ℕ
  f = first_live (expiry_of cal) day

  abbrev q : ℕ
  q = next_quarter f

  live_as : LiveAs cal day f N × LiveAs cal day (f + 1) M × LiveAs cal day (f + 2) M × LiveAs cal day q F × LiveAs cal day (q + 3) F × LiveAs cal day (q + 6) F
  unfolding LiveAs
  live_as =
      let e = quarter_is f in (
        (live-near f f (omega arith) (omega arith), tier_n f f (omega arith)),
        (live-near f (f + 1) (omega arith) (omega arith), tier_m f (f + 1) (omega arith) (omega arith)),
        (live-near f (f + 2) (omega arith) (omega arith), tier_m f (f + 2) (omega arith) (omega arith)),
        (live_far f q (omega arith) (omega arith) (omega arith), tier_f f q (omega arith)),
        (live_far f (q + 3) (omega arith) (omega arith) (omega arith), tier_f f (q + 3) (omega arith)),
        (live_far f (q + 6) (omega arith) (omega arith) (omega arith), tier_f f (q + 6) (omega arith)),
      )

-- so a line that holds of the tiers holds
pub lists_by : (t : Tier) (c : ℕ) (ladder : Reach) → close_taken c ≡ true → Reaches (start_prices c t) ladder → Holds (lists t c ladder)
unfolding Holds
lists_by t c ladder ok e cal day m can live =
    (start-taken cal day c can ok, rw (start_read cal day c can ok, start-prices cal day c m t live) e)

pub starts_by : (c n m f a : ℕ) → close_taken c ≡ true → length (start_prices c N) ≡ n → 2 * length (start_prices c M) ≡ m → 3 * length (start_prices c F) ≡ f
    → n + m + f ≡ a → sizes (start_prices c) six ≡ a → Holds (starts c n m f a)
unfolding Holds together live_months
starts_by c n m f a ok en em ef ea e cal day can =
    let read = start_read cal day c can ok in
    let l = live_as cal day in (
      start-answer cal day c can ok ∙ rw e,
      rw (read, start-prices cal day c _ N l.0) (omega arith),
      rw (read, start-prices cal day c _ M l.1, start-prices cal day c _ M l.2) (omega arith),
      rw (read, start-prices cal day c _ F l.3, start-prices cal day c _ F l.4, start-prices cal day c _ F l.5) (omega arith),
      ea,
      start-count cal day c can ok ∙ e,
      start_five cal day c can ok ∙ e,
    )
