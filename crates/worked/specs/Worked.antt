-- Document 01, "Ladders worked through": the twelve starred lines as one table.
-- Assumes nothing.
use Rattle.std.specs.Prelude.{◌≡◌, true, false, cond, List, [], ◌∷◌, map, ℕ, ◌+◌, ◌≤◌, eqb, length, take, drop}
use Rattle.base.specs.Lists.{elem, least, greatest}
use Rattle.base.specs.declared.Tier.{Tier}
use Rattle.base.specs.declared.Tier.TheVariants.{N, M, F}
use Rattle.dates.specs.Months.{third_friday}
use Rattle.calendar.specs.Calendar.{Passes, session as has_session, expiry_of, next_session}
use Rattle.calendar.specs.Live.{first_live, live_months, tier_of}
use Rattle.grid.specs.Grid.{grid_of, nearest, required_low, required_high}
use Rattle.names.specs.Names.{name_of}
use Rattle.rules.specs.Rules.{Rules}
use Rattle.rules.specs.Rulebook.{rules}
use Rattle.calls.specs.declared.Call.{Call}
use Rattle.calls.specs.declared.Call.TheVariants.{Start, Session, Announce}
use Rattle.layout.specs.Rows.{Row, prices_of}
use Rattle.base.specs.Words.{at16}
use Rattle.layout.specs.Bytes.{body_of, all_zero}
use Rattle.layout.specs.Opening.{stands}
use Rattle.calls.specs.Answers.{number_at, after_at, listed_at}
use Rattle.history.specs.Claim.{empty_register, final_at, numbers_at}

-- the rows of a register's bytes
abbrev pub rows_read : List ℕ → List Row
rows_read bs = (body_of bs).rows

-- the rows of an origin
unfoldable pub of_origin : ℕ → List Row → List Row
of_origin o [] = []
of_origin o (r ∷ rs) = cond (eqb r.entry.origin o) (r ∷ of_origin o rs) (of_origin o rs)

-- how many rows some months have together
unfoldable pub together : List ℕ → List Row → ℕ
together [] rows = 0
together (m ∷ ms) rows = length (prices_of m rows) + together ms rows

-- how many prices, from which to which
abbrev pub Reach : Type 0
Reach = ℕ × ℕ × ℕ

unfoldable pub Reaches : List ℕ → Reach → Type 0
Reaches ps s = (length ps ≡ s.0) × (least ps ≡ s.1) × (greatest ps ≡ s.2)

-- under a calendar a month is live on a day, of a tier
unfoldable pub LiveAs : List ℕ → ℕ → ℕ → Tier → Type 0
LiveAs cal day m t = (elem m (live_months (first_live (expiry_of cal) day)) ≡ true) × (tier_of (first_live (expiry_of cal) day) m ≡ t)

-- of all causes only the close could stand against a start on a day: the calendar passes, the day has a session and its first live month
-- is at most 1,190
pub record CanStart (cal : List ℕ) (day : ℕ) : Type 0 where
  pub passes : Passes cal
  pub in_calendar : day ≤ 36524
  pub on-session : has_session cal day ≡ true
  pub first-month : first_live (expiry_of cal) day ≤ 1190

-- and against a session on a day: the bytes are a running register, in the layout and well formed, and the day is the next session day
-- after the one that it holds
pub record CanMove (cal bs : List ℕ) (day : ℕ) : Type 0 where
  pub passes : Passes cal
  pub size : length bs ≡ 11264
  pub not-empty : all_zero bs ≡ false
  pub well-formed : stands (rules cal) bs ≡ true
  pub next-session : day ≡ next_session cal (at16 bs 2)
  pub first-month : first_live (expiry_of cal) day ≤ 1190

-- what a line of the table states
pub data Line : Type 0 where
  -- a month's third Friday
  friday : ℕ → ℕ → Line
  -- a month, its third Friday without a session, and the session day before it on which it expires
  expires : ℕ → ℕ → ℕ → Line
  -- a tier, a close, and the nearest price
  near : Tier → ℕ → ℕ → Line
  -- a tier, a close, and the lowest and the highest price that it requires
  span : Tier → ℕ → ℕ → ℕ → Line
  -- the close of a start; the rows of the one month of tier N, of the two of tier M, of the three of tier F; what it tells as added
  starts : ℕ → ℕ → ℕ → ℕ → ℕ → Line
  -- a tier, the close of a start, and the ladder of each month of that tier
  lists : Tier → ℕ → Reach → Line
  -- a close, and the number that a start and a session with it return
  returns : ℕ → ℕ → Line
  -- a month's tiers on a day and on the next session day, the close of a start on the one, the prices announced, the close of the
  -- session on the other; the month's ladder before and after the session; an origin, and the month's rows that have it
  relists : Tier → Tier → ℕ → List ℕ → ℕ → Reach → Reach → ℕ → Reach → Line
  -- month, type, price, and the name's bytes
  name : ℕ → ℕ → ℕ → List ℕ → Line

unfoldable pub Holds : Line → Type 0
Holds (friday m d) = third_friday m ≡ d
Holds (expires m f d) = (cal : List ℕ) → has_session cal f ≡ false → has_session cal d ≡ true → expiry_of cal m ≡ d
Holds (near t c p) = nearest c (grid_of t) ≡ p
Holds (span t c lo hi) = (required_low t c ≡ lo) × (required_high t c ≡ hi)
-- wherever a start can be: what it answers; in the bytes after it the rows of the first live month, of the next two and of the last
-- three, their number, and that each has origin 5
Holds (starts c n m f a) = (cal : List ℕ) (day : ℕ) → CanStart cal day →
    let live : List ℕ = live_months (first_live (expiry_of cal) day) in
    let bs : List ℕ = after_at (rules cal) (Start day c) empty_register in
    (listed_at cal (Start day c) empty_register ≡ record { number = 0; added = a; removed = 0; rows = a })
    × (together (take 1 live) (rows_read bs) ≡ n)
    × (together (take 2 (drop 1 live)) (rows_read bs) ≡ m)
    × (together (drop 3 live) (rows_read bs) ≡ f)
    × (n + m + f ≡ a)
    × (at16 bs 4 ≡ a)
    × (length (of_origin 5 (rows_read bs)) ≡ a)
-- wherever a start can be, for every month of the tier: it is accepted, and the bytes after it have the month's ladder
Holds (lists t c ladder) = (cal : List ℕ) (day m : ℕ) → CanStart cal day → LiveAs cal day m t →
    (number_at (rules cal) (Start day c) empty_register ≡ 0)
    × Reaches (prices_of m (rows_read (after_at (rules cal) (Start day c) empty_register))) ladder
-- wherever a start can be, and wherever a session can be
Holds (returns c n) =
    ((cal : List ℕ) (day : ℕ) → CanStart cal day → number_at (rules cal) (Start day c) empty_register ≡ n)
    × ((cal bs : List ℕ) (day : ℕ) → CanMove cal bs day → number_at (rules cal) (Session day c) bs ≡ n)
-- wherever a start can be and a session after it, for every month live on both days: each call is accepted, and the bytes before and
-- after the session have the month's ladders
Holds (relists t u c ps d old new o some) = (cal : List ℕ) (day m : ℕ) → CanStart cal day →
    let later : ℕ = next_session cal day in
    first_live (expiry_of cal) later ≤ 1190 → LiveAs cal day m t → LiveAs cal later m u →
    let R : Rules = rules cal in
    let calls : List Call = Start day c ∷ map (Announce m) ps in
    let before : List ℕ = final_at R calls empty_register in
    let after : List ℕ = after_at R (Session later d) before in
    (all_zero (numbers_at R calls empty_register) ≡ true)
    × (number_at R (Session later d) before ≡ 0)
    × Reaches (prices_of m (rows_read before)) old
    × Reaches (prices_of m (rows_read after)) new
    × Reaches (prices_of m (of_origin o (rows_read after))) some
Holds (name m k p bytes) = name_of m k p ≡ bytes

-- each line of a list holds
unfoldable pub Each : List Line → Type 0
Each [] = Unit {0}
Each (l ∷ ls) = Holds l × Each ls

-- OW20, a letter, and six digits
abbrev pub series : ℕ → ℕ → ℕ → ℕ → ℕ → ℕ → ℕ → List ℕ
series letter a b c d e f = 79 ∷ 87 ∷ 50 ∷ 48 ∷ letter ∷ (48 + a) ∷ (48 + b) ∷ (48 + c) ∷ (48 + d) ∷ (48 + e) ∷ (48 + f) ∷ []

unfoldable pub table : List Line
table =
    -- 1. June 2026
    friday 317 9666
    -- 2. April 2025
    ∷ friday 303 9239
    ∷ expires 303 9239 9238
    -- 3. a start adds 33 + 34 + 27 = 94 rows
    ∷ near N 241337 2425 ∷ span N 241337 2025 2825
    ∷ near M 241337 2400 ∷ span M 241337 2000 2800
    ∷ near F 241337 2400 ∷ span F 241337 2000 2800
    ∷ lists N 241337 (33, 2025, 2825) ∷ lists M 241337 (17, 2000, 2800) ∷ lists F 241337 (9, 2000, 2800)
    ∷ starts 241337 33 34 27 94
    -- 4.
    ∷ span N 101000 840 1400 ∷ span M 101000 840 1400 ∷ span F 101000 840 1400
    -- 5.
    ∷ near N 47750 480 ∷ span N 47750 400 640
    -- 6.
    ∷ near F 97999 960 ∷ near F 98000 1000
    -- 7.
    ∷ span F 9000 20 180 ∷ lists F 9000 (9, 20, 180) ∷ returns 9000 0 ∷ returns 8999 21
    -- 8.
    ∷ span F 954999 9100 9900 ∷ lists F 954999 (9, 9100, 9900) ∷ returns 954999 0 ∷ returns 955000 21
    -- 9. moves from tier F to tier M with no wider close
    ∷ relists F M 241337 [] 241337 (9, 2000, 2800) (17, 2000, 2800) 2 (8, 2050, 2750)
    -- 10. a wider close
    ∷ relists M M 241337 [] 341337 (17, 2000, 2800) (37, 2000, 3800) 3 (20, 2850, 3800)
    -- 11. the same ladder, 3100 announced
    ∷ relists M M 241337 (3100 ∷ []) 241337 (17, 2000, 2800) (23, 2000, 3100) 4 (6, 2850, 3100)
    -- 12. L and X
    ∷ name 323 0 2400 (series 76 2 6 2 4 0 0)
    ∷ name 323 1 2400 (series 88 2 6 2 4 0 0)
    ∷ []
