-- Document 01, "The history of demand 3", its last paragraph: what holds after any list of calls.
-- Assumes nothing.
use Rattle.std.specs.Prelude.{◌≡◌, Bool, true, ◌&&◌, ◌||◌, List, [], ◌∷◌, map, ℕ, ◌≤◌, eqb, ltb, length, drop, replicate}
use Rattle.std.proofs.Math.Option.{Option, none, some}
use Rattle.base.specs.Lists.{elem}
use Rattle.rules.specs.Rules.{Moment, Rules}
use Rattle.calls.specs.declared.Call.{Call}
use Rattle.layout.specs.Rows.{Row}
use Rattle.layout.specs.Bytes.{register_length, most_rows, rows_from, read_rows}
use Rattle.base.specs.Words.{at16}
use Rattle.calls.specs.Answers.{number_at, after_at}
use Rattle.history.specs.History.{History, between, rows_told}

-- the empty register, from which every list of calls begins
abbrev pub empty_register : List ℕ
empty_register = replicate register_length 0

-- ---- a list of calls: each finds the register as the call before left it, refused or not

module _ (R : Rules) where
  -- the register after the list
  unfoldable pub final_at : List Call → List ℕ → List ℕ
  final_at [] bs = bs
  final_at (k ∷ ks) bs = final_at ks (after_at R k bs)

  -- the numbers returned
  unfoldable pub numbers_at : List Call → List ℕ → List ℕ
  numbers_at [] bs = []
  numbers_at (k ∷ ks) bs = number_at R k bs ∷ numbers_at ks (after_at R k bs)

-- ---- the claim

-- a row's month, price and first day
unfoldable pub row_told : Row → ℕ × ℕ × ℕ
row_told r = (r.month, r.price, r.entry.first)

-- the rows of a register's bytes, without origins
unfoldable pub rows_standing : List ℕ → List (ℕ × ℕ × ℕ)
rows_standing bs = map row_told (read_rows (at16 bs 4) (drop rows_from bs))

-- ascending by month, then price, behind a month and a price
unfoldable pub ascend_from : ℕ → ℕ → List (ℕ × ℕ × ℕ) → Bool
ascend_from m p [] = true
ascend_from m p (e ∷ es) = (ltb m e.0 || (eqb m e.0 && ltb p e.1)) && ascend_from e.0 e.1 es

unfoldable pub ascending : List (ℕ × ℕ × ℕ) → Bool
ascending [] = true
ascending (e ∷ es) = ascend_from e.0 e.1 es

-- bytes 2–3 hold the day; the rows are exactly those that the history tells, each of which has a first day, ascending by month,
-- then price; bytes 4–5 hold their number, at most 1,391
pub record HoldsDay (R : Rules) (h : History) (x : Moment) (bs : List ℕ) : Type 0 where
  pub day : at16 bs 2 ≡ x.day
  pub rows : rows_standing bs ≡ rows_told R h x
  pub dated : (m p : ℕ) → elem m (R.live x) ≡ true → elem p (between R x h.low h.high m) ≡ true → (d : ℕ) × (h.first m p ≡ some d)
  pub ascend : ascending (rows_standing bs) ≡ true
  pub count : at16 bs 4 ≡ length (rows_told R h x)
  pub most : at16 bs 4 ≤ most_rows

-- if the day is none, the register is all zero
abbrev pub ClaimAt : Rules → History → Option Moment → List ℕ → Type 0
ClaimAt R h none bs = bs ≡ empty_register
ClaimAt R h (some x) bs = HoldsDay R h x bs

abbrev pub Claim : Rules → History → List ℕ → Type 0
Claim R h bs = ClaimAt R h h.at bs
