-- Document 01, "Calls", Name: the 11 bytes of a series, written and read, with the causes 27 to 29.
-- Assumes nothing.
use Rattle.std.specs.Prelude.{Bool, cond, not, ◌||◌, List, [], ◌∷◌, ◌++◌, ℕ, zero, suc, ◌+◌, ◌-◌, ◌*◌, ◌/◌, ◌%◌, eqb, ltb, length, get_or, take, drop, Result, Ok, Err}
use Rattle.base.specs.Search.{first_in, some_in}
use Rattle.base.specs.Lists.{elem, within}
use Rattle.base.specs.Causes.{cause, first_cause}
use Rattle.base.specs.declared.Tier.TheVariants.{N}
use Rattle.dates.specs.Months.{month_count}
use Rattle.grid.specs.Grid.{grid_of}
use Rattle.base.specs.Numbers.{number_of}
use Rattle.base.specs.declared.causes.Cause.{Cause}
use Rattle.base.specs.declared.causes.Cause.TheVariants.{NameByte}
use Rattle.names.specs.declared.Series.{Series}
use Rattle.names.specs.declared.Named.{Named}
use Rattle.names.specs.Kinds.{kind_number}

abbrev pub name_length : ℕ
name_length = 11

-- ---- written: `O`, `W20`, month letter, two year digits, four price digits, with leading zeros

-- the n last decimal digits of v, in ASCII
unfoldable pub digits : ℕ → ℕ → List ℕ
digits zero v = []
digits (suc n) v = digits n (v / 10) ++ ((48 + v % 10) ∷ [])

-- letters A to L are calls of January to December, M to X puts; type 0 is a call, 1 a put
unfoldable pub letter : ℕ → ℕ → ℕ
letter month kind = 65 + 12 * kind + month % 12

-- OW20
abbrev pub prefix : List ℕ
prefix = 79 ∷ 87 ∷ 50 ∷ 48 ∷ []

unfoldable pub name_of : ℕ → ℕ → ℕ → List ℕ
name_of month kind price = prefix ++ (letter month kind ∷ (digits 2 (month / 12) ++ digits 4 price))

-- no series: month above 1,199, type above 1, price not on grid N
unfoldable pub no_series : ℕ → ℕ → ℕ → Bool
no_series month kind price = not (ltb month month_count) || (ltb 1 kind || not (elem price (grid_of N)))

unfoldable pub write_cause : List ℕ → ℕ → ℕ → ℕ → ℕ
write_cause buffer month kind price =
    first_cause (cause (not (eqb (length buffer) name_length)) 27 ∷ cause (no_series month kind price) 28 ∷ [])

-- the buffer after a write: the name, or what it was
unfoldable pub written : List ℕ → ℕ → ℕ → ℕ → List ℕ
written buffer month kind price =
    cond (eqb (write_cause buffer month kind price) 0) (name_of month kind price) buffer

-- ---- read

-- the value of decimal digits in ASCII, behind a value v
unfoldable pub value_from : ℕ → List ℕ → ℕ
value_from v [] = v
value_from v (b ∷ bs) = value_from (10 * v + (b - 48)) bs

-- byte b can stand at place i: the prefix, a letter from A to X, six digits
unfoldable pub can_stand : ℕ → ℕ → Bool
can_stand i b =
    cond (ltb i 4) (eqb b (get_or prefix i 0)) (cond (eqb i 4) (within 65 88 b) (within 48 57 b))

-- place i of a name has a byte that cannot stand there
unfoldable pub misplaced : List ℕ → ℕ → Bool
misplaced name i = not (can_stand i (get_or name i 0))

-- the month, the type and the price of which the bytes tell
unfoldable pub month_read : List ℕ → ℕ
month_read name = 12 * value_from 0 (take 2 (drop 5 name)) + (get_or name 4 0 - 65) % 12

unfoldable pub kind_read : List ℕ → ℕ
kind_read name = (get_or name 4 0 - 65) / 12

unfoldable pub price_read : List ℕ → ℕ
price_read name = value_from 0 (take 4 (drop 7 name))

unfoldable pub read_cause : List ℕ → ℕ
read_cause name =
    first_cause
    (cause (not (eqb (length name) name_length)) 27
    ∷ cause (some_in (misplaced name) 0 name_length) 29
    ∷ cause (no_series (month_read name) (kind_read name) (price_read name)) 28
    ∷ [])

-- what a number has beside it: 0 the series, 29 the first misplaced byte's place, any other zeros
unfoldable pub read_of : List ℕ → Series
read_of name =
    let n : ℕ = read_cause name in
    let accepted : Bool = eqb n 0 in
    record {
      number = n;
      month = cond accepted (month_read name) (cond (eqb n 29) (first_in (misplaced name) 0 name_length) 0);
      kind = cond accepted (kind_read name) 0;
      price = cond accepted (price_read name) 0;
    }

-- what a number has beside it, of a result: the series, or the place that 29 names
abbrev pub place_told : Cause → ℕ
place_told (NameByte place) = place
place_told _ = 0

abbrev pub series_of : Result Named Cause → Series
series_of (Ok named) = record { number = 0; month = named.month; kind = kind_number named.kind; price = named.price }
series_of (Err c) = record { number = number_of c; month = place_told c; kind = 0; price = 0 }
