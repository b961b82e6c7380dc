-- Files worked by computation: what is read, and which place is told.
-- Assumes nothing.
use mathlib.Core.Path.{◌≡◌, refl, ap}
use mathlib.Core.Bool.{Bool, true, false, cond, not, ◌&&◌, ◌||◌}
use mathlib.Core.List.{List, [], ◌∷◌, ◌++◌}
use Prim.Native.Nat.{ℕ, ◌<◌}
use lib.Dec.{eqb}
use lib.ListN.{take}
use borrow.Author.Tests.{eqb-true, not-false}
use Rattle.base.specs.Search.{first_from, some_in}
use Rattle.base.specs.Lists.{elem, within}
use Rattle.base.specs.Words.{at16}
use Rattle.base.proofs.SearchLaws.{none-at}
use Rattle.base.proofs.Tests.{by_bool, clash}
use Rattle.grid.specs.Grid.{up_by, band, grid_of}
use Rattle.names.specs.Names.{value_from, can_stand, price_read}
use Rattle.fields.specs.Fields.{series_field, name_in, below}
use Rattle.fields.specs.Reading.{tag_stands, content_size, field_size, content_stands, byte_stands, wrong, front_field, taken, behind, series_from, File, dated, faulty, of_day, file_read, is_faulty, place_in}

-- the field of day 9578, and that of a series
abbrev pub day : List ℕ
day = 1 ∷ 2 ∷ 0 ∷ 106 ∷ 37 ∷ []

abbrev pub series : List ℕ → ℕ → List ℕ
series name origin = 2 ∷ 12 ∷ 0 ∷ (name ++ (origin ∷ []))

-- OW20L262400, OW20X262400 and, off grid N, OW20L262401
abbrev pub call : List ℕ
call = 79 ∷ 87 ∷ 50 ∷ 48 ∷ 76 ∷ 50 ∷ 54 ∷ 50 ∷ 52 ∷ 48 ∷ 48 ∷ []

abbrev pub put : List ℕ
put = 79 ∷ 87 ∷ 50 ∷ 48 ∷ 88 ∷ 50 ∷ 54 ∷ 50 ∷ 52 ∷ 48 ∷ 48 ∷ []

abbrev pub off : List ℕ
off = 79 ∷ 87 ∷ 50 ∷ 48 ∷ 76 ∷ 50 ∷ 54 ∷ 50 ∷ 52 ∷ 48 ∷ 49 ∷ []

-- both, with origins 1 and 5
abbrev pub two-series : List ℕ
two-series = day ++ (series call 1 ++ series put 5)

-- some bytes, and what they read as
abbrev pub Line : Type 0
Line = List ℕ × File

unfoldable pub Each : List Line → Type 0
Each [] = Unit {0}
Each (l ∷ ls) = (file_read l.0 ≡ l.1) × Each ls

abbrev pub table : List Line
table =
    -- files of no series, of one and of two
    (day, dated 9578 [])
    ∷ (day ++ series call 1, dated 9578 (series_field call 1 ∷ []))
    ∷ (two-series, dated 9578 (series_field call 1 ∷ series_field put 5 ∷ []))
    -- nothing; a day of one byte; a day above 36,524; OX in place of OW
    ∷ ([], faulty 0)
    ∷ (1 ∷ 2 ∷ 0 ∷ 255 ∷ [], faulty 4)
    ∷ (1 ∷ 2 ∷ 0 ∷ 255 ∷ 255 ∷ [], faulty 3)
    ∷ (1 ∷ 2 ∷ 0 ∷ 0 ∷ 0 ∷ 2 ∷ 12 ∷ 0 ∷ 79 ∷ 88 ∷ [], faulty 9)
    -- a series first; a day of three bytes; a second day; a tag that is not known
    ∷ (series call 1, faulty 0)
    ∷ (1 ∷ 3 ∷ 0 ∷ 106 ∷ 37 ∷ [], faulty 1)
    ∷ (day ++ day, faulty 5)
    ∷ (day ++ (3 ∷ 12 ∷ 0 ∷ (call ++ (1 ∷ []))), faulty 5)
    -- length 13; length 268; the letter Y; a letter for the year's first digit
    ∷ (day ++ (2 ∷ 13 ∷ 0 ∷ (call ++ (1 ∷ []))), faulty 6)
    ∷ (day ++ (2 ∷ 12 ∷ 1 ∷ (call ++ (1 ∷ []))), faulty 7)
    ∷ (day ++ series (79 ∷ 87 ∷ 50 ∷ 48 ∷ 89 ∷ 50 ∷ 54 ∷ 50 ∷ 52 ∷ 48 ∷ 48 ∷ []) 1, faulty 12)
    ∷ (day ++ series (79 ∷ 87 ∷ 50 ∷ 48 ∷ 76 ∷ 65 ∷ 54 ∷ 50 ∷ 52 ∷ 48 ∷ 48 ∷ []) 1, faulty 13)
    -- a name twice; names that descend
    ∷ (day ++ (series call 1 ++ series call 5), faulty 23)
    ∷ (day ++ (series put 1 ++ series call 5), faulty 23)
    -- origin 9; a price off grid N; both; such a price where the bytes end before the origin
    ∷ (day ++ series call 9, faulty 19)
    ∷ (day ++ series off 1, faulty 8)
    ∷ (day ++ series off 9, faulty 19)
    ∷ (day ++ (2 ∷ 12 ∷ 0 ∷ off), faulty 19)
    ∷ []

-- a line before others
infixr 5 ◌&◌
◌&◌ : {A B : Type 0} → A → B → A × B
a & b = (a, b)

-- something else is told of the two series cut at q: behind the day and behind the first series they are a file, elsewhere their end is told
unfoldable amiss : ℕ → Bool
amiss q = let file : File = file_read (take q two-series) in not (elem q (5 ∷ 20 ∷ []) || (is_faulty file && eqb (place_in file) q))

computed : Each table × (some_in amiss 0 35 ≡ false)
unfolding Each amiss file_read is_faulty place_in wrong byte_stands tag_stands content_stands can_stand within field_size content_size first_from at16 series_from front_field taken name_in price_read value_from elem grid_of band up_by below behind of_day series_field
computed = (refl & refl & refl & refl & refl & refl & refl & refl & refl & refl & refl & refl & refl & refl & refl & refl & refl & refl & refl & refl & refl & tt, refl)

pub examples : Each table
examples = computed.0

-- ---- the file of two series, cut at each of its bytes
place-told : (file : File) (q : ℕ) → (is_faulty file && eqb (place_in file) q) ≡ true → file ≡ faulty q
unfolding is_faulty place_in
place-told (dated day fs) q e = clash false e refl
place-told (faulty place) q e = ap faulty (eqb-true place q e)

elsewhere : (q : ℕ) → q < 35 → eqb q 5 ≡ false → eqb q 20 ≡ false → file_read (take q two-series) ≡ faulty q
unfolding amiss elem
elsewhere q h a b =
    let file : File = file_read (take q two-series) in
    let e : (elem q (5 ∷ 20 ∷ []) || (is_faulty file && eqb (place_in file) q)) ≡ true = not-false _ (none-at amiss 35 computed.1 q h) in
    place-told file q (rw (a, b) at e)

pub cut : (q : ℕ) → q < 35 → file_read (take q two-series) ≡ cond (eqb q 5) (dated 9578 []) (cond (eqb q 20) (dated 9578 (series_field call 1 ∷ [])) (faulty q))
unfolding Each
cut q h =
    by_bool (eqb q 5)
    (λ a. let five : q ≡ 5 = eqb-true q 5 a in rw five examples.0)
    (λ a. rw a
    (by_bool (eqb q 20)
    (λ b. let twenty : q ≡ 20 = eqb-true q 20 b in rw twenty examples.1.0)
    (λ b. rw b (elsewhere q h a b))))
