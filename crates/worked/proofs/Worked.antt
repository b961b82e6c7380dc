-- Every line of the table of worked examples holds: by computation, after the laws that take what is said of every calendar to the tiers.
-- Assumes nothing.
use mathlib.Core.Path.{◌≡◌, refl, ◌∙◌}
use mathlib.Core.Bool.{true, false}
use mathlib.Core.List.{List, [], ◌∷◌}
use Prim.Native.Nat.{ℕ}
use lib.Dec.{lit<}
use Rattle.base.specs.Search.{first_from}
use Rattle.base.specs.Causes.{cause}
use Rattle.base.specs.Lists.{elem, select, least_of, greatest_of, least, greatest, within}
use Rattle.base.specs.declared.Tier.TheVariants.{N, M, F}
use Rattle.base.proofs.SearchLaws.{last_hit, last_miss}
use Rattle.dates.specs.Months.{friday, month_days, first_day, third_friday}
use Rattle.calendar.specs.Calendar.{session, expiry_of}
use Rattle.grid.specs.Grid.{up_by, band, grid_of, distance, nearest_from, nearest, next_higher, next_lower, neighbours, required, required_low, required_high, close_taken}
use Rattle.names.specs.Names.{digits, letter, name_of}
use Rattle.worked.specs.Worked.{Reaches, Holds, Each, table}
use Rattle.worked.proofs.Returns.{returns_by}
use Rattle.worked.proofs.Starts.{sizes, lists_by, starts_by}
use Rattle.worked.proofs.Relists.{low, high, prices, origin, announceable, relists_by}

-- line 2 for any calendar: the search passes the third Friday and finds the day before
third-friday_303 : third_friday 303 ≡ 9239
unfolding third_friday first_day month_days friday first_from
third-friday_303 = refl

expires_303 : (cal : List ℕ) → session cal 9239 ≡ false → session cal 9238 ≡ true → expiry_of cal 303 ≡ 9238
unfolding expiry_of
expires_303 cal missing held =
    rw third-friday_303 (last_miss (session cal) 9239 (lit< tt) missing ∙ last_hit (session cal) 9238 held)

-- a line before others
infixr 5 ◌&◌
pub ◌&◌ : {A B : Type 0} → A → B → A × B
a & b = (a, b)

pub worked : Each table
unfolding Each Holds table third_friday first_day month_days friday first_from grid_of band up_by distance nearest_from nearest next_higher next_lower neighbours required required_low required_high close_taken select least_of greatest_of least greatest within digits letter name_of elem sizes Reaches low high prices origin announceable cause
worked =
    refl
    & refl & expires_303
    & refl & (refl, refl)
    & refl & (refl, refl)
    & refl & (refl, refl)
    & lists_by N 241337 _ refl (refl, refl, refl) & lists_by M 241337 _ refl (refl, refl, refl) & lists_by F 241337 _ refl (refl, refl, refl)
    & starts_by 241337 _ _ _ _ refl refl refl refl refl refl
    & (refl, refl) & (refl, refl) & (refl, refl)
    & refl & (refl, refl)
    & refl & refl
    & (refl, refl) & lists_by F 9000 _ refl (refl, refl, refl) & returns_by 9000 _ refl & returns_by 8999 _ refl
    & (refl, refl) & lists_by F 954999 _ refl (refl, refl, refl) & returns_by 954999 _ refl & returns_by 955000 _ refl
    & relists_by F M 241337 [] 241337 _ _ _ _ refl refl refl (refl, refl, refl) (refl, refl, refl) (refl, refl, refl)
    & relists_by M M 241337 [] 341337 _ _ _ _ refl refl refl (refl, refl, refl) (refl, refl, refl) (refl, refl, refl)
    & relists_by M M 241337 (3100 ∷ []) 241337 _ _ _ _ refl refl refl (refl, refl, refl) (refl, refl, refl) (refl, refl, refl)
    & refl & refl & tt
