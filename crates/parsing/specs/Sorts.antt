-- The two sorts of fields: the day's, which is the first, and a series'. Contracts of leaves cite this file.
-- Assumes nothing.
use Rattle.std.specs.Prelude.{Bool, true, false, ℕ}
use Rattle.parsing.specs.declared.Field.{Field}
use Rattle.parsing.specs.declared.Field.TheVariants.{Day, Series}

abbrev pub is_day : Field → Bool
is_day Day = true
is_day Series = false

abbrev pub tag_of : Field → ℕ
tag_of Day = 1
tag_of Series = 2

-- how many bytes of content it has
abbrev pub length_of : Field → ℕ
length_of Day = 2
length_of Series = 12
