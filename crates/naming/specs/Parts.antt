-- The parts in which a file is written: the later year's rows, then the earlier year's, for calls and then for puts. Contracts of
-- leaves cite this file.
-- Assumes nothing.
use Rattle.std.specs.Prelude.{List, ◌++◌, ℕ, leb}
use Rattle.std.specs.List.{position_or_len}
use Rattle.layout.specs.Rows.{Row}
use Rattle.fields.specs.Fields.{Field}
use Rattle.naming.specs.DayFile.{new_rows, series_of}

-- how many of some rows stand before the first of a month or a later one
abbrev pub before : ℕ → List Row → ℕ
before month rs = position_or_len (λ (r : Row). leb month r.month) rs

-- the sequence of the series
unfoldable pub sequence : ℕ → List Row → List Row → List Field
sequence day earlier later =
    series_of 0 (new_rows day later)
    ++ (series_of 0 (new_rows day earlier)
    ++ (series_of 1 (new_rows day later)
    ++ series_of 1 (new_rows day earlier)))
