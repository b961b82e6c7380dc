-- Document 02, C-11: the file of a register: "for each series whose first day is that day: the 11-byte name and the origin".
-- Assumes nothing.
use Rattle.std.specs.Prelude.{cond, List, [], ◌∷◌, ◌++◌, ℕ, eqb}
use Rattle.names.specs.Names.{name_of}
use Rattle.layout.specs.Rows.{Row}
use Rattle.layout.specs.Register.{Body}
use Rattle.fields.specs.Fields.{Field, series_field, file_of}
use Rattle.fields.specs.Arranged.{arranged}

-- the rows whose first day is a given one
unfoldable pub new_rows : ℕ → List Row → List Row
new_rows day [] = []
new_rows day (r ∷ rs) = cond (eqb r.entry.first day) (r ∷ new_rows day rs) (new_rows day rs)

-- the series of some rows, type 0 calls, 1 puts, each with its row's origin
unfoldable pub series_of : ℕ → List Row → List Field
series_of kind [] = []
series_of kind (r ∷ rs) = series_field (name_of r.month kind r.price) r.entry.origin ∷ series_of kind rs

-- the list of a register: call and put of each row whose first day is its day, arranged by name
unfoldable pub day_list : Body → List Field
day_list b = let new : List Row = new_rows b.at.day b.rows in arranged (series_of 0 new ++ series_of 1 new)

-- the file of a register
unfoldable pub day_file : Body → List ℕ
day_file b = file_of b.at.day (day_list b)
