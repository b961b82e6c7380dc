-- Document 02, C-11: "Names ascend by byte value": a list of series arranged by name.
-- Assumes nothing.
use Rattle.std.specs.Prelude.{cond, List, [], ◌∷◌}
use Rattle.fields.specs.Fields.{Field, name_in, below}

-- a series put in its place among others that ascend. Of two with one name it is the one that stays; a register's series have
-- each another name
unfoldable pub put_in : Field → List Field → List Field
put_in f [] = f ∷ []
put_in f (g ∷ gs) = cond (below (name_in f) (name_in g)) (f ∷ g ∷ gs) (cond (below (name_in g) (name_in f)) (g ∷ put_in f gs) (f ∷ gs))

unfoldable pub arranged : List Field → List Field
arranged [] = []
arranged (f ∷ fs) = put_in f (arranged fs)
