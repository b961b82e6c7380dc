-- The names of a file that is replaced.
-- Assumes nothing.
use Rattle.std.specs.Prelude.{List, ℕ, ◌++◌, codes}

-- the new file beside that of a path
abbrev pub new_name : List ℕ → List ℕ
new_name path = path ++ codes ".new"
