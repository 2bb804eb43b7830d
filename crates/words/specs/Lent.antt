-- Words that a caller lends: as many from the first on as are given are set, and the others are as they were.
use Rattle.std.specs.Prelude.{ℕ, List, ◌++◌, length, take, drop}

abbrev pub put : List ℕ → List ℕ → List ℕ
put vs ws = take (length ws) vs ++ drop (length vs) ws
