-- The nodes by rows, as the walk visits them.
--   nodes_at ps level d  == the strings of the nodes of d letters, by number
--   rows ps level d     == those of d letters, of one letter fewer, .. of one letter
use Rattle.std.specs.Prelude.{List, [], ◌++◌, map, ℕ, zero, suc, ◌-◌}
use Rattle.words.specs.Lists.{up_from}
use Rattle.matching.specs.Steps.Nodes.{string}

abbrev pub nodes_at : List (List ℕ) → (ℕ → ℕ) → ℕ → List (List ℕ)
nodes_at ps level d = map (string ps) (up_from (level d) (level (suc d) - level d))

abbrev pub rows : List (List ℕ) → (ℕ → ℕ) → ℕ → List (List ℕ)
rows ps level zero = []
rows ps level (suc d) = nodes_at ps level (suc d) ++ rows ps level d
