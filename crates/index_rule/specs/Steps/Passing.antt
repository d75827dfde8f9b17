-- One pass over a list that is handed in as the index.
--   fits ss p i    == i is the number of a slip, and stands after p in the order
--   passes ss p x  == each entry of x fits after the one before it, p before the first
use Rattle.std.specs.Prelude.{Bool, true, ◌&&◌, List, [], ◌∷◌, ℕ, leb, length}
use Rattle.index_rule.specs.Index.{precedes}

abbrev pub fits : List (List ℕ) → ℕ → ℕ → Bool
fits ss p i = leb 1 i && (leb i (length ss) && precedes ss p i)

abbrev pub passes : List (List ℕ) → ℕ → List ℕ → Bool
passes ss p [] = true
passes ss p (i ∷ x) = fits ss p i && passes ss i x
