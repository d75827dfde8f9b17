-- The nodes of the prefix automaton: the different beginnings of the patterns, numbered by length, then byte order.
--   lower x y       == node x has a lower number than node y
--   prefixes ps     == the non-empty beginnings of the patterns
--   nodes_of ps      == the empty string, then the different beginnings, ascending
--   string ps v     == the string of node v
--   IsNode ps v x   == v is the number of the node with the string x
--   Num ps v        == v is the number of a node with a letter
use Rattle.std.specs.Prelude.{◌≡◌, Bool, ◌&&◌, ◌||◌, List, [], ◌∷◌, map, ℕ, ◌≤◌, ◌<◌, eqb, ltb, length, get_or, take}
use Rattle.words.specs.Lists.{each, up_from, in_order}
use Rattle.words.specs.Words.{before}

abbrev pub lower : List ℕ → List ℕ → Bool
lower x y = ltb (length x) (length y) || (eqb (length x) (length y) && before x y)

abbrev pub prefixes : List (List ℕ) → List (List ℕ)
prefixes ps = each (λ x. map (λ d. take d x) (up_from 1 (length x))) ps

unfoldable pub nodes_of : List (List ℕ) → List (List ℕ)
nodes_of ps = [] ∷ in_order lower (prefixes ps)

abbrev pub string : List (List ℕ) → ℕ → List ℕ
string ps v = get_or (nodes_of ps) v []

pub record IsNode (ps : List (List ℕ)) (v : ℕ) (x : List ℕ) : Type 0 where
  pub inside : v < length (nodes_of ps)
  pub is : string ps v ≡ x

pub record Num (ps : List (List ℕ)) (v : ℕ) : Type 0 where
  pub some : 1 ≤ v
  pub inside : v < length (nodes_of ps)
