-- The nodes level by level, from the sorted patterns.
--   level d p xs   == the prefixes of d letters of xs, each once: one is new where the common prefix with the string before is shorter
--   levels_up D zs  == the prefixes of 1 .. D letters, shortest first
--   node_at zs c r  == the number of the prefix of c + 1 letters of the string of rank r
use Rattle.std.specs.Prelude.{true, false, ◌&&◌, List, [], ◌∷◌, ◌++◌, ℕ, zero, suc, ◌+◌, ltb, leb, length, take}
use Rattle.words.specs.Words.{common}

abbrev pub level : ℕ → List ℕ → List (List ℕ) → List (List ℕ)
level d p [] = []
level d p (x ∷ xs) = elim (ltb (common p x) d && leb d (length x)) [ true ↦ take d x ∷ level d x xs | false ↦ level d x xs ]

abbrev pub levels_up : ℕ → List (List ℕ) → List (List ℕ)
levels_up zero zs = []
levels_up (suc c) zs = levels_up c zs ++ level (suc c) [] zs

abbrev pub node_at : List (List ℕ) → ℕ → ℕ → ℕ
node_at zs c r = length (levels_up c zs) + length (level (suc c) [] (take (suc r) zs))
