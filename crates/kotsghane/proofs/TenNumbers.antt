-- The answer of the shortest legend as numbers: the ten of its order are read one by one.
use mathlib.Core.Path.{◌≡◌}
use mathlib.Core.List.{[], ◌∷◌}
use Prim.Native.Nat.{ℕ}
use lib.ListN.{get_or}
use Rattle.answers.specs.declared.Shortest.{Shortest}
use Rattle.answers.specs.Exported.{shortest_numbers}

pub ten_numbers :
    (r : Shortest) (a b c d e f g h i j : ℕ)
    → a ≡ get_or r.order 0 0 → b ≡ get_or r.order 1 0 → c ≡ get_or r.order 2 0 → d ≡ get_or r.order 3 0 → e ≡ get_or r.order 4 0
    → f ≡ get_or r.order 5 0 → g ≡ get_or r.order 6 0 → h ≡ get_or r.order 7 0 → i ≡ get_or r.order 8 0 → j ≡ get_or r.order 9 0
    → r.number ∷ (r.detail ∷ (r.legend ∷ (r.count ∷ (a ∷ (b ∷ (c ∷ (d ∷ (e ∷ (f ∷ (g ∷ (h ∷ (i ∷ (j ∷ [])))))))))))))
    ≡ shortest_numbers r
ten_numbers r a b c d e f g h i j ea eb ec ed ee ef eg eh ei ej = rw (ea, eb, ec, ed, ee, ef, eg, eh, ei, ej)
