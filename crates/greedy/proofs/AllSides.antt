-- Computed specimens of sides composed. The outcomes are worked out by hand from the rules' sentences. Modules are checked in the order of their names: an
-- edited definition is refused here first.
--   tray b == side b of the tray AB, O ABC, R AVG, O BA
use mathlib.Core.Path.{◌≡◌, refl}
use mathlib.Core.List.{List, [], ◌∷◌, map}
use Prim.Native.Nat.{ℕ}
use Prim.Native.String.{String}
use Rattle.words.specs.Quoted.{word}
use Rattle.trays.specs.Sides.{blank_side, obverse, reverse}
use Rattle.greedy.specs.Joins.{join}
use Rattle.greedy.specs.Composing.{Composing, usual_of, sided, kept_of, joins_of, walk_of, legend_of, place_of}

abbrev of : ℕ → String → List String → Composing
of b cs ws = sided (usual_of b) (word cs) (map word ws)

abbrev tray : ℕ → Composing
tray b = of b " ORO" ("AB" ∷ "ABC" ∷ "AVG" ∷ "BA" ∷ [])

-- the numbers are those of the whole tray; a slip neither joins nor sets aside one of another side
pub numbers_stay :
    (joins_of (tray obverse) ≡ join 4 2 1 ∷ [])
    × (walk_of (tray obverse) ≡ join 4 2 1 ∷ [])
    × (legend_of (tray obverse) ≡ word "BABC")
    × (map (place_of (tray obverse)) (2 ∷ 4 ∷ []) ≡ 2 ∷ 1 ∷ [])
    × (kept_of (tray blank_side) ≡ 1 ∷ [])
    × (legend_of (tray blank_side) ≡ word "AB")
    × (legend_of (tray reverse) ≡ word "AVG")
numbers_stay = (refl, refl, refl, refl, refl, refl, refl)

-- equals of one side alone are set aside; a side without slips has no legend
pub equals_of_a_side :
    (kept_of (of obverse "OOR" ("AVG" ∷ "AVG" ∷ "AVG" ∷ [])) ≡ 1 ∷ [])
    × (kept_of (of reverse "OOR" ("AVG" ∷ "AVG" ∷ "AVG" ∷ [])) ≡ 3 ∷ [])
    × (legend_of (of blank_side "OOR" ("AVG" ∷ "AVG" ∷ "AVG" ∷ [])) ≡ [])
equals_of_a_side = (refl, refl, refl)
