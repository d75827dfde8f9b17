-- Computed specimens of the definitions on one slip of a visit. The outcomes are worked out by hand from the rules' sentences. Modules
-- are checked in the order of their names: an edited definition is refused here first.
--   partners == whom a slip is joined behind, for some right neighbours, lists of slips that end with a node, and ends of the slip's chain
use mathlib.Core.Path.{◌≡◌, refl}
use mathlib.Core.List.{List, [], ◌∷◌}
use Prim.Native.Nat.{ℕ}
use Rattle.walk_offer.specs.Steps.Offers.{partner_in}

abbrev pub partners : List ℕ
partners =
    -- the lowest waiting slip
    partner_in (0 ∷ 0 ∷ 0 ∷ []) (1 ∷ 2 ∷ 3 ∷ []) 4
    -- the lowest is the last of the slip's own chain: the second lowest
    ∷ partner_in (0 ∷ 0 ∷ 0 ∷ []) (1 ∷ 2 ∷ 3 ∷ []) 1
    -- slip 1 has a right neighbour: it does not wait
    ∷ partner_in (5 ∷ 0 ∷ 0 ∷ []) (1 ∷ 2 ∷ 3 ∷ []) 4
    ∷ partner_in (5 ∷ 0 ∷ 0 ∷ []) (1 ∷ 2 ∷ 3 ∷ []) 2
    -- none is left
    ∷ partner_in (0 ∷ 0 ∷ 0 ∷ []) (1 ∷ []) 1
    ∷ partner_in (5 ∷ 6 ∷ 0 ∷ []) (1 ∷ 2 ∷ []) 4
    ∷ []

pub partners_computed : partners ≡ (1 ∷ 2 ∷ 2 ∷ 3 ∷ 0 ∷ 0 ∷ [])
partners_computed = refl
