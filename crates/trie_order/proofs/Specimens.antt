-- Computed specimens of the order: what an edited definition would get wrong.
use mathlib.Core.Path.{◌≡◌, refl}
use mathlib.Core.List.{List, [], ◌∷◌}
use Prim.Native.Nat.{ℕ}
use Rattle.words.specs.Lists.{in_order}
use Rattle.words.specs.Quoted.{word}
use Rattle.trays.specs.Slips.{numbers}
use Rattle.trie_order.specs.Order.{precedes, commons}

abbrev specimen : List (List ℕ)
specimen = word "BA" ∷ (word "AB" ∷ (word "A" ∷ (word "AB" ∷ (word "ABC" ∷ []))))

-- a prefix before its longer slips, equals by number
pub ordered : in_order (precedes specimen) (numbers specimen) ≡ (3 ∷ (2 ∷ (4 ∷ (5 ∷ (1 ∷ [])))))
ordered = refl

pub shared : commons specimen 0 (3 ∷ (2 ∷ (4 ∷ (5 ∷ (1 ∷ []))))) ≡ (0 ∷ (1 ∷ (2 ∷ (2 ∷ (0 ∷ [])))))
shared = refl
