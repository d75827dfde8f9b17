-- The index of beginnings of a tray with slips ss, of all sides.
--   precedes ss i k  == slip i stands before slip k in the order of their letters: a prefix before its longer slips, equal slips by number
--   index_of ss       == the index: all slip numbers in that order
--   stretch_for ss t  == the slips that start with the typed letters t, in the order of the index
--   start_at ss t     == where this stretch starts in the index: how many slips stand before t
use Rattle.std.specs.Prelude.{Bool, ◌&&◌, ◌||◌, List, ℕ, ltb, length}
use Rattle.words.specs.Lists.{those, in_order}
use Rattle.words.specs.Words.{same, begins, before}
use Rattle.trays.specs.Slips.{slip, numbers}

-- Rules, index of beginnings: ordered by letters, a beginning before its longer slips, equals by number.
abbrev pub precedes : List (List ℕ) → ℕ → ℕ → Bool
precedes ss i k = before (slip ss i) (slip ss k) || (same (slip ss i) (slip ss k) && ltb i k)

abbrev pub index_of : List (List ℕ) → List ℕ
index_of ss = in_order (precedes ss) (numbers ss)

-- Rules, index of beginnings: the slips of the full tray that start so, in the list's order.
abbrev pub stretch_for : List (List ℕ) → List ℕ → List ℕ
stretch_for ss t = those (λ i. begins t (slip ss i)) (index_of ss)

abbrev pub start_at : List (List ℕ) → List ℕ → ℕ
start_at ss t = length (those (λ i. before (slip ss i) t) (index_of ss))
