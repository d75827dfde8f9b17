-- A computed specimen of the definitions on rows, worked out by hand. Modules are checked in the order of their names: an edited definition is refused here
-- first. Of the slips AB, ABC, AVG, BA, AB those numbered 2, 4 and 5 are of side O. Cut out they are ABC, BA and AB: slip 2 is joined to the left of slip 1 by
-- one letter, the legend is BABC, and AB is set aside; it stands at place 2, which takes 3 letters compared to find.
--   area     == the work area that composing the three leaves, as far as the tables JOINS and PLACES go
--   chosen   == their numbers in the tray
--   rows     == the row of the one join, and those of the three records
use mathlib.Core.Path.{◌≡◌, refl}
use mathlib.Core.List.{List, [], ◌∷◌, ◌++◌}
use Prim.Native.Nat.{ℕ, ◌-◌}
use lib.ListN.{replicate}
use Rattle.answers.specs.Composing.{join_cells}
use Rattle.layout.specs.Layout.{JOINS, all_joins}
use Rattle.compose_names.specs.Steps.Naming.{named_in, record_in}

abbrev area : List ℕ
area = replicate JOINS 0 ++ ((2 ∷ 1 ∷ 1 ∷ []) ++ (replicate (all_joins - join_cells) 0 ++ (2 ∷ 1 ∷ 0 ∷ 1 ∷ 1 ∷ 0 ∷ 2 ∷ 0 ∷ 3 ∷ [])))

abbrev chosen : List ℕ
chosen = 2 ∷ 4 ∷ 5 ∷ []

abbrev pub rows : List (List ℕ)
rows = named_in area chosen 0 ∷ record_in area chosen 79 0 ∷ record_in area chosen 79 1 ∷ record_in area chosen 79 2 ∷ []

pub rows-computed : rows ≡ ((4 ∷ 2 ∷ 1 ∷ []) ∷ (2 ∷ 2 ∷ 1 ∷ 0 ∷ 79 ∷ []) ∷ (4 ∷ 1 ∷ 1 ∷ 0 ∷ 79 ∷ []) ∷ (5 ∷ 2 ∷ 0 ∷ 3 ∷ 79 ∷ []) ∷ [])
rows-computed = refl
