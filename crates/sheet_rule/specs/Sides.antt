-- What is printed of a tray whose slips have sides.
--   is_shown cs b   == there is a sheet of side b, where the slips have the sides cs
--   sheets_of cs ss == the sheets of all sides of the slips ss, with the usual settings
--   BlankSheets   == the claim on trays whose sides are all blank, as those of files stored before there were sides
use Rattle.std.specs.Prelude.{◌≡◌, Bool, ◌&&◌, ◌||◌, List, [], ◌∷◌, ℕ, eqb, leb, length}
use Rattle.words.specs.Lists.{each, those, All}
use Rattle.trays.specs.Sides.{blank_side, obverse, reverse, of_side}
use Rattle.greedy.specs.Composing.{usual_of, sided}
use Rattle.sheet_rule.specs.Sheets.{side_sheet_of, compose_sheet_of}

-- Rules, sides: a sheet for each side that has slips, blank, O, R in that order; the empty tray prints one sheet.
abbrev pub is_shown : List ℕ → ℕ → Bool
is_shown cs b = leb 1 (length (of_side cs b)) || (eqb b blank_side && eqb (length cs) 0)

abbrev pub sheets_of : List ℕ → List (List ℕ) → List ℕ
sheets_of cs ss = each (λ b. side_sheet_of b (sided (usual_of b) cs ss)) (those (is_shown cs) (blank_side ∷ (obverse ∷ (reverse ∷ []))))

-- they have one sheet, the one that has always been printed
abbrev pub BlankSheets : Type 0
BlankSheets =
    (cs : List ℕ) (ss : List (List ℕ)) → length cs ≡ length ss → All (λ b. b ≡ blank_side) cs → sheets_of cs ss ≡ compose_sheet_of ss
