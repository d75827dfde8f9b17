-- Computed specimens of the sheets of sides. They are worked out by hand from the rules' sentences. Modules are checked in the order of their names: an
-- edited definition is refused here first.
use mathlib.Core.Path.{◌≡◌, refl}
use mathlib.Core.List.{[], ◌∷◌, ◌++◌, map}
use Rattle.words.specs.Quoted.{word}
use Rattle.trays.specs.Faults.{tray_fault}
use Rattle.fold_rule.specs.Folding.{fold}
use Rattle.file_rule.specs.Faults.{read_fault}
use Rattle.sheet_rule.specs.Sheets.{decimal, column, side_sheet_of, find_sheet_of, compose_lines, sheet_room, compose_room}
use Rattle.sheet_rule.specs.Sides.{sheets_of}
use Rattle.sheet_rule.specs.Programs.{tray_sheets, compose_sheet_fault, compose_sheet, text_fault, find_sheet_fault, find_sheet}

-- each sheet counts the slips of its side, and names them by their numbers in the tray
pub three_sheets :
    sheets_of (word " ORO") (map word ("AB" ∷ "ABC" ∷ "AVG" ∷ "BA" ∷ []))
    ≡ word "TRAY   1   1    2    0    2\n   1   2    1 K\nAB\n"
    ++ (word "TRAY   2   2    5    1    4 O\n   2   3    2 K\n   4   2    1 K\n   4   2   1\nBABC\n"
    ++ word "TRAY   1   1    3    0    3 R\n   3   3    1 K\nAVG\n")
unfolding decimal column side_sheet_of
three_sheets = refl

-- one side alone has one sheet; the empty tray has that of the blank side
pub one_sheet :
    (sheets_of (word "R") (word "AVG" ∷ []) ≡ word "TRAY   1   1    3    0    3 R\n   1   3    1 K\nAVG\n")
    × (sheets_of [] [] ≡ word "TRAY   0   0    0    0    0\n\n")
unfolding decimal column side_sheet_of
one_sheet = (refl, refl)

-- from the bytes of a file, where column 9 is the side: the three sheets, also of a file in small letters; R alone; an empty file; a file of blank sides
pub sheets_of_files :
    map compose_sheet
    (word "   1   2 AB\n   2   3OABC\n   3   3RAVG\n   4   2OBA\n"
    ∷ word "   1   2 ab\n   2   3Oabc\n   3   3Raug\n   4   2OBa\n"
    ∷ word "   1   3RAVG\n"
    ∷ []
    ∷ word "   1   2 AB\n   2   2 BA\n" ∷ [])
    ≡ ((word "TRAY   1   1    2    0    2\n   1   2    1 K\nAB\n"
    ++ (word "TRAY   2   2    5    1    4 O\n   2   3    2 K\n   4   2    1 K\n   4   2   1\nBABC\n"
    ++ word "TRAY   1   1    3    0    3 R\n   3   3    1 K\nAVG\n"))
    ∷ (word "TRAY   1   1    2    0    2\n   1   2    1 K\nAB\n"
    ++ (word "TRAY   2   2    5    1    4 O\n   2   3    2 K\n   4   2    1 K\n   4   2   1\nBABC\n"
    ++ word "TRAY   1   1    3    0    3 R\n   3   3    1 K\nAVG\n"))
    ∷ word "TRAY   1   1    3    0    3 R\n   1   3    1 K\nAVG\n"
    ∷ word "TRAY   0   0    0    0    0\n\n"
    ∷ word "TRAY   2   2    4    1    3\n   1   2    2 K\n   2   2    1 K\n   2   1   1\nBAB\n" ∷ [])
unfolding decimal column side_sheet_of tray_fault fold read_fault compose_sheet_fault compose_sheet
sheets_of_files = refl

-- equal slips of one side alone are set aside; a slip is not set aside by a longer one of another side
pub equals_of_a_side :
    compose_sheet (word "   1   3OAVG\n   2   3OAVG\n   3   3RAVG\n   4   4 AVGV\n")
    ≡ word "TRAY   1   1    4    0    4\n   4   4    1 K\nAVGV\n"
    ++ (word "TRAY   2   1    3    0    3 O\n   1   3    1 K\n   2   3    1 S\nAVG\n"
    ++ word "TRAY   1   1    3    0    3 R\n   3   3    1 K\nAVG\n")
unfolding decimal column side_sheet_of tray_fault fold read_fault compose_sheet_fault compose_sheet
equals_of_a_side = refl

-- a refusal is one line, and no sheet stands before it: `o` in column 9, a digit in the only slip of R, a slip of O without letters
pub refused_files :
    map compose_sheet (word "   1   2oAB\n" ∷ word "   1   2 AB\n   2   2OBA\n   3   2RA1\n" ∷ word "   1   2 AB\n   2   0O\n" ∷ [])
    ≡ word "REFUSED  17     1\n" ∷ word "REFUSED   6     3\n" ∷ word "REFUSED   2     2\n" ∷ []
unfolding decimal column side_sheet_of tray_fault fold read_fault compose_sheet_fault compose_sheet
refused_files = refl

-- of a tray that comes from no file 22 is judged too, after 6: another value, a list too short and one too long
pub refused_trays :
    (tray_sheets (word "AB") (2 ∷ []) (word "o") ≡ word "REFUSED  22     0\n")
    × (tray_sheets (word "ABBC") (2 ∷ 4 ∷ []) (word "O") ≡ word "REFUSED  22     0\n")
    × (tray_sheets [] [] (word "R") ≡ word "REFUSED  22     0\n")
    × (tray_sheets (word "ab") (2 ∷ []) (word "o") ≡ word "REFUSED   6     1\n")
unfolding decimal column side_sheet_of
refused_trays = (refl, refl, refl, refl)

-- `find` reads a file with sides, and looks for the slips of all of them; after BA the letter B drops the state to A
pub found_on_all_sides :
    map (λ file. find_sheet file (word "BABC\n")) (word "   1   2 AB\n   2   3OABC\n   3   3RAVG\n   4   2OBA\n" ∷ word "   1   2oAB\n" ∷ [])
    ≡ word "FIND   4   5     3\n   2   4\n   3   1\n   4   2\n" ∷ word "REFUSED  17     1\n" ∷ []
unfolding decimal column find_sheet_of tray_fault fold read_fault text_fault find_sheet_fault find_sheet
found_on_all_sides = refl

-- the sheet of O of the first file, from numbers: the answer, the ends of the whole tray, one join of three numbers, two records of five, the legend
pub sheet_from-numbers :
    compose_lines 79 (record { number = 0; detail = 0; slips = 2; kept = 2; letters = 5; saved = 1; legend = 4; joins = 1 })
    (2 ∷ 5 ∷ 8 ∷ 10 ∷ []) (4 ∷ 2 ∷ 1 ∷ []) (2 ∷ 2 ∷ 1 ∷ 0 ∷ 79 ∷ 4 ∷ 1 ∷ 1 ∷ 0 ∷ 79 ∷ []) (word "BABC")
    ≡ word "TRAY   2   2    5    1    4 O\n   2   3    2 K\n   4   2    1 K\n   4   2   1\nBABC\n"
unfolding decimal column
sheet_from-numbers = refl

pub rooms : sheet_room ∷ compose_room ∷ [] ≡ 7818 ∷ 23454 ∷ []
rooms = refl
