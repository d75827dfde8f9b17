-- What the programs print, from the bytes of their files: the first refusal of the rules' table that holds, or the sheet.
--   letters_in, ends_in file  == the letters and ends of a tray file
--   tray_sheets s es cs      == what is printed of a tray with the sides cs: its refusal 1 to 6 or 22, or the `compose` sheets of its sides
--   compose_sheet_fault file  == what refuses a tray file: 16 to 19, then 1 to 6
--   compose_sheet file       == what `compose` prints
--   text_of text             == the text of a text file: one final LF is not counted
--   text_in text             == its letters, folded
--   text_fault s es t        == what refuses a tray and a text: 1 to 6, 12, 13, 14
--   text_sheet s es t        == what is printed of a tray and a text: a refusal, or the `find` sheet
--   find_sheet_fault file text == what refuses a tray file and a text file: 16 to 19, then these
--   find_sheet file text     == what `find` prints
use Rattle.std.specs.Prelude.{true, false, List, [], ◌∷◌, ◌++◌, map, ℕ, zero, suc, ◌-◌, eqb, length, take}
use Rattle.words.specs.Lists.{last_or}
use Rattle.trays.specs.declared.Refusal.{Refusal}
use Rattle.trays.specs.Limits.{max_file, ends_need}
use Rattle.trays.specs.Slips.{slips_of}
use Rattle.trays.specs.Faults.{or_else, first_row, tray_rows, tray_fault}
use Rattle.trays.specs.Written.{letters_of, ends_of}
use Rattle.trays.specs.Sides.{sided_tray_rows}
use Rattle.fold_rule.specs.Folding.{fold}
use Rattle.file_rule.specs.Lines.{lf}
use Rattle.file_rule.specs.Faults.{read_fault}
use Rattle.file_rule.specs.Answers.{slips_in, sides_in}
use Rattle.answers.specs.Finding.{text_rows, list_row}
use Rattle.sheet_rule.specs.Sheets.{find_sheet_of, refused_line, max_found}
use Rattle.sheet_rule.specs.Sides.{sheets_of}

abbrev pub letters_in : List ℕ → List ℕ
letters_in file = letters_of (slips_in file)

abbrev pub ends_in : List ℕ → List ℕ
ends_in file = ends_of (slips_in file)

-- The tray is judged with all its sides before the first sheet: a refusal prints one line alone.
abbrev pub tray_sheets : List ℕ → List ℕ → List ℕ → List ℕ
tray_sheets s es cs =
    let f = first_row (sided_tray_rows s es cs) in
    elim f.number [ zero ↦ sheets_of cs (slips_of s es) | suc n ↦ refused_line f ]

-- A program lends as many letters, ends and sides as a file may need, so 15 is silent. 22 is no row here, since it could not speak: column 9 of a file that is
-- not refused holds sides (`sides-silent` in file_rule/proofs/SideColumns).
unfoldable pub compose_sheet_fault : List ℕ → Refusal
compose_sheet_fault file = or_else (read_fault file max_file ends_need ends_need) (tray_fault (letters_in file) (ends_in file))

unfoldable pub compose_sheet : List ℕ → List ℕ
compose_sheet file =
    let f = compose_sheet_fault file in
    elim f.number [ zero ↦ sheets_of (sides_in file) (slips_of (letters_in file) (ends_in file)) | suc n ↦ refused_line f ]

-- One line; one final LF, if present, is not counted.
abbrev pub text_of : List ℕ → List ℕ
text_of text = elim (eqb (last_or 0 text) lf) [ true ↦ take (length text - 1) text | false ↦ text ]

-- Folding: 12 counts what is left of the text, and 13 judges its bytes folded.
abbrev pub text_in : List ℕ → List ℕ
text_in text = map fold (text_of text)

unfoldable pub text_fault : List ℕ → List ℕ → List ℕ → Refusal
text_fault s es t = first_row (tray_rows s es ++ (text_rows t ++ (list_row (slips_of s es) t max_found ∷ [])))

abbrev pub text_sheet : List ℕ → List ℕ → List ℕ → List ℕ
text_sheet s es t =
    let f = text_fault s es t in
    elim f.number [ zero ↦ find_sheet_of (slips_of s es) t | suc n ↦ refused_line f ]

-- Finding takes no sides: all slips of the file are looked for.
unfoldable pub find_sheet_fault : List ℕ → List ℕ → Refusal
find_sheet_fault file text = or_else (read_fault file max_file ends_need ends_need) (text_fault (letters_in file) (ends_in file) (text_in text))

unfoldable pub find_sheet : List ℕ → List ℕ → List ℕ
find_sheet file text =
    let f = find_sheet_fault file text in
    elim f.number [ zero ↦ find_sheet_of (slips_of (letters_in file) (ends_in file)) (text_in text) | suc n ↦ refused_line f ]
