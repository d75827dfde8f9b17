-- Computed specimens of the sheets: the rules' two, whole, the empty tray's, refusals, and what `compose` and `find` print for files.
-- Modules are checked in the order of their names: an edited layout is refused here first.
use mathlib.Core.Path.{◌≡◌, refl}
use mathlib.Core.List.{List, [], ◌∷◌, ◌++◌, map}
use Prim.Native.Nat.{ℕ}
use lib.ListN.{replicate}
use Rattle.words.specs.Quoted.{word}
use Rattle.trays.specs.Faults.{refusal, tray_fault}
use Rattle.fold_rule.specs.Folding.{fold}
use Rattle.file_rule.specs.Faults.{read_fault}
use Rattle.sheet_rule.specs.Sheets.{decimal, column, side_sheet_of, compose_sheet_of, find_sheet_of, refused_line}
use Rattle.sheet_rule.specs.Programs.{letters_in, compose_sheet_fault, compose_sheet, text_fault, find_sheet_fault, find_sheet}
use Rattle.sheet_rule.specs.Stored.{typed_in, stored_fault}

abbrev tray : List (List ℕ)
tray = map word ("IMPCAES" ∷ "AES" ∷ "CAESAVG" ∷ "VGPIVS" ∷ "SIMP" ∷ [])

abbrev sheet : List ℕ
sheet =
    word "TRAY   5   4   24    9   15\n"
    ++ (word "   1   7    2 K\n   2   3    6 S\n   3   7    5 K\n   4   6   10 K\n   5   4    1 K\n"
    ++ (word "   1   3   4\n   5   1   3\n   3   4   2\n" ++ word "SIMPCAESAVGPIVS\n"))

pub decimal_specimens :
    map decimal (0 ∷ 9 ∷ 10 ∷ 105 ∷ 2000 ∷ 65535 ∷ []) ≡ map word ("0" ∷ "9" ∷ "10" ∷ "105" ∷ "2000" ∷ "65535" ∷ [])
unfolding decimal
decimal_specimens = refl

pub compose_specimen : compose_sheet_of tray ≡ sheet
unfolding decimal column side_sheet_of
compose_specimen = refl

pub find_specimen : find_sheet_of tray (word "IMPCAESAVG") ≡ word "FIND  10  11     3\n   7   1\n   7   2\n  10   3\n"
unfolding decimal column find_sheet_of
find_specimen = refl

pub empty_specimen : compose_sheet_of [] ≡ word "TRAY   0   0    0    0    0\n\n"
unfolding decimal column side_sheet_of
empty_specimen = refl

pub refused_specimens :
    map refused_line (refusal 16 0 ∷ refusal 2 7 ∷ refusal 13 2000 ∷ refusal 14 400000 ∷ [])
    ≡ (word "REFUSED  16     0\n" ∷ word "REFUSED   2     7\n" ∷ word "REFUSED  13  2000\n" ∷ word "REFUSED  14400000\n" ∷ [])
unfolding decimal column
refused_specimens = refl

-- from the file's bytes: the rules' tray, an empty file, and files that are turned back
pub compose_file_specimens :
    map compose_sheet
    (word "   1   7 IMPCAES\n   2   3 AES\n   3   7 CAESAVG\n   4   6 VGPIVS\n   5   4 SIMP\n"
    ∷ []
    ∷ word "   1   3 AVG\n   2   3 AVG"
    ∷ word "   1   3 AVG\n   3   3 AVG\n"
    ∷ word "   2   0 \n"
    ∷ word "   1   2 AVG\n"
    ∷ word "   1   0 \n"
    ∷ word "   1   2 a1\n"
    ∷ word "   1   3 avg\n   2   2 UG\n" ∷ [])
    ≡ (sheet
    ∷ word "TRAY   0   0    0    0    0\n\n"
    ∷ word "REFUSED  17     2\n"
    ∷ word "REFUSED  18     2\n"
    ∷ word "REFUSED  18     1\n"
    ∷ word "REFUSED  19     1\n"
    ∷ word "REFUSED   2     1\n"
    ∷ word "REFUSED   6     1\n"
    ∷ word "TRAY   2   1    3    0    3\n   1   3    1 K\n   2   2    2 S\nAVG\n" ∷ [])
unfolding decimal column side_sheet_of tray_fault fold read_fault compose_sheet_fault compose_sheet
compose_file_specimens = refl

-- files stored where a slip could have 40 letters, with slips of 32, 33 and 40: in capitals, which were composed
-- unfolded too, and in small letters, which were not; both give 3 with the lowest too long slip now
abbrev line : ℕ → ℕ → ℕ → List ℕ
line letter i n = column 4 i ++ column 4 n ++ word " " ++ replicate n letter ++ word "\n"

abbrev stored : ℕ → List ℕ
stored letter = line letter 1 32 ++ line letter 2 33 ++ line letter 3 40

pub stored_specimens :
    map (λ (file : List ℕ). stored_fault 40 (letters_in file) file ∷ stored_fault 40 (typed_in file) file ∷ compose_sheet_fault file ∷ [])
    (stored 65 ∷ stored 97 ∷ [])
    ≡ ((refusal 0 0 ∷ refusal 0 0 ∷ refusal 3 2 ∷ []) ∷ (refusal 0 0 ∷ refusal 6 1 ∷ refusal 3 2 ∷ []) ∷ [])
unfolding decimal column tray_fault fold read_fault compose_sheet_fault
stored_specimens = refl

-- from both files' bytes: the rules' text with and without LF and in small letters, no text, and what is turned back, the tray before the text
abbrev sample : List ℕ
sample = word "   1   7 IMPCAES\n   2   3 AES\n   3   7 CAESAVG\n   4   6 VGPIVS\n   5   4 SIMP\n"

pub find_file_specimens :
    map (find_sheet sample) (word "IMPCAESAVG\n" ∷ word "IMPCAESAVG" ∷ word "jmpcaesaUg\n" ∷ [] ∷ word "\n" ∷ word "IMPCAESAVG\n\n" ∷ word "av\ng7\n" ∷ [])
    ≡ (word "FIND  10  11     3\n   7   1\n   7   2\n  10   3\n"
    ∷ word "FIND  10  11     3\n   7   1\n   7   2\n  10   3\n"
    ∷ word "FIND  10  11     3\n   7   1\n   7   2\n  10   3\n"
    ∷ word "FIND   0   0     0\n"
    ∷ word "FIND   0   0     0\n"
    ∷ word "REFUSED  13    11\n"
    ∷ word "REFUSED  13     3\n" ∷ [])
unfolding decimal column find_sheet_of tray_fault fold read_fault text_fault find_sheet_fault find_sheet
find_file_specimens = refl

pub find_tray_specimens :
    map (λ (file : List ℕ). find_sheet file (word "7v"))
    (word "   1   3 AVG\n   2   3 AVG" ∷ word "   1   2 a7\n   3   2 a7\n" ∷ word "   1   2 a7\n" ∷ [] ∷ [])
    ≡ (word "REFUSED  17     2\n" ∷ word "REFUSED  18     2\n" ∷ word "REFUSED   6     1\n" ∷ word "REFUSED  13     1\n" ∷ [])
unfolding decimal column find_sheet_of tray_fault fold read_fault text_fault find_sheet_fault find_sheet
find_tray_specimens = refl

-- 2,000 letters with their LF, and one more
pub long_text_specimens :
    map (find_sheet []) ((replicate 2000 65 ++ word "\n") ∷ (replicate 2001 65 ++ word "\n") ∷ [])
    ≡ (word "FIND20002000     0\n" ∷ word "REFUSED  12     0\n" ∷ [])
unfolding decimal column find_sheet_of tray_fault fold read_fault text_fault find_sheet_fault find_sheet
long_text_specimens = refl
