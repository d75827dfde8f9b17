-- Refusals 15 to 19, the rows of the rules' table that a tray file meets.
--   line_fault k l    == what refuses the line l, which is line k: 17, 18, 19
--   lines_fault k ls  == what refuses the first bad one of the lines ls, counted from k
--   read_fault s a b d == what refuses the file s, where a letters, b ends and d sides are lent: place A
use Rattle.std.specs.Prelude.{◌||◌, not, List, [], ◌∷◌, ℕ, suc, eqb, ltb, length}
use Rattle.trays.specs.declared.Refusal.{Refusal}
use Rattle.trays.specs.Limits.{max_file, ends_need}
use Rattle.trays.specs.Faults.{accepted, row, or_else, first_row}
use Rattle.file_rule.specs.Lines.{lines_of, is_laid_out, slip_field, length_field, letters}

abbrev pub line_fault : ℕ → List ℕ → Refusal
line_fault k l =
    first_row (row 17 (not (is_laid_out l)) k
    ∷ (row 18 (not (eqb (slip_field l) (suc k))) k
    ∷ (row 19 (not (eqb (length_field l) (suc (length (letters l))))) k ∷ [])))

abbrev pub lines_fault : ℕ → List (List ℕ) → Refusal
lines_fault k [] = accepted
lines_fault k (l ∷ ls) = or_else (line_fault k l) (lines_fault (suc k) ls)

unfoldable pub read_fault : List ℕ → ℕ → ℕ → ℕ → Refusal
read_fault s a b d =
    first_row (row 15 (ltb a max_file || (ltb b ends_need || ltb d ends_need)) 0
    ∷ (row 16 (ltb max_file (length s)) 0
    ∷ (lines_fault 1 (lines_of s) ∷ [])))
