-- Rules, stored trays: tray files that `compose` composed while the longest slip was another one.
--   typed_in file          == the letters of a tray file as they stand in it
--   stored_fault m s file  == what turned a tray file back where a slip could have m letters and s was taken for its letters
--   Stored m s file       == what becomes of the file if it was composed so
--   StoredFiles          == this for every file, of letters folded and unfolded
use Rattle.std.specs.Prelude.{◌≡◌, List, ℕ}
use Rattle.words.specs.Lists.{each}
use Rattle.trays.specs.declared.Refusal.{Refusal}
use Rattle.trays.specs.Limits.{max_slip, max_file, ends_need}
use Rattle.trays.specs.Faults.{or_else, first_row, tray_rows_for, too_long, slip_at}
use Rattle.file_rule.specs.Lines.{lines_of, typed}
use Rattle.file_rule.specs.Faults.{read_fault}
use Rattle.sheet_rule.specs.Programs.{letters_in, ends_in, compose_sheet_fault}

abbrev pub typed_in : List ℕ → List ℕ
typed_in file = each typed (lines_of file)

abbrev pub stored_fault : ℕ → List ℕ → List ℕ → Refusal
stored_fault m s file = or_else (read_fault file max_file ends_need ends_need) (first_row (tray_rows_for m s (ends_in file)))

-- One with a slip over the limit gives 3 with the lowest such slip, and every other one stays valid.
abbrev pub Stored : ℕ → List ℕ → List ℕ → Type 0
Stored m s file = (stored_fault m s file).number ≡ 0 → compose_sheet_fault file ≡ slip_at 3 (too_long max_slip 1 0 (ends_in file))

pub record StoredFiles : Type 0 where
  -- the letters were judged folded, as now
  pub folded : (m : ℕ) (file : List ℕ) → Stored m (letters_in file) file
  -- the letters were judged as they stand, as before there was folding
  pub unfolded : (m : ℕ) (file : List ℕ) → Stored m (typed_in file) file
