-- Tray files composed under another limit of letters a slip: reading them is as it was, and of the tray's rows only 3 can speak now.
--   letters-typed  == the letters of a file are those that stand in it, folded
--   stored_file    == what becomes of a file composed with the letters s, if its tray is accepted folded where it was so with s
use mathlib.Core.Path.{◌≡◌, refl, sym, ap, ◌∙◌}
use mathlib.Core.List.{List, [], ◌∷◌, ◌++◌, map, map-append}
use Prim.Native.Nat.{ℕ}
use Rattle.words.specs.Lists.{each}
use Rattle.trays.specs.Limits.{max_slip, max_file, ends_need}
use Rattle.trays.specs.Faults.{first_row, tray_rows_for, tray_fault}
use Rattle.trays.specs.Written.{letters_of}
use Rattle.trays.proofs.Rows.{or_zero, both_silent}
use Rattle.trays.proofs.Accepted.{Accepted, rows_tell}
use Rattle.trays.proofs.Stored.{rows_stored}
use Rattle.fold_rule.specs.Folding.{fold}
use Rattle.fold_rule.proofs.FoldedTrays.{accepted_folded}
use Rattle.file_rule.specs.Lines.{lines_of, typed, letters}
use Rattle.file_rule.specs.Faults.{read_fault}
use Rattle.sheet_rule.specs.Programs.{letters_in, ends_in, compose_sheet_fault}
use Rattle.sheet_rule.specs.Stored.{typed_in, Stored, StoredFiles}

letters-typed : (ls : List (List ℕ)) → letters_of (map letters ls) ≡ map fold (each typed ls)
letters-typed [] = refl
letters-typed (l ∷ ls) = ap (λ r. map fold (typed l) ++ r) (letters-typed ls) ∙ sym (map-append fold (typed l) (each typed ls))

module _ (m : ℕ) (file : List ℕ) where
  -- of a file that was composed, reading was silent and so were the rows of its tray; now its letters are folded
  stored_file : (s : List ℕ) → (Accepted m s (ends_in file) → Accepted m (letters_in file) (ends_in file)) → Stored m s file
  unfolding compose_sheet_fault tray_fault
  stored_file s filed h =
      let b = both_silent (read_fault file max_file ends_need ends_need) (first_row (tray_rows_for m s (ends_in file))) h in
      or_zero (read_fault file max_file ends_need ends_need) _ b.0
      ∙ rows_stored m max_slip (letters_in file) (ends_in file) (filed (rows_tell m s (ends_in file) b.1))

pub stored_files : StoredFiles
stored_files =
    record {
      folded = λ m file. stored_file m file (letters_in file) (λ a. a);
      unfolded = λ m file. stored_file m file (typed_in file) (λ a. rw (letters-typed (lines_of file)) (accepted_folded m (typed_in file) (ends_in file) a));
    }
