-- What reading a tray file leaves, for every input.
--   slips_in s  == the slips of the tray file s: the letters of its lines
--   sides_in s  == their sides
--   ReadSays   == what read_tray promises: lent letters a, ends b and sides d before, a', b' and d' after; answer r
use Rattle.std.specs.Prelude.{List, map, ℕ, length}
use Rattle.trays.specs.declared.Written.{Written}
use Rattle.trays.specs.Written.{TrayWritten}
use Rattle.file_rule.specs.Lines.{lines_of, side_field, letters}
use Rattle.file_rule.specs.Faults.{read_fault}

abbrev pub slips_in : List ℕ → List (List ℕ)
slips_in s = map letters (lines_of s)

abbrev pub sides_in : List ℕ → List ℕ
sides_in s = map side_field (lines_of s)

abbrev pub ReadSays : List ℕ → List ℕ → List ℕ → List ℕ → List ℕ → List ℕ → List ℕ → Written → Type 0
ReadSays s a a' b b' d d' r = TrayWritten (read_fault s (length a) (length b) (length d)) (slips_in s) (sides_in s) a a' b b' d d' r
