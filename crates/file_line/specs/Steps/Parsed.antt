-- What the parser of a line answers.
--   plus_one r        == 1 + the number of r; 0 for none
--   fault_number r    == the number of what is wrong with a line: 17, 18, 19; 0 for nothing
--   IsLine s at k l   == l is its answer at the place `at` of the file s, for line k: what is wrong with it, and the place after it, of a bad line too
use Rattle.std.specs.Prelude.{◌≡◌, List, ℕ, suc, ◌+◌, length, drop, Option, None, Some, Result, Ok, Err}
use Rattle.file_rule.specs.declared.Line.{Line}
use Rattle.file_rule.specs.declared.LineFault.{LineFault}
use Rattle.file_rule.specs.declared.LineFault.TheVariants.{Layout, Number, Length}
use Rattle.file_rule.specs.Lines.{first_line}
use Rattle.file_rule.specs.Faults.{line_fault}

abbrev pub plus_one : Option ℕ → ℕ
plus_one None = 0
plus_one (Some n) = suc n

abbrev pub fault_number : Result Unit LineFault → ℕ
fault_number (Ok x) = 0
fault_number (Err Layout) = 17
fault_number (Err Number) = 18
fault_number (Err Length) = 19

pub record IsLine (s : List ℕ) (at k : ℕ) (l : Line) : Type 0 where
  pub fault-is : fault_number l.checked ≡ (line_fault k (first_line (drop at s))).number
  pub next-is : l.next ≡ at + length (first_line (drop at s))
