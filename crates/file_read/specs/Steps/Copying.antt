-- What the pass that copies asks and leaves.
--   Lent    == the file s has no fault, and the lent letters a, ends b and sides d have room for it
--   Copied  == the letters, ends and sides of s are written over a, b and d
use Rattle.std.specs.Prelude.{◌≡◌, List, ℕ, ◌≤◌, length}
use Rattle.trays.specs.Limits.{max_file, ends_need}
use Rattle.trays.specs.declared.Written.{Written}
use Rattle.trays.specs.Faults.{accepted}
use Rattle.trays.specs.Written.{TrayWritten}
use Rattle.file_rule.specs.Lines.{lines_of}
use Rattle.file_rule.specs.Faults.{lines_fault}
use Rattle.file_rule.specs.Answers.{slips_in, sides_in}

pub record Lent (s a b d : List ℕ) : Type 0 where
  pub good : lines_fault 1 (lines_of s) ≡ accepted
  pub small : length s ≤ max_file
  pub room : max_file ≤ length a
  pub slots : ends_need ≤ length b
  pub marks : ends_need ≤ length d

abbrev pub Copied : List ℕ → List ℕ → List ℕ → List ℕ → List ℕ → List ℕ → List ℕ → Written → Type 0
Copied s a a' b b' d d' r = TrayWritten accepted (slips_in s) (sides_in s) a a' b b' d d' r
