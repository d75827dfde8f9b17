-- The reader stands at `at` in the file, before line k, and no line before that has a fault: CheckTurns' Passed. The measure is what is left behind `at`.
use Rattle.std.proofs.Common.{◌≡◌, length, ◌-◌}
use Rattle.file_check.proofs.CheckTurns.{Passed}
use Rattle.file_check.proofs.check_lines.Given as goal

abbrev pub invariant-loop-reader : goal.invariant-loop-reader
invariant-loop-reader l = record {
  file_is : l.reader.file.now ≡ l.file;
  passed : Passed l.file l.reader.at l.k;
}

abbrev pub decreases-loop-reader : goal.decreases-loop-reader
decreases-loop-reader l = length l.file - l.reader.at
