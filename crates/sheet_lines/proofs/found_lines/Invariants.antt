-- Invariant: the lines of the first i occurrences are written.
use Prim.Native.Nat.{◌*◌}
use Rattle.sheet_rule.specs.Sheets.{found_size, lines, found_line_at}
use Rattle.sheet_columns.specs.Steps.Wrote.{Writes}
use Rattle.sheet_lines.proofs.found_lines.Given as goal

abbrev pub invariant-loop-i : goal.invariant-loop-i
invariant-loop-i l = Writes (found_size * l.i) (lines (found_line_at l.found) l.i) l.initial.sheet l.sheet
