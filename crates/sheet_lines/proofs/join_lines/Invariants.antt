-- Invariant: the lines of the first i joins are written.
use Prim.Native.Nat.{◌*◌}
use Rattle.sheet_rule.specs.Sheets.{join_size, lines, join_line_at}
use Rattle.sheet_columns.specs.Steps.Wrote.{Writes}
use Rattle.sheet_lines.proofs.join_lines.Given as goal

abbrev pub invariant-loop-i : goal.invariant-loop-i
invariant-loop-i l = Writes (join_size * l.i) (lines (join_line_at l.joins) l.i) l.initial.sheet l.sheet
