-- Invariant: the lines of the first i records are written.
use Prim.Native.Nat.{◌*◌}
use Rattle.sheet_rule.specs.Sheets.{slip_size, lines, slip_line_at}
use Rattle.sheet_columns.specs.Steps.Wrote.{Writes}
use Rattle.sheet_lines.proofs.slip_lines.Given as goal

abbrev pub invariant-loop-i : goal.invariant-loop-i
invariant-loop-i l = Writes (slip_size * l.i) (lines (slip_line_at l.ends l.records) l.i) l.initial.sheet l.sheet
