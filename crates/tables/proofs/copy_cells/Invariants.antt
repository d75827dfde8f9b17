-- Invariant: the first i cells of the table stand at the start of `out`, and the rest of `out` is as it was.
use mathlib.Core.Path.{◌≡◌}
use lib.ListN.{length}
use Rattle.words.specs.Lists.{over}
use Rattle.tables.specs.Tables.{table}
use Rattle.tables.proofs.copy_cells.Given as goal

abbrev pub invariant-loop-i : goal.invariant-loop-i
invariant-loop-i l = (l.out ≡ over (table l.work l.base l.i) l.initial.out) × (length l.out ≡ length l.initial.out)
