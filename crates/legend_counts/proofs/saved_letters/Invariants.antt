-- Invariant: `sum` is the sum of the overlaps of the first i joins, which is at most 65536 a join.
use mathlib.Core.Path.{◌≡◌}
use Prim.Native.Nat.{◌*◌, ◌≤◌}
use Rattle.legend_counts.specs.Steps.Counting.{thirds}
use Rattle.legend_counts.proofs.saved_letters.Given as goal

abbrev pub invariant-loop-i : goal.invariant-loop-i
invariant-loop-i l = (l.sum ≡ thirds l.joins l.i) × (l.sum ≤ 65536 * l.i)
