-- Invariant: `sum` is the number of letters of the first kept slips, which is at most 2000 a slip.
use mathlib.Core.Path.{◌≡◌}
use Prim.Native.Nat.{◌*◌, ◌≤◌}
use lib.ListN.{take}
use Rattle.trays.specs.Slips.{slips_of, total}
use Rattle.legend_counts.proofs.kept_letters.Given as goal

abbrev pub invariant-loop-slip : goal.invariant-loop-slip
invariant-loop-slip l =
    (l.sum ≡ total (slips_of l.tray.letters.now l.tray.ends.now) (take l.slip-index l.kept)) × (l.sum ≤ 2000 * l.slip-index)
