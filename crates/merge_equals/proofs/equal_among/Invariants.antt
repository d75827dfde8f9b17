-- Invariant: none of the first i slips is of this side and has the letters x.
use mathlib.Core.Path.{◌≡◌}
use mathlib.Core.Bool.{false}
use mathlib.Core.List.{◌∷◌}
use Prim.Native.Nat.{◌≤◌}
use lib.ListN.{take}
use Rattle.words.specs.Lists.{any}
use Rattle.words.specs.Words.{same}
use Rattle.trays.specs.Slips.{slips_of}
use Rattle.merge_rule.specs.Merging.{labelled}
use Rattle.merge_equals.proofs.equal_among.Given as goal

abbrev pub invariant-loop-i : goal.invariant-loop-i
invariant-loop-i l =
    (l.i ≤ l.n)
    × (any (same (l.side ∷ l.x)) (take l.i (labelled (slips_of l.among.tray.letters.now l.among.tray.ends.now) l.among.sides.now)) ≡ false)
