-- Invariant: the new ones of the first i slips are the first `count` numbers, and have `letters` letters together.
use Rattle.trays.specs.Slips.{slips_of}
use Rattle.merge_rule.specs.Merging.{labelled}
use Rattle.merge_equals.proofs.NewSteps.{Found}
use Rattle.merge_equals.proofs.new_slips.Given as goal

abbrev pub invariant-loop-i : goal.invariant-loop-i
invariant-loop-i l =
    let one = l.first in
    let two = l.second in
    let slips = slips_of two.tray.letters.now two.tray.ends.now in
    Found (labelled (slips_of one.tray.letters.now one.tray.ends.now) one.sides.now) (labelled slips two.sides.now) slips l.i l.count l.letters l.slips
