-- Invariant: the sides of the first tray, and after them those of the first i new slips, stand at the start of the list, and the rest is as it was.
use Rattle.merge_trays.specs.Steps.Merging.{chosen}
use Rattle.merge_trays.proofs.SideLoop.{Putting}
use Rattle.merge_trays.proofs.write_sides.Given as goal

abbrev pub invariant-loop-i : goal.invariant-loop-i
invariant-loop-i l = Putting l.first.sides.now l.second.sides.now (chosen l.fn.new) l.initial.sides l.i l.sides
