-- Invariant: of the first i slips those of the side are the first `count` numbers.
use Rattle.tray_cut.proofs.SideLoop.{Picking}
use Rattle.tray_cut.proofs.side_slips.Given as goal

abbrev pub invariant-loop-i : goal.invariant-loop-i
invariant-loop-i l = Picking l.sides l.side l.i l.count l.slips
