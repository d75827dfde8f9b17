use Rattle.tray_cut.proofs.SideLoop.{picking_yes, picking_no}
use Rattle.tray_cut.proofs.side_slips.Goals as goal
use Rattle.tray_cut.proofs.side_slips.Goals.{then-own-side, else-own-side}
use borrow.Author.Rules.{rules}

pub loop-i-preserved : goal.loop-i-preserved
loop-i-preserved c =
    elim c.if-own-side.branch [
      | then-own-side w ↦ rw (w.slips-is, w.count-is) (search (rules, picking_yes))
      | else-own-side w ↦ rw (w.slips-is, w.count-is) (search (rules, picking_no))
    ]
