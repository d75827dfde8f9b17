-- Invariant: to visit the nodes of the row from node v on makes of the joins made so far what the whole row makes; the marks are those of the joins made.
use Rattle.walk.proofs.RowLoop.{RowWalking}
use Rattle.walk.proofs.walk_row.Given as goal

abbrev pub invariant-loop-v : goal.invariant-loop-v
invariant-loop-v l =
    RowWalking l.tray.letters.now l.tray.ends.now l.n l.k l.nodes l.initial.work l.d l.count l.work l.made l.v l.end l.marks
