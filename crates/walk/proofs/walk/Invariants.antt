-- Invariant: the nodes of more than d letters are visited: to visit the others that count, of ever fewer letters, makes of the joins made so far all
-- joins of the walk; the marks are those of the joins made.
use Rattle.walk.proofs.WalkLoop.{Walking}
use Rattle.walk.proofs.walk.Given as goal

abbrev pub invariant-loop-d : goal.invariant-loop-d
invariant-loop-d l =
    Walking l.least l.tray.letters.now l.tray.ends.now l.n l.k l.nodes l.initial.work l.work l.made l.d l.marks
