-- Invariant: the failure link of every node before v is marked, every marked node is the failure link of a node, and no cell below MARK has changed.
use Rattle.layout.specs.Layout.{MARK}
use Rattle.layout.specs.Numbered.{SameBelow}
use Rattle.kept_slips.proofs.MarkLoop.{Marking}
use Rattle.kept_slips.proofs.fill_marks.Given as goal

abbrev pub invariant-loop-v : goal.invariant-loop-v
invariant-loop-v l = Marking l.tray.letters.now l.tray.ends.now l.n l.nodes l.work l.v × SameBelow MARK l.initial.work l.work
