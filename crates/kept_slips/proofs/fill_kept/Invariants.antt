-- Invariant: the first k cells of KEPT hold those of the first j members that are not set aside, and no cell below KEPT has changed.
use Rattle.layout.specs.Layout.{KEPT}
use Rattle.layout.specs.Numbered.{SameBelow}
use Rattle.kept_slips.proofs.KeptLoop.{Sifting}
use Rattle.kept_slips.proofs.fill_kept.Given as goal

abbrev pub invariant-loop-j : goal.invariant-loop-j
invariant-loop-j l = Sifting l.tray.letters.now l.tray.ends.now l.n l.nodes l.work l.j l.k × SameBelow KEPT l.initial.work l.work
