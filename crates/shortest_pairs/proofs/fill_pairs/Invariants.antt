-- Invariant: the rows before a are filled.
use Rattle.shortest_pairs.specs.Steps.Pairing.{PairedTo}
use Rattle.shortest_pairs.proofs.fill_pairs.Given as goal

abbrev pub invariant-loop-a : goal.invariant-loop-a
invariant-loop-a l = PairedTo l.least l.tray.letters.now l.tray.ends.now l.kept l.k l.a 0 l.initial.table l.table
