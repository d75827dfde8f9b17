-- Invariant: the rows before a are filled, and the first b cells of row a.
use Rattle.shortest_pairs.specs.Steps.Pairing.{PairedTo}
use Rattle.shortest_pairs.proofs.fill_row.Given as goal

abbrev pub invariant-loop-b : goal.invariant-loop-b
invariant-loop-b l = PairedTo l.least l.tray.letters.now l.tray.ends.now l.kept l.k l.a l.b l.initial.table l.table
