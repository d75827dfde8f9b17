-- Invariant: the cells of the first a places are filled.
use Rattle.shortest_groups.specs.Steps.Working.{Storing}
use Rattle.shortest_groups.proofs.fill_group.Given as goal

abbrev pub invariant-loop-a : goal.invariant-loop-a
invariant-loop-a l = Storing l.initial.table l.k l.g l.a l.table
