-- Invariant: the groups of n places and more are filled.
use Rattle.shortest_groups.specs.Steps.Working.{Filling}
use Rattle.shortest_groups.proofs.fill_groups.Given as goal

abbrev pub invariant-loop-n : goal.invariant-loop-n
invariant-loop-n l = Filling l.initial.table l.k l.n 0 l.table
