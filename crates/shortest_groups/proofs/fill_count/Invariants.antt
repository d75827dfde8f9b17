-- Invariant: of the groups of n places those below g are filled.
use Rattle.shortest_groups.specs.Steps.Working.{Filling}
use Rattle.shortest_groups.proofs.fill_count.Given as goal

abbrev pub invariant-loop-g : goal.invariant-loop-g
invariant-loop-g l = Filling l.initial.table l.k l.n l.g l.table
