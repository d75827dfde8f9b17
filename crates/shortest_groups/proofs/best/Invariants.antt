-- Invariant: what was found is the best of the first j places.
use Rattle.shortest_groups.specs.Steps.NextPlace.{value_of, place_of, Seeking}
use Rattle.shortest_groups.proofs.best.Given as goal

abbrev pub invariant-loop-j : goal.invariant-loop-j
invariant-loop-j l = Seeking l.table l.g l.a l.j (value_of l.found) (place_of l.found)
