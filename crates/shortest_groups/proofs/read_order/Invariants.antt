-- Invariant: the first i places of the best order are read; they are the group g, and a is the last of them.
use Rattle.shortest_groups.specs.Steps.Working.{Reading}
use Rattle.shortest_groups.proofs.read_order.Given as goal

abbrev pub invariant-loop-i : goal.invariant-loop-i
invariant-loop-i l = Reading l.table l.k l.i l.g l.a l.order
