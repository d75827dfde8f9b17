-- Invariant: the first i slips of the order are named, with 0 behind them.
use Rattle.shortest_side.proofs.NameSteps.{Naming}
use Rattle.shortest_side.proofs.name_order.Given as goal

abbrev pub invariant-loop-i : goal.invariant-loop-i
invariant-loop-i l = Naming l.slips l.order l.count l.i l.named
