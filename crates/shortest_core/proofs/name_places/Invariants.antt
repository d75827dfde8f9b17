-- Invariant: the slips at the first i places stand in the order, with 0 behind them.
use Prim.Native.Nat.{◌-◌}
use Rattle.shortest_core.proofs.OrderSteps.{Naming}
use Rattle.shortest_core.proofs.name_places.Given as goal

abbrev pub invariant-loop-i : goal.invariant-loop-i
invariant-loop-i l = Naming l.kept l.places l.k l.i l.order
