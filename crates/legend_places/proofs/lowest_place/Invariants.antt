-- Invariants: x stands at none of the places passed, so its lowest place is the one in what is left of t; there its last k letters agree.
use mathlib.Core.Path.{◌≡◌}
use Prim.Native.Nat.{◌+◌, ◌-◌}
use lib.ListN.{length}
use Rattle.legend_places.proofs.LowestPlace.{Came, Agrees}
use Rattle.legend_places.proofs.lowest_place.Given as goal

abbrev pub invariant-loop-k : goal.invariant-loop-k
invariant-loop-k l = Agrees l.x l.t l.end l.agreed l.k × (l.end ≡ l.initial.end)

abbrev pub invariant-places : goal.invariant-places
invariant-places l = Came l.x l.t l.end l.agreed

abbrev pub decreases-places : goal.decreases-places
decreases-places l = length l.t + 1 - l.end
