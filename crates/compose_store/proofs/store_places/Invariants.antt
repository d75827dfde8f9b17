-- Invariant: the first i staged records stand at the start of the list, and the rest of it is as it was.
use mathlib.Core.Path.{◌≡◌}
use Rattle.words.specs.Lists.{over}
use Rattle.store_loops.specs.Firsts.{firsts}
use Rattle.compose_store.specs.Steps.Made.{place_at}
use Rattle.compose_store.proofs.store_places.Given as goal

abbrev pub invariant-loop-i : goal.invariant-loop-i
invariant-loop-i l = l.place-items ≡ over (firsts (place_at l.work) l.i) l.initial.place-items
