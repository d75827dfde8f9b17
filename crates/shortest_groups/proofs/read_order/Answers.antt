use Prim.Native.Nat.{◌<◌}
use native.Mathlib.Omega.{arith}
use Rattle.std.proofs.Common.{rules}
use Rattle.trays.specs.Limits.{max_shortest}
use Rattle.shortest_groups.proofs.ReadLoop.{read_start, read_group, next_place, next_free, read_more}
use Rattle.shortest_groups.proofs.read_order.Goals as goal

pub loop-i-init : goal.loop-i-init
loop-i-init c = search read_start

pub overflow_cast-order : goal.overflow_cast-order
overflow_cast-order c = let l : c.unwrap-a.result.place < max_shortest = search (rules, next_place) in record { fits = omega arith }

pub marked-g-requires : goal.marked-g-requires
marked-g-requires c = (search read_group, search (rules, next_place), search (rules, next_free))

pub loop-i-preserved : goal.loop-i-preserved
loop-i-preserved c = search (rules, read_more)
