use Rattle.walk.proofs.WalkLoop.{walk_start, walk_asks, walk_turn, walk_end}
use mathlib.Core.Path.{refl}
use native.Mathlib.Omega.{arith}
use Rattle.walk.proofs.walk.Goals as goal

pub loop-d-init : goal.loop-d-init
loop-d-init c = search walk_start

pub walk_row-made-requires : goal.walk_row-made-requires
walk_row-made-requires c =
    walk_asks c.loop-d.invariant (omega (arith, c.loop-d-test.true))

pub loop-d-preserved : goal.loop-d-preserved
loop-d-preserved c =
    walk_turn c.loop-d.invariant (omega (arith, c.loop-d-test.true)) _ c.walk_row-made.ensures refl

pub returns : goal.returns
returns c = search walk_end

pub returns-2 : goal.returns-2
returns-2 c =
    walk_end (walk_turn c.loop-d.invariant (omega (arith, c.loop-d-test.true)) _ c.walk_row-made.ensures refl) (omega arith)
