use Rattle.store_loops.proofs.Firsts.{stored_set}
use lib.ListN.{take}
use Rattle.compose_store.specs.Steps.Made.{place_at}
use Rattle.compose_store.proofs.Stored.{stored_all}
use Rattle.compose_store.proofs.store_places.Goals as goal

pub loop-i-preserved : goal.loop-i-preserved
loop-i-preserved c =
    rw (c.loop-i.invariant, c.place_at.ensures) (stored_set (place_at c.args.work.now) (take c.args.count c.args.places.now) c.loop-i.i c.loop-i-test.true)

pub returns : goal.returns
returns c =
    stored_all (place_at c.args.work.now) c.args.places.now _ c.args.count c.loop-i.i c.requires.0
    c.loop-i.invariant c.loop-i.auto.i-end c.loop-i-test.false
