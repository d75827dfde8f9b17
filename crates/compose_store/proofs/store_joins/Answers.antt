use Rattle.store_loops.proofs.Firsts.{stored_set}
use lib.ListN.{take}
use Rattle.compose_store.specs.Steps.Made.{join_at}
use Rattle.compose_store.proofs.Stored.{stored_all}
use Rattle.compose_store.proofs.store_joins.Goals as goal

pub loop-i-preserved : goal.loop-i-preserved
loop-i-preserved c =
    rw (c.loop-i.invariant, c.join_at.ensures) (stored_set (join_at c.args.work.now) (take c.args.count c.args.joins.now) c.loop-i.i c.loop-i-test.true)

pub returns : goal.returns
returns c =
    stored_all (join_at c.args.work.now) c.args.joins.now _ c.args.count c.loop-i.i c.requires.0
    c.loop-i.invariant c.loop-i.auto.i-end c.loop-i-test.false
