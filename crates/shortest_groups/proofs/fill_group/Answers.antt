use Rattle.std.proofs.Common.{rules}
use Rattle.shortest_groups.proofs.StoreLoop.{storing_more}
use Rattle.shortest_groups.proofs.fill_group.Goals as goal

pub loop-a-preserved : goal.loop-a-preserved
loop-a-preserved c = search (rules, storing_more)
