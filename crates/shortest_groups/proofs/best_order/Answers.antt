use Rattle.shortest_groups.proofs.ReadLoop.{read_ordered}
use Rattle.shortest_groups.proofs.best_order.Goals as goal

pub returns : goal.returns
returns c = search read_ordered
