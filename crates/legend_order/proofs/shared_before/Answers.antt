use Rattle.legend_order.proofs.OrderLoop.{shared_some}
use Rattle.legend_order.proofs.shared_before.Goals as goal

pub returns : goal.returns
returns c = search shared_some
