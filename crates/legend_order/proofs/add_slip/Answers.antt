use Rattle.legend_order.proofs.OrderLoop.{slip-added}
use Rattle.legend_order.proofs.add_slip.Goals as goal

pub returns : goal.returns
returns c = search slip-added
