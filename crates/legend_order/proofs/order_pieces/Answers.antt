use Rattle.legend_order.proofs.OrderLoop.{arranging_more}
use Rattle.legend_order.proofs.order_pieces.Goals as goal

pub loop-m-preserved : goal.loop-m-preserved
loop-m-preserved c = search arranging_more
