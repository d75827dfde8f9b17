use Rattle.shortest_pairs.proofs.PairLoops.{rows_none}
use Rattle.shortest_pairs.proofs.fill_pairs.Goals as goal

pub loop-a-init : goal.loop-a-init
loop-a-init c = search rows_none
