use Rattle.shortest_groups.proofs.SeekLoop.{seek_asks}
use Rattle.shortest_groups.proofs.best.Goals as goal

pub step-found-requires : goal.step-found-requires
step-found-requires c = search seek_asks
