use Rattle.shortest_groups.proofs.FillLoop.{groups_start}
use Rattle.shortest_groups.proofs.fill_groups.Goals as goal

pub loop-n-init : goal.loop-n-init
loop-n-init c = search groups_start
