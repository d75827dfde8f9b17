use Rattle.shortest_groups.proofs.FillLoop.{try_few, try_ready, try_done}
use Rattle.shortest_groups.proofs.try_group.Goals as goal

pub marks-requires : goal.marks-requires
marks-requires c = try_few c.requires

pub fill_group-requires : goal.fill_group-requires
fill_group-requires c = search try_ready

pub returns-then-marks-n : goal.returns-then-marks-n
returns-then-marks-n c = search try_done
