use Rattle.shortest_groups.proofs.GroupMarks.{mark_alone}
use Rattle.shortest_groups.proofs.alone.Goals as goal

pub returns : goal.returns
returns c = mark_alone _ c.requires
