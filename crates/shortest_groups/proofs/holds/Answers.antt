use Rattle.shortest_groups.proofs.GroupMarks.{bit-and}
use Rattle.shortest_groups.proofs.holds.Goals as goal

pub returns : goal.returns
returns c = rw (bit-and c.args.g c.args.a)
