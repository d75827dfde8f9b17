use Rattle.std.proofs.Common.{rules}
use Rattle.merge_trays.proofs.SideLoop.{putting_all, putting_more}
use Rattle.merge_trays.proofs.write_sides.Goals as goal

pub loop-i-preserved : goal.loop-i-preserved
loop-i-preserved c = search (rules, putting_more)

pub returns : goal.returns
returns c = search (rules, putting_all)
