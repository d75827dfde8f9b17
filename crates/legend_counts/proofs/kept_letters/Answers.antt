use Rattle.legend_counts.proofs.SumLoops.{kept-bound, kept_more}
use Rattle.legend_counts.proofs.kept_letters.Goals as goal

pub loop-slip-preserved : goal.loop-slip-preserved
loop-slip-preserved c = (search kept_more, search kept-bound)
