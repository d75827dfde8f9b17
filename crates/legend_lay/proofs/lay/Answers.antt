use Rattle.legend_lay.proofs.LayStep.{lay_one, lay_more}
use Rattle.legend_lay.proofs.lay.Goals as goal

pub lay_piece-here-requires : goal.lay_piece-here-requires
lay_piece-here-requires c = search lay_one

pub loop-i-preserved : goal.loop-i-preserved
loop-i-preserved c = search lay_more
