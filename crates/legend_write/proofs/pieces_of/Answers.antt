use Rattle.legend_write.proofs.StageSteps.{stage_asks, stage_gives}
use Rattle.legend_write.proofs.pieces_of.Goals as goal

pub all_pieces-requires : goal.all_pieces-requires
all_pieces-requires c = search stage_asks

pub returns : goal.returns
returns c = search stage_gives
