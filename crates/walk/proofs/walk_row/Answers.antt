use Rattle.walk.proofs.RowLoop.{row_visits, row_turn}
use Rattle.walk.proofs.walk_row.Goals as goal

pub visit-made-requires : goal.visit-made-requires
visit-made-requires c = search row_visits

pub loop-v-preserved : goal.loop-v-preserved
loop-v-preserved c = search row_turn
