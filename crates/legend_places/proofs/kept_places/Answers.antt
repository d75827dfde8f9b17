use Rattle.legend_places.proofs.PlacesLoop.{placing_turn}
use Rattle.legend_places.proofs.kept_places.Goals as goal

pub loop-q-preserved : goal.loop-q-preserved
loop-q-preserved c = search placing_turn
