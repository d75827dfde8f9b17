use Rattle.sheet_lines.proofs.LineLoops.{join_turn}
use Rattle.sheet_lines.proofs.join_lines.Goals as goal

pub loop-i-preserved : goal.loop-i-preserved
loop-i-preserved c = search join_turn
