use Rattle.sheet_lines.proofs.LineLoops.{slip_turn}
use Rattle.sheet_lines.proofs.slip_lines.Goals as goal

pub loop-i-preserved : goal.loop-i-preserved
loop-i-preserved c = search slip_turn
