use Rattle.sheet_lines.proofs.LineLoops.{found_turn}
use Rattle.sheet_lines.proofs.found_lines.Goals as goal

pub loop-i-preserved : goal.loop-i-preserved
loop-i-preserved c = search found_turn
