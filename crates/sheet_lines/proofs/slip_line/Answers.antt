use Rattle.sheet_lines.proofs.Lines.{slip-put}
use Rattle.sheet_lines.proofs.slip_line.Goals as goal

pub returns : goal.returns
returns c = search slip-put
