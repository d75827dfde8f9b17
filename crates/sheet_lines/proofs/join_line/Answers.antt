use Rattle.sheet_lines.proofs.Lines.{join-put}
use Rattle.sheet_lines.proofs.join_line.Goals as goal

pub returns : goal.returns
returns c = search join-put
