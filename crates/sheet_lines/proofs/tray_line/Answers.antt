use Rattle.sheet_lines.proofs.Lines.{head_put}
use Rattle.sheet_lines.proofs.tray_line.Goals as goal

pub returns : goal.returns
returns c = search head_put
