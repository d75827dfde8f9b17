use Rattle.sheet_lines.proofs.Lines.{find_put}
use Rattle.sheet_lines.proofs.find_line.Goals as goal

pub returns : goal.returns
returns c = search find_put
