use Rattle.sheet_lines.proofs.Lines.{found_put}
use Rattle.sheet_lines.proofs.found_line.Goals as goal

pub returns : goal.returns
returns c = search found_put
