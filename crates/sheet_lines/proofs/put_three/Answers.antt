use Rattle.sheet_lines.proofs.Lines.{three_put}
use Rattle.sheet_lines.proofs.put_three.Goals as goal

pub returns : goal.returns
returns c = search three_put
