use Rattle.file_line.proofs.LineEnds.{ends_at, ends_so}
use Rattle.file_line.proofs.line_length.Goals as goal

pub returns-in-Some : goal.returns-in-Some
returns-in-Some c = ends_at c.args.text.now c.in-Some.i c.in-Some.ensures

pub returns-in-None : goal.returns-in-None
returns-in-None c = ends_so c.args.text.now c.in-None.ensures
