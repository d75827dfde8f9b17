use Rattle.std.proofs.Common.{rules, refl}
use Rattle.sheet_lines.proofs.Lines.{shown, find_all}
use Rattle.sheet_lines.proofs.find_lines.Goals as goal

pub returns : goal.returns
returns c = shown refl (find_all c.args.letters c.args.moves c.args.count c.args.found.now c.find_line.ensures c.found_lines.ensures) (search rules)
