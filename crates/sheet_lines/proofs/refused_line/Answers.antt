use Rattle.std.proofs.Common.{rules, refl}
use Rattle.sheet_lines.proofs.Lines.{shown, refused_put}
use Rattle.sheet_lines.proofs.refused_line.Goals as goal

pub returns : goal.returns
returns c = shown refl (refused_put _ _ _ _ _ _ _ _ c.from.ensures c.text.ensures c.number.ensures c.number-2.ensures c.byte.ensures) (search rules)
