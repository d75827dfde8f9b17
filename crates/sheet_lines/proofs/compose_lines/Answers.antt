use Rattle.std.proofs.Common.{rules, refl}
use Rattle.sheet_lines.proofs.Lines.{shown, compose_put}
use Rattle.sheet_lines.proofs.compose_lines.Goals as goal

pub returns : goal.returns
returns c =
    shown refl
    (compose_put c.args.side c.args.c c.args.ends.now c.args.joins.now c.args.records.now c.args.legend.now c.tray_line.ensures c.slip_lines.ensures
    c.join_lines.ensures c.text.ensures c.byte.ensures)
    (search rules)
