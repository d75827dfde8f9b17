use Rattle.std.proofs.Common.{rules}
use mathlib.Core.Path.{◌∙◌, sym}
use Rattle.tray_check.proofs.SideRows.{sides_good, sides_long, sides_other, sides_named}
use Rattle.tray_check.proofs.check_sides.Goals.{else-sides-ends-via-then-sides-ends+then-all_sides+else-is_side, else-sides-ends-via-then-sides-ends+else-all_sides, else-sides-ends-via-else-sides-ends}
use Rattle.tray_check.proofs.check_sides.Goals as goal

pub returns-then-is_side : goal.returns-then-is_side
returns-then-is_side c = search (rules, sides_good)

pub returns : goal.returns
returns c =
    elim c.else-sides-ends.branch [
      | else-sides-ends-via-then-sides-ends+then-all_sides+else-is_side w ↦ sides_named c.args.ends.now c.args.sides.now c.args.side w.if-is_side.ensures
      | else-sides-ends-via-then-sides-ends+else-all_sides w ↦ sides_other c.args.ends.now c.args.sides.now c.args.side _ w.all_sides.ensures w.if-all_sides.false
      | else-sides-ends-via-else-sides-ends w ↦ sides_long c.args.ends.now c.args.sides.now c.args.side w.if-sides-ends.false
    ]
