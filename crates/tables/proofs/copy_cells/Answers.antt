use Rattle.tables.proofs.CopyLoop.{cells_none, cells_more}
use borrow.Author.Rules.{rules}
use Rattle.tables.proofs.copy_cells.Goals as goal

pub loop-i-init : goal.loop-i-init
loop-i-init c = (cells_none _ _ _, search rules)

pub loop-i-preserved : goal.loop-i-preserved
loop-i-preserved c = (search cells_more, search rules)
