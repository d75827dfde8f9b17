use Rattle.tables.proofs.Tables.{part_cleared}
use borrow.Author.Rules.{rules}
use Rattle.tables.proofs.clear.Goals as goal

pub returns : goal.returns
returns c = part_cleared c.args.work.now c.args.base c.args.n _ c.requires (c.fill.ensures.after (search rules))
