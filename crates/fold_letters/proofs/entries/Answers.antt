-- The premise of fold-table is the test over the whole table, which stands in the goal: it is computed here.
use Rattle.fold_rule.specs.Folding.{fold}
use Rattle.fold_rule.proofs.Bytes.{fold-table}
use Rattle.fold_letters.proofs.entries.Goals as goal

pub returns : goal.returns
unfolding fold
returns c = search fold-table
