use borrow.Author.Rules.{rules}
use Rattle.fold_letters.proofs.Loops.{placed_more, placed_all}
use Rattle.fold_letters.proofs.fold_in_place.Goals as goal

pub loop-b-preserved : goal.loop-b-preserved
loop-b-preserved c = search (rules, placed_more)

pub returns : goal.returns
returns c = search (rules, placed_all)
