use borrow.Author.Rules.{rules}
use Rattle.fold_letters.proofs.Loops.{filed_more, filed_all}
use Rattle.fold_letters.proofs.file_letters.Goals as goal

pub loop-i-preserved : goal.loop-i-preserved
loop-i-preserved c = search (rules, filed_more)

pub returns : goal.returns
returns c = search (rules, filed_all)
