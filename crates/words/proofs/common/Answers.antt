use Rattle.words.proofs.CommonLoop.{common_more, common-differs, common_all}
use borrow.Author.Rules.{rules}
use Rattle.words.proofs.common.Goals as goal

pub returns-then-a-n : goal.returns-then-a-n
returns-then-a-n c = search (rules, common-differs)

pub loop-n-preserved : goal.loop-n-preserved
loop-n-preserved c = (search rules, search (rules, common_more))

pub returns : goal.returns
returns c = search (rules, common_all)
