use Rattle.walk_offer.proofs.MarkLaws.{own_turn}
use borrow.Author.Rules.{rules}
use Rattle.walk_offer.proofs.own_marks.Goals as goal

pub loop-i-preserved : goal.loop-i-preserved
loop-i-preserved c = search (rules, own_turn)
