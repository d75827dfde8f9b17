use Rattle.trie_order.proofs.RankLoop.{passed_to, failed_from, rank_found, middle_least, middle_most}
use borrow.Author.Rules.{rules}
use Rattle.trie_order.proofs.rank.Goals as goal

pub member_below-requires : goal.member_below-requires
member_below-requires c = search (rules, middle_least, middle_most)

pub loop-low-preserved-then-member_below : goal.loop-low-preserved-then-member_below
loop-low-preserved-then-member_below c = (search rules, search rules, search passed_to, search rules)

pub loop-low-preserved : goal.loop-low-preserved
loop-low-preserved c = (search rules, search rules, search rules, search failed_from)

pub returns : goal.returns
returns c = search rank_found
