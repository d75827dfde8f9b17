use Rattle.trie_order.proofs.SortLoops.{sort_insertable, sort_more}
use borrow.Author.Rules.{rules}
use Rattle.trie_order.proofs.sort.Goals as goal

pub insert_first-requires : goal.insert_first-requires
insert_first-requires c = search sort_insertable

pub loop-m-preserved : goal.loop-m-preserved
loop-m-preserved c = (search rules, search sort_more)
