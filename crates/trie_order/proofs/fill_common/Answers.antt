use Rattle.tables.proofs.Tables.{filling_none, filling_all}
use Rattle.trie_order.proofs.CommonTable.{fill_members, fill_place, fill_more, fill_size}
use borrow.Author.Rules.{rules}
use Rattle.trie_order.proofs.fill_common.Goals as goal

pub loop-i-init : goal.loop-i-init
loop-i-init c = search (rules, filling_none)

pub common_at-x-requires : goal.common_at-x-requires
common_at-x-requires c = search (rules, fill_members, fill_place)

pub loop-i-preserved : goal.loop-i-preserved
loop-i-preserved c = search (rules, fill_more)

pub returns : goal.returns
returns c = search (rules, filling_all, fill_size)
