use Rattle.tables.proofs.Tables.{filling_none, filling_more, filling_all}
use Rattle.words.proofs.Runs.{length-up_from}
use Rattle.trie_order.proofs.AllMembers.{member_at}
use borrow.Author.Rules.{rules}
use Rattle.trie_order.proofs.fill_members.Goals as goal

pub loop-i-init : goal.loop-i-init
loop-i-init c = search (rules, filling_none)

pub loop-i-preserved : goal.loop-i-preserved
loop-i-preserved c = search (rules, filling_more, length-up_from, member_at)

pub returns : goal.returns
returns c = search (rules, filling_all, length-up_from)
