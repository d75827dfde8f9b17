use borrow.Author.Rules.{rules}
use Rattle.trie_nodes.proofs.StageLoops.{nodes_begin, nodes_all}
use Rattle.trie_nodes.proofs.number_nodes.Goals as goal

pub loop-c-init : goal.loop-c-init
loop-c-init c = search (rules, nodes_begin)

pub returns : goal.returns
returns c = search (rules, nodes_all)
