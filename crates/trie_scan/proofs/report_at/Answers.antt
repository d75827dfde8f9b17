use Rattle.trie_scan.proofs.Reports.{told_node, nothing, here_node, here-behind}
use Rattle.trie_scan.proofs.report_at.Goals as goal

pub returns-then-v-eq0 : goal.returns-then-v-eq0
returns-then-v-eq0 c = search nothing

pub returns-then-slip-ne0 : goal.returns-then-slip-ne0
returns-then-slip-ne0 c = search (here_node, told_node)

pub returns : goal.returns
returns c = search (here-behind, told_node)
