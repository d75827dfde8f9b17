use Rattle.trie_scan.proofs.Reports.{behind_root, behind_node}
use Rattle.trie_scan.proofs.report_behind.Goals as goal

pub returns-then-node-eq0 : goal.returns-then-node-eq0
returns-then-node-eq0 c =
    rw c.if-node-eq0.true (behind_root c.requires.at_node.told c.requires.num c.at-node.ensures c.if-node-eq0.true)

pub returns-else-node-eq0 : goal.returns-else-node-eq0
returns-else-node-eq0 c = search behind_node
