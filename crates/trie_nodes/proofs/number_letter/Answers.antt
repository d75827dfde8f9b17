use Rattle.trie_nodes.proofs.StageLoops.{lettered_new}
use Rattle.trie_nodes.proofs.number_letter.Goals as goal

pub returns-then-common-c : goal.returns-then-common-c
returns-then-common-c c = search lettered_new
