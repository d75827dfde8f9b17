use Rattle.trie_outputs.proofs.OutputsLoop.{telling_sum, telling_tallied}
use Rattle.trie_outputs.proofs.tally.Goals as goal

pub overflow_add-result : goal.overflow_add-result
overflow_add-result c = search telling_sum

pub returns : goal.returns
returns c = search telling_tallied
