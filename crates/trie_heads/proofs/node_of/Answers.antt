use Rattle.trie_heads.proofs.MemberNodes.{among_end, among-place, among_node}
use Rattle.trie_heads.proofs.node_of.Goals as goal

pub overflow_sub-slip_span : goal.overflow_sub-slip_span
overflow_sub-slip_span c = search among_end

pub at-requires : goal.at-requires
at-requires c = search among-place

pub returns : goal.returns
returns c = search among_node
