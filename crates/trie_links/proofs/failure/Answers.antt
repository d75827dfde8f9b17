use Rattle.trie_children.proofs.Parents.{placed, lettered}
use Rattle.trie_links.proofs.Fails.{link_root, link_room, link_can, link_step}
use Rattle.trie_links.proofs.failure.Goals as goal

pub parent-above-requires : goal.parent-above-requires
parent-above-requires c = search placed

pub returns-then-above-eq0 : goal.returns-then-above-eq0
returns-then-above-eq0 c = search link_root

pub at-from-requires : goal.at-from-requires
at-from-requires c = search link_room

pub letter-c-requires : goal.letter-c-requires
letter-c-requires c = search lettered

pub step-requires : goal.step-requires
step-requires c = search link_can

pub returns : goal.returns
returns c = search link_step
