use Rattle.trie_outputs.proofs.OwnersLoop.{counting_start, counting_room, counting_less, counting_more, counting_all}
use Rattle.trie_outputs.proofs.owners_of.Goals as goal

pub loop-i-init : goal.loop-i-init
loop-i-init c = search counting_start

pub at-i-requires-in-loop-i : goal.at-i-requires-in-loop-i
at-i-requires-in-loop-i c = search counting_room

pub loop-i-smaller : goal.loop-i-smaller
loop-i-smaller c = search counting_less

pub loop-i-preserved : goal.loop-i-preserved
loop-i-preserved c = search counting_more

pub returns : goal.returns
returns c = search counting_all
