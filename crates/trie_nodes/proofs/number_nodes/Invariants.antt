-- Invariant: the nodes of 1 to c letters, `nodes` of them, have their numbers: LEVEL, AT and OWN say which, and no other cell has changed.
use Rattle.trie_nodes.specs.Steps.Stages.{AtStage}
use Rattle.trie_nodes.proofs.number_nodes.Given as goal

abbrev pub invariant-loop-c : goal.invariant-loop-c
invariant-loop-c l = AtStage l.tray.letters.now l.tray.ends.now l.n l.c 0 l.initial.work l.nodes l.work
