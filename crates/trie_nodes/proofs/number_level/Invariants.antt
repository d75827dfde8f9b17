-- Invariant: the nodes of 1 to c letters, and those of c + 1 letters that the first r members in order begin with, have their numbers, k in all:
-- LEVEL, AT and OWN say which, and no other cell has changed.
use Rattle.trie_nodes.specs.Steps.Stages.{AtStage}
use Rattle.trie_nodes.proofs.number_level.Given as goal

abbrev pub invariant-loop-r : goal.invariant-loop-r
invariant-loop-r l = AtStage l.tray.letters.now l.tray.ends.now l.n l.c l.r l.initial.work l.k l.work
