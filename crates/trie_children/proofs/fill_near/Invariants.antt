-- Invariant: the rows of NEAR of the nodes before v hold their children by each letter, and no cell outside NEAR has changed.
use Rattle.trie_children.proofs.Near.{FillingNear}
use Rattle.trie_children.proofs.fill_near.Given as goal

abbrev pub invariant-loop-v : goal.invariant-loop-v
invariant-loop-v l = FillingNear l.tray.letters.now l.tray.ends.now l.n l.nodes l.initial.work l.work l.v
