-- Invariant: FAIL holds the failure links of the nodes before v, and no cell outside FAIL has changed.
use Rattle.trie_links.proofs.Fails.{FillingFails}
use Rattle.trie_links.proofs.fill_fails.Given as goal

abbrev pub invariant-loop-v : goal.invariant-loop-v
invariant-loop-v l = FillingFails l.tray.letters.now l.tray.ends.now l.n l.nodes l.initial.work l.work l.v
