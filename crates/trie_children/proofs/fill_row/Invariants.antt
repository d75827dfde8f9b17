-- Invariant: in the row of NEAR of node v the cells of the letters before c hold its children by them, and no cell outside that row has changed.
use Rattle.trie_children.proofs.Near.{FillingRow}
use Rattle.trie_children.proofs.fill_row.Given as goal

abbrev pub invariant-loop-c : goal.invariant-loop-c
invariant-loop-c l = FillingRow l.tray.letters.now l.tray.ends.now l.n l.nodes l.initial.work l.work l.v l.c
