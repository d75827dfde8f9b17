-- Invariant: `state` is the node of the longest suffix of the letters read so far that is a node; `moves` and `found`, with what the rest of the
-- text makes from there, are the moves and occurrences of the text.
use Rattle.trie_scan.proofs.CountLoop.{Counting}
use Rattle.trie_scan.proofs.count_text.Given as goal

abbrev pub invariant-loop-c : goal.invariant-loop-c
invariant-loop-c l = Counting l.tray.letters.now l.tray.ends.now l.text l.n l.nodes l.work l.state l.moves l.found l.c-index
