-- Invariant: no child of node v before u has the letter c, so the child by c, if there is one, is u or a later node; v's children are the nodes from
-- KID v up to `end`.
use Rattle.trie_children.proofs.Children.{Scanning}
use Rattle.trie_children.proofs.scan_child.Given as goal

abbrev pub invariant-loop-u : goal.invariant-loop-u
invariant-loop-u l = Scanning l.tray.letters.now l.tray.ends.now l.n l.nodes l.work l.v l.c l.end l.u
