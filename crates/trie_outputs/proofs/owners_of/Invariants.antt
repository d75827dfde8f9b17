-- Invariant: k of the members that have all letters of node v are counted, and the others are those that TWIN links from member i on.
use Prim.Native.Nat.{◌-◌}
use Rattle.trie_outputs.proofs.OwnersLoop.{Counting}
use Rattle.trie_outputs.proofs.owners_of.Given as goal

abbrev pub invariant-loop-i : goal.invariant-loop-i
invariant-loop-i l = Counting l.tray.letters.now l.tray.ends.now l.n l.nodes l.work l.v l.i l.k

abbrev pub decreases-loop-i : goal.decreases-loop-i
decreases-loop-i l = l.n - l.k
