-- Invariant: for each node before v, KID holds the first node whose parent is not below it; every node before u has a parent before v, and no cell
-- outside KID has changed.
use Prim.Native.Nat.{◌+◌, ◌-◌}
use Rattle.trie_children.proofs.Kids.{FillingKids}
use Rattle.trie_children.proofs.fill_kids.Given as goal

abbrev pub invariant-loop-v : goal.invariant-loop-v
invariant-loop-v l = FillingKids l.tray.letters.now l.tray.ends.now l.n l.nodes l.initial.work l.work l.v l.u

abbrev pub invariant-loop-u : goal.invariant-loop-u
invariant-loop-u l = FillingKids l.tray.letters.now l.tray.ends.now l.n l.nodes l.fn.work l.work l.v l.u

abbrev pub decreases-loop-u : goal.decreases-loop-u
decreases-loop-u l = l.nodes + 2 - l.u
