-- Invariant: the scan y has reported as many occurrences as x, not yet all, and those that are left are what it has to report at its place and what
-- the rest of the text brings.
use Prim.Native.Nat.{◌-◌}
use lib.ListN.{length}
use Rattle.trie_scan.proofs.Scans.{Reaching}
use Rattle.trie_scan.proofs.advance.Given as goal

abbrev pub invariant-loop-y : goal.invariant-loop-y
invariant-loop-y l = Reaching l.tray.letters.now l.tray.ends.now l.text l.n l.nodes l.work l.initial.y l.y

abbrev pub decreases-loop-y : goal.decreases-loop-y
decreases-loop-y l = length l.text - l.y.read
