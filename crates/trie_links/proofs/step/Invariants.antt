-- Invariant: the step from node v by the letter c is the step from `state` with `drops` drops made before it; each drop, along a failure link, led to
-- a lower node.
use Rattle.trie_links.proofs.Steps.{Dropping}
use Rattle.trie_links.proofs.step.Given as goal

abbrev pub invariant-loop-n : goal.invariant-loop-n
invariant-loop-n l = Dropping l.tray.letters.now l.tray.ends.now l.n l.nodes l.work l.v l.c l.state l.drops

abbrev pub decreases-loop-n : goal.decreases-loop-n
decreases-loop-n l = l.state
