-- Invariant: OUT and TALLY hold the output links and the tallies of the nodes before v, and no cell below OUT has changed.
use Rattle.trie_outputs.proofs.OutputsLoop.{Filling}
use Rattle.trie_outputs.proofs.fill_outputs.Given as goal

abbrev pub invariant-loop-v : goal.invariant-loop-v
invariant-loop-v l = Filling l.tray.letters.now l.tray.ends.now l.n l.nodes l.initial.work l.work l.v
