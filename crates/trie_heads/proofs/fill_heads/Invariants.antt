-- Invariant: the list of each node in HEAD holds the members from the j-th on that have just its letters, ascending; no cell below HEAD has changed.
use Rattle.layout.specs.Layout.{HEAD}
use Rattle.layout.specs.Numbered.{SameBelow}
use Rattle.trie_heads.proofs.HeadLoop.{Heading}
use Rattle.trie_heads.proofs.fill_heads.Given as goal

abbrev pub invariant-loop-j : goal.invariant-loop-j
invariant-loop-j l = Heading l.tray.letters.now l.tray.ends.now l.n l.nodes l.work l.j × SameBelow HEAD l.initial.work l.work
