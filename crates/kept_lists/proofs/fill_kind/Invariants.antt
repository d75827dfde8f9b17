-- Invariant: the list of each node holds the kept members from the j-th on that have it as such an affix, ascending; no cell below the heads has changed.
use Rattle.kept_lists.specs.Steps.KeptLists.{ListedTo}
use Rattle.kept_lists.proofs.fill_kind.Given as goal

abbrev pub invariant-loop-j : goal.invariant-loop-j
invariant-loop-j g l = ListedTo g.affix l.tray.letters.now l.tray.ends.now l.n l.k l.nodes l.initial.work l.j l.work
