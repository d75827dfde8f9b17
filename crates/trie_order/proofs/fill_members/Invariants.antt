-- Invariant: the first i cells of the table hold the numbers from 1 to i, and no cell outside the table has changed.
use Rattle.words.specs.Lists.{up_from}
use Rattle.tables.proofs.Tables.{Filling}
use Rattle.trie_order.proofs.fill_members.Given as goal

abbrev pub invariant-loop-i : goal.invariant-loop-i
invariant-loop-i l = Filling l.base l.n (up_from 1 l.n) l.i l.initial.work l.work
