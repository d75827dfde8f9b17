-- Invariant: the lists of the prefixes of member i that end before place p begin with i; behind it, and in all other lists, stand the kept members
-- behind the j-th that begin with the node.
use Rattle.kept_lists.proofs.StartLoop.{Beginning}
use Rattle.kept_lists.proofs.add_starts.Given as goal

abbrev pub invariant-loop-p : goal.invariant-loop-p
invariant-loop-p l = Beginning l.tray.letters.now l.tray.ends.now l.n l.k l.initial.work l.j l.i l.p-end l.work l.p
