-- Invariant: member i stands first in the lists of its proper suffixes of d letters or more that are nodes; those of fewer letters are node u and the
-- nodes on its failure path.
use Prim.Native.Nat.{◌-◌}
use Rattle.kept_lists.proofs.EndLoop.{Falling}
use Rattle.kept_lists.proofs.add_ends.Given as goal

abbrev pub invariant-loop-d : goal.invariant-loop-d
invariant-loop-d l = Falling l.tray.letters.now l.tray.ends.now l.n l.k l.nodes l.initial.work l.j l.i l.span.end l.work l.u (l.d - 1)
