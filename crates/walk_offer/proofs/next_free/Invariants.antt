-- Invariant: every slip of the list from `from` up to l has a right neighbour, so those that have none are found from l on.
use lib.ListN.{length}
use Rattle.walk_offer.specs.Steps.Runs.{enders_from}
use Rattle.walk_offer.proofs.FreeLoop.{Searching}
use Rattle.walk_offer.proofs.next_free.Given as goal

abbrev pub invariant-loop-l : goal.invariant-loop-l
invariant-loop-l l = Searching l.ends l.work l.d l.right l.from l.l

abbrev pub decreases-loop-l : goal.decreases-loop-l
decreases-loop-l l = length (enders_from l.work l.ends l.d l.l)
