-- Invariant: to offer the slips from r on to those from l on makes of the joins made so far all joins of the visit; the marks are those of the joins
-- made, and no cell outside JOINS has changed.
use lib.ListN.{length}
use Rattle.walk_offer.specs.Steps.Runs.{starters_from}
use Rattle.walk.proofs.VisitLoop.{Visiting}
use Rattle.walk.proofs.visit.Given as goal

abbrev pub invariant-loop-r : goal.invariant-loop-r
invariant-loop-r l =
    Visiting l.ends l.d l.v l.initial.work l.count l.work l.made l.l l.r l.marks

abbrev pub decreases-loop-r : goal.decreases-loop-r
decreases-loop-r l =
    length (starters_from l.initial.work l.ends l.d l.r)
