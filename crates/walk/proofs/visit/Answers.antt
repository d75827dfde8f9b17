use Rattle.walk.proofs.VisitLoop.{visit_searches, visit_real, visit_offers, visit-less, visit_turn}
use Rattle.walk.proofs.visit.Goals as goal

pub next_free-l-requires : goal.next_free-l-requires
next_free-l-requires c = search visit_searches

pub offer-made-requires : goal.offer-made-requires
offer-made-requires c =
    visit_offers c.loop-r.invariant c.loop-r-test.true c.next_free-l.ensures

pub next_starter-r-requires-clause-real : goal.next_starter-r-requires-clause-real
next_starter-r-requires-clause-real c = visit_real c.loop-r.invariant c.loop-r-test.true

pub loop-r-smaller : goal.loop-r-smaller
loop-r-smaller c = search visit-less

pub loop-r-preserved : goal.loop-r-preserved
loop-r-preserved c = search visit_turn
