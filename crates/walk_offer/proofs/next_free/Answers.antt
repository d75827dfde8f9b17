use Rattle.walk_offer.proofs.FreeLoop.{free_real, free_within, free_turn, free-less}
use borrow.Author.Rules.{rules}
use Rattle.walk_offer.proofs.next_free.Goals as goal

pub mark_of-requires : goal.mark_of-requires
mark_of-requires c = (search rules, search free_within)

pub next_ender-l-requires-clause-real : goal.next_ender-l-requires-clause-real
next_ender-l-requires-clause-real c = search free_real

pub loop-l-smaller : goal.loop-l-smaller
loop-l-smaller c = search free-less

pub loop-l-preserved : goal.loop-l-preserved
loop-l-preserved c =
    free_turn c.loop-l.invariant (search rules) c.mark_of.ensures (search rules) c.next_ender-l.ensures
