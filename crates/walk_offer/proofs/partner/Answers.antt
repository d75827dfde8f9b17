use Rattle.walk_offer.proofs.FreeLoop.{choose-first, choose_real, choose_next, choose_second}
use Rattle.walk_offer.proofs.partner.Goals as goal

pub next_ender-requires-clause-real : goal.next_ender-requires-clause-real
next_ender-requires-clause-real c = search choose_real

pub next_free-requires : goal.next_free-requires
next_free-requires c = search choose_next

pub returns-then-l-m : goal.returns-then-l-m
returns-then-l-m c = search choose_second

pub returns-else-l-m : goal.returns-else-l-m
returns-else-l-m c = search choose-first
