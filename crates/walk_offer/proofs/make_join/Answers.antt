use Rattle.walk_offer.proofs.OfferStep.{join-fits, join-ends_fit, join_made}
use Rattle.walk_offer.proofs.make_join.Goals as goal

pub put_join-made-requires : goal.put_join-made-requires
put_join-made-requires c = search join-fits

pub join_ends-requires : goal.join_ends-requires
join_ends-requires c = search join-ends_fit

pub returns : goal.returns
returns c = search join_made
