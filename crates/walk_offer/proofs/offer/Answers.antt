use Rattle.walk_offer.proofs.OfferStep.{offer_refused, offer_nobody, offer_joinable, offer_joins}
use Rattle.walk_offer.proofs.offer.Goals as goal

pub returns-then-mark_of-ne0 : goal.returns-then-mark_of-ne0
returns-then-mark_of-ne0 c =
    offer_refused c.requires c.mark_of.ensures c.if-mark_of-ne0.true

pub returns-then-best-eq0 : goal.returns-then-best-eq0
returns-then-best-eq0 c = search offer_nobody

pub make_join-requires : goal.make_join-requires
make_join-requires c =
    offer_joinable c.requires c.mark_of.ensures c.if-mark_of-ne0.false c.mark_of-chain_end.ensures c.partner-best.ensures
    c.if-best-eq0.false

pub returns : goal.returns
returns c =
    offer_joins c.requires c.mark_of.ensures c.if-mark_of-ne0.false c.mark_of-chain_end.ensures c.partner-best.ensures
    c.if-best-eq0.false c.make_join.ensures
