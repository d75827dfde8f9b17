use Rattle.walk_offer.proofs.JoinCells.{join-put}
use Rattle.walk_offer.proofs.put_join.Goals as goal

pub returns : goal.returns
returns c = search join-put
