use Rattle.legend_chains.proofs.Behind.{piece-put}
use Rattle.legend_chains.proofs.put_piece.Goals as goal

pub returns : goal.returns
returns c = search piece-put
