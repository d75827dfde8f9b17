use Rattle.legend_chains.proofs.ChainsLoop.{pieces_asks}
use Rattle.legend_chains.proofs.all_pieces.Goals as goal

pub add_chain-count-requires : goal.add_chain-count-requires
add_chain-count-requires c = search pieces_asks
