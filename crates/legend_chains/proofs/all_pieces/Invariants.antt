-- Invariant: the first `count` pieces are the chains of those of the first k kept slips that have no left neighbour, one after another.
use lib.ListN.{take}
use Rattle.legend_chains.specs.Chains.{pieces_by}
use Rattle.legend_chains.specs.Pieces.{PiecesBehind}
use Rattle.legend_chains.proofs.all_pieces.Given as goal

abbrev pub invariant-loop-slip : goal.invariant-loop-slip
invariant-loop-slip l =
    PiecesBehind (pieces_by l.left l.right l.overs l.turns (take l.slip-index l.kept)) 0 l.initial.pieces l.pieces l.count
