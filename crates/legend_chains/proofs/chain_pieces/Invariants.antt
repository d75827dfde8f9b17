-- Invariant: with the rest of the chain behind the first m pieces it is whole.
use Prim.Native.Nat.{◌-◌}
use Rattle.legend_chains.proofs.ChainStep.{Going}
use Rattle.legend_chains.proofs.chain_pieces.Given as goal

abbrev pub invariant-loop : goal.invariant-loop
invariant-loop l =
    Going l.right l.overs l.turns l.initial.slip l.initial.shared l.initial.pieces l.initial.m (l.turns - l.counter) l.slip l.shared l.pieces l.m
