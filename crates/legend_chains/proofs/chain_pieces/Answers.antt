use mathlib.Core.Path.{◌≡◌}
use Prim.Native.Nat.{◌+◌, ◌-◌}
use native.Mathlib.Omega.{arith}
use Rattle.legend_chains.proofs.ChainStep.{chain_more, chain_end, chain_stop}
use Rattle.std.proofs.Common.{rules}
use Rattle.legend_chains.proofs.chain_pieces.Goals as goal

pub loop-preserved : goal.loop-preserved
loop-preserved c =
    let one : c.args.turns - (c.loop.counter + 1) ≡ c.args.turns - c.loop.counter - 1 = omega arith in
    rw one
    (chain_more _ _ _ _ _ _ _ _ _ _ _ _ c.loop.invariant (omega arith) (omega arith) _ _ _ c.put_piece.ensures c.from-slip.ensures
    c.from-shared.ensures (search rules))

pub returns-after-loop : goal.returns-after-loop
returns-after-loop c = chain_end _ _ _ _ _ _ _ _ _ _ _ _ c.loop.invariant (omega arith)

pub returns-then-slip-eq0 : goal.returns-then-slip-eq0
returns-then-slip-eq0 c = search (rules, chain_stop)
