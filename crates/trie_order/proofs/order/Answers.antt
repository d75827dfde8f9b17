use mathlib.Core.Path.{◌∙◌, sym}
use native.Mathlib.Omega.{arith}
use Rattle.trie_order.proofs.Ordered.{order-left, order-ends}
use Rattle.trie_order.proofs.order.Goals as goal

pub returns-then-starts_with : goal.returns-then-starts_with
returns-then-starts_with c =
    c.cmp.ensures ∙ order-left _ c.args.a.now c.args.b.now (omega arith) (omega arith) (sym c.starts_with.ensures.value ∙ c.if-starts_with.true)

pub returns : goal.returns
returns c = c.cmp-2.ensures ∙ order-ends c.args.a.now c.args.b.now c.loop-n.n c.loop-n.invariant.2 (omega arith)
