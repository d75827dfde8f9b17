use mathlib.Core.Path.{refl}
use native.Mathlib.Omega.{arith}
use Rattle.trie_children.proofs.Near.{near_can, near_more, near_all}
use Rattle.trie_children.proofs.fill_near.Goals as goal

pub fill_row-requires : goal.fill_row-requires
fill_row-requires c =
    near_can c.loop-v.invariant (omega (arith, c.min-v-end.ensures, c.loop-v-test.true)) (omega (arith, c.min-v-end.ensures, c.loop-v-test.true))

pub loop-v-preserved : goal.loop-v-preserved
loop-v-preserved c = near_more c.loop-v.invariant _ (omega (arith, c.min-v-end.ensures, c.loop-v-test.true)) c.fill_row.ensures refl

pub returns : goal.returns
returns c = near_all c.loop-v.invariant (omega (arith, c.min-v-end.ensures, c.loop-v-test.false))
