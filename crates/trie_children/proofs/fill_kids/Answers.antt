use mathlib.Core.Path.{refl}
use native.Mathlib.Omega.{arith}
use Rattle.trie_children.proofs.Kids.{kids_placed, kids_pass, kids_put, kids_all}
use borrow.Author.Rules.{rules}
use Rattle.trie_children.proofs.fill_kids.Goals as goal

pub hangs_below-requires : goal.hangs_below-requires
hangs_below-requires c = search (rules, kids_placed)

pub loop-u-preserved : goal.loop-u-preserved
loop-u-preserved c = search (rules, kids_pass)

pub loop-v-preserved : goal.loop-v-preserved
loop-v-preserved c =
    kids_put c.loop-u.invariant _ (omega (arith, c.loop-v-test.true)) c.loop-u-test.false c.hangs_below.ensures c.put.ensures refl

pub returns : goal.returns
returns c = kids_all c.loop-v.invariant (omega (arith, c.loop-v-test.false))
