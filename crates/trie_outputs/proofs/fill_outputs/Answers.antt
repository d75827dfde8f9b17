use mathlib.Core.Path.{refl}
use borrow.Author.Rules.{rules}
use Rattle.trie_outputs.proofs.OutputsLoop.{filling_start, filling_telling, filling_out, filling_more, filling_all}
use Rattle.trie_outputs.proofs.fill_outputs.Goals as goal

pub loop-v-init : goal.loop-v-init
loop-v-init c = search filling_start

pub output-out-requires : goal.output-out-requires
output-out-requires c =
    filling_telling c.loop-v.invariant c.loop-v-test.true

pub tally-tally-requires : goal.tally-tally-requires
tally-tally-requires c =
    filling_telling c.loop-v.invariant c.loop-v-test.true

pub put-requires-in-loop-v : goal.put-requires-in-loop-v
put-requires-in-loop-v c = search filling_out

pub loop-v-preserved : goal.loop-v-preserved
loop-v-preserved c = search filling_more

pub returns : goal.returns
returns c = search filling_all

pub returns-2 : goal.returns-2
returns-2 c =
    filling_all c.requires c.put.ensures
    (filling_more c.loop-v.invariant c.loop-v-test.true c.output-out.ensures c.tally-tally.ensures c.put-in-loop-v.ensures _ c.put-in-loop-v-2.ensures refl)
    (search rules)
