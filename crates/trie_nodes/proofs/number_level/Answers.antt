use native.Mathlib.Omega.{arith}
use borrow.Author.Rules.{rules}
use Rattle.trie_nodes.proofs.StageLoops.{level-slip, level_start, level_letterable, level_letter, level_short, level_few, level-room, level-done}
use Rattle.trie_nodes.proofs.number_level.Goals as goal
use Rattle.trie_nodes.proofs.number_level.Goals.{then-place-span, else-place-span}

pub slip_span-span-requires : goal.slip_span-span-requires
slip_span-span-requires c =
    level-slip c.loop-r.invariant c.loop-r-test.true c.at-slip.result c.at-slip.ensures

pub overflow_add-place : goal.overflow_add-place
overflow_add-place c =
    omega (arith, level_start c.loop-r.invariant (search rules) c.at-slip.result (search rules) c.slip_span-span.result (search rules))

pub number_letter-k-requires : goal.number_letter-k-requires
number_letter-k-requires c = search level_letterable

pub loop-r-preserved : goal.loop-r-preserved
loop-r-preserved c =
    elim c.if-place-span.branch [ then-place-span w ↦ search (rules, level_letter) | else-place-span w ↦ search (rules, level_short) ]

pub overflow_add-k : goal.overflow_add-k
overflow_add-k c = omega (arith, level_few c.loop-r.invariant (search rules) (search rules))

pub put-requires : goal.put-requires
put-requires c = search (rules, level-room)

pub returns : goal.returns
returns c = search (rules, level-done)
