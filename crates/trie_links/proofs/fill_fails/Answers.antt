use mathlib.Core.Path.{refl}
use borrow.Author.Rules.{rules}
use Rattle.trie_links.proofs.Fails.{fails_can, fails_room, fails_put, fails_all}
use Rattle.trie_links.proofs.fill_fails.Goals as goal

pub failure-link-requires : goal.failure-link-requires
failure-link-requires c = search fails_can

pub put-requires : goal.put-requires
put-requires c = search fails_room

pub loop-v-preserved : goal.loop-v-preserved
loop-v-preserved c = search fails_put

pub returns : goal.returns
returns c = search fails_all

pub returns-2 : goal.returns-2
returns-2 c = fails_all (fails_put c.loop-v.invariant c.loop-v-test.true c.failure-link.ensures _ c.put.ensures refl) (search rules)
