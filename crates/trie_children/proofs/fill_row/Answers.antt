use Rattle.trie_children.proofs.Near.{row_branched, row_room, row_put}
use Rattle.trie_children.proofs.fill_row.Goals as goal

pub scan_child-u-requires-clause-branched : goal.scan_child-u-requires-clause-branched
scan_child-u-requires-clause-branched c = search row_branched

pub put-requires : goal.put-requires
put-requires c = search row_room

pub loop-c-preserved : goal.loop-c-preserved
loop-c-preserved c = search row_put
