use Rattle.trie_order.proofs.SortLoops.{part_sortable, part_sorted}
use Rattle.trie_order.proofs.sort_table.Goals as goal

pub sort-requires : goal.sort-requires
sort-requires c = search part_sortable

pub returns : goal.returns
returns c = search part_sorted
