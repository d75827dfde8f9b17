use Rattle.trie_order.proofs.RankLoop.{member_least, member_most}
use Rattle.trie_order.proofs.SortLoops.{first_rankable, first_rank, first_inserted}
use borrow.Author.Rules.{rules}
use Rattle.trie_order.proofs.insert_first.Goals as goal

pub slip_part-typed-requires : goal.slip_part-typed-requires
slip_part-typed-requires c = search (rules, member_least, member_most)

pub rank-k-requires : goal.rank-k-requires
rank-k-requires c = search first_rankable

pub overflow_add-k : goal.overflow_add-k
overflow_add-k c = search (rules, first_rank)

pub slice_bounds-rotate_left-end : goal.slice_bounds-rotate_left-end
slice_bounds-rotate_left-end c = search (rules, first_rank)

pub slice_bounds-rotate_left-end-2 : goal.slice_bounds-rotate_left-end-2
slice_bounds-rotate_left-end-2 c = search (rules, first_rank)

pub returns : goal.returns
returns c = first_inserted _ _ _ _ _ c.requires (search rules) c.slip_part-typed.ensures _ c.rank-k.ensures _ c.rotate_left.ensures.after
