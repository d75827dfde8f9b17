use Rattle.trie_order.proofs.RankLoop.{member_least, member_most}
use Rattle.trie_order.proofs.CommonTable.{before_least, before-most, common-first, common_next}
use borrow.Author.Rules.{rules}
use Rattle.trie_order.proofs.common_at.Goals as goal

pub returns-then-i-eq0 : goal.returns-then-i-eq0
returns-then-i-eq0 c = search common-first

pub slip_part-before-requires : goal.slip_part-before-requires
slip_part-before-requires c = search (rules, before_least, before-most)

pub slip_part-here-requires : goal.slip_part-here-requires
slip_part-here-requires c = search (rules, member_least, member_most)

pub returns : goal.returns
returns c = search common_next
