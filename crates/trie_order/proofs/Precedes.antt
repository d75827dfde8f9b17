-- What the sorted members are.
--   order_members == numbers of slips again
use mathlib.Core.List.{List}
use Prim.Native.Nat.{ℕ}
use Rattle.words.specs.Lists.{in_order}
use Rattle.trays.specs.Slips.{slips_of}
use Rattle.trie_order.specs.Order.{precedes, Members}
pub use Rattle.index_rule.proofs.Precedes.{precedes_irr, precedes_tr, precedes_con, order_sorts, order_length}

pub order_members : (s es M : List ℕ) → Members s es M → Members s es (in_order (precedes (slips_of s es)) M)
order_members s es M m =
    record { accepted = m.accepted; within = record { each = λ i n. m.within.each i ((order_sorts (slips_of s es) M).back i n) } }
