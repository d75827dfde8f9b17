-- Invariant: every member before `low` stands below the bound, and none from `high` on does.
use Prim.Native.Nat.{◌≤◌, ◌-◌}
use lib.ListN.{length}
use Rattle.trays.specs.Slips.{slip, slips_of}
use Rattle.trie_order.specs.Order.{below}
use Rattle.trie_order.proofs.RankLoop.{Passed, Failed}
use Rattle.trie_order.proofs.rank.Given as goal

abbrev pub invariant-loop-low : goal.invariant-loop-low
invariant-loop-low l =
    (l.low ≤ l.high) × (l.high ≤ length l.order) × Passed (λ i. below l.bound l.typed (slip (slips_of l.tray.letters.now l.tray.ends.now) i) i) l.order l.low ×
    Failed (λ i. below l.bound l.typed (slip (slips_of l.tray.letters.now l.tray.ends.now) i) i) l.order l.high

abbrev pub decreases-loop-low : goal.decreases-loop-low
decreases-loop-low l = l.high - l.low
