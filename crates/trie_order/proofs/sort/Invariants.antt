-- Invariant: the members in the cells from m on are in order, and the cells before m are as they were.
use mathlib.Core.Path.{◌≡◌}
use lib.ListN.{length}
use Rattle.trays.specs.Slips.{slips_of}
use Rattle.trie_order.specs.Order.{precedes}
use Rattle.trie_order.proofs.SortLoops.{sorting}
use Rattle.trie_order.proofs.sort.Given as goal

abbrev pub invariant-loop-m : goal.invariant-loop-m
invariant-loop-m l = (length l.cells ≡ length l.initial.cells) × (l.cells ≡ sorting (precedes (slips_of l.tray.letters.now l.tray.ends.now)) l.m l.initial.cells)
