-- Invariant: each of the first i cells at `common` holds the length of the common prefix of a member and the one before it in the order; no cell
-- outside that table has changed.
use Rattle.trays.specs.Slips.{slips_of}
use Rattle.tables.specs.Tables.{table}
use Rattle.tables.proofs.Tables.{Filling}
use Rattle.trie_order.specs.Order.{commons}
use Rattle.trie_order.proofs.fill_common.Given as goal

abbrev pub invariant-loop-i : goal.invariant-loop-i
invariant-loop-i l =
    Filling l.common l.n (commons (slips_of l.tray.letters.now l.tray.ends.now) 0 (table l.initial.work l.order l.n)) l.i l.initial.work l.work
