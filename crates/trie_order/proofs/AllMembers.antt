-- All slips of a tray as members: the numbers 1, 2, .., which can be sorted.
use mathlib.Core.Path.{◌≡◌}
use mathlib.Core.List.{List}
use Prim.Native.Nat.{ℕ, ◌+◌, ◌<◌}
use native.Mathlib.Omega.{arith}
use lib.ListN.{length, get_or}
use Rattle.words.specs.Lists.{up_from}
use Rattle.words.proofs.Members.{in_up_from, asc_up_from}
use Rattle.words.proofs.Distinct.{asc_distinct}
use Rattle.words.proofs.Runs.{up_from_at}
use Rattle.trays.specs.Faults.{tray_fault}
use Rattle.trie_order.specs.Order.{Sortable}

pub member_at : (i n k : ℕ) → k < n → k + i ≡ get_or (up_from i n) k 0
member_at i n k h = omega (arith, up_from_at i n k h)

pub all_sortable : (s es : List ℕ) → (tray_fault s es).number ≡ 0 → Sortable s es (up_from 1 (length es))
all_sortable s es a =
    record {
      members = record { accepted = a; within = record { each = λ i m. let r = in_up_from 1 (length es) m in omega arith } };
      distinct = asc_distinct ◌<◌ (λ a h. omega arith) (up_from 1 (length es)) (asc_up_from 1 (length es));
    }
