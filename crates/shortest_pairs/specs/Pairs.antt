-- The table of pairs of kept slips: what filling it asks and gives.
--   PairsAsk s es xs k w    == the tray is accepted, the first k of xs are slips of it, and there is room
--   PairsAre least s es xs k w w' == the table is that of these slips, with this least overlap
use Rattle.std.specs.Prelude.{◌≡◌, List, ℕ, ◌+◌, ◌*◌, ◌≤◌, ◌<◌, length, get_or}
use Rattle.trays.specs.Limits.{max_slip, max_shortest}
use Rattle.trays.specs.Slips.{slips_of}
use Rattle.trays.specs.Aside.{counted}
use Rattle.trays.specs.Faults.{tray_fault}
use Rattle.greedy.specs.Orders.{weight}
use Rattle.shortest_groups.specs.Groups.{pair_cells}

pub record PairsAsk (s es xs : List ℕ) (k : ℕ) (w : List ℕ) : Type 0 where
  pub tray : (tray_fault s es).number ≡ 0
  pub few : k ≤ max_shortest
  pub listed : k ≤ length xs
  pub real : (a : ℕ) → a < k → (1 ≤ get_or xs a 0) × (get_or xs a 0 ≤ length es)
  pub room : pair_cells ≤ length w

pub record PairsAre (least : ℕ) (s es xs : List ℕ) (k : ℕ) (w w' : List ℕ) : Type 0 where
  pub same : length w' ≡ length w
  pub pairs : (a b : ℕ) → a < k → b < k → get_or w' (max_shortest * a + b) 0 ≡ weight (counted least) (slips_of s es) (get_or xs a 0) (get_or xs b 0)
  pub start : (b : ℕ) → b < k → get_or w' (max_shortest * max_shortest + b) 0 ≡ 0
  pub small : (i : ℕ) → i < pair_cells → get_or w' i 0 ≤ max_slip
