-- The loops over the pairs.
--   PairedTo .. a b w w' == the rows before a are filled, and the first b cells of row a; the row of the start is 0
--   RowAsks .. a w       == row a is next
use Rattle.std.specs.Prelude.{◌≡◌, ◌⊎◌, List, ℕ, ◌+◌, ◌*◌, ◌≤◌, ◌<◌, length, get_or}
use Rattle.trays.specs.Limits.{max_slip, max_shortest}
use Rattle.trays.specs.Slips.{slips_of}
use Rattle.trays.specs.Aside.{counted}
use Rattle.greedy.specs.Orders.{weight}
use Rattle.shortest_groups.specs.Groups.{pair_cells}
use Rattle.shortest_pairs.specs.Pairs.{PairsAsk}

pub record PairedTo (least : ℕ) (s es xs : List ℕ) (k a b : ℕ) (w w' : List ℕ) : Type 0 where
  pub same : length w' ≡ length w
  pub pairs :
      (x y : ℕ) → y < k → (x < a) ⊎ ((x ≡ a) × (y < b))
      → get_or w' (max_shortest * x + y) 0 ≡ weight (counted least) (slips_of s es) (get_or xs x 0) (get_or xs y 0)
  pub start : (y : ℕ) → y < k → get_or w' (max_shortest * max_shortest + y) 0 ≡ 0
  pub small : (i : ℕ) → i < pair_cells → get_or w' i 0 ≤ max_slip

pub record RowAsks (least : ℕ) (s es xs : List ℕ) (k a : ℕ) (w : List ℕ) : Type 0 where
  pub asks : PairsAsk s es xs k w
  pub row : a < k
  pub filled : PairedTo least s es xs k a 0 w w
