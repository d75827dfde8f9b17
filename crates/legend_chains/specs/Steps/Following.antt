-- What putting one chain asks.
--   ChainAsks  == of the chain from a slip on: the slip and its overlap, and room for the pieces behind the first m
--   AddAsks    == of a slip, whether or not it begins a chain
use Rattle.std.specs.Prelude.{◌≡◌, List, ℕ, ◌+◌, ◌*◌, ◌≤◌, ◌<◌, length, get_or}
use Rattle.trays.specs.Limits.{max_slips}
use Rattle.legend_chains.specs.Chains.{chain_by, chain_of}

pub record ChainAsks (right overs : List ℕ) (n i o : ℕ) (xs : List ℕ) (m : ℕ) : Type 0 where
  pub rights : length right ≡ max_slips
  pub overlaps : length overs ≡ max_slips
  pub right_small : (k : ℕ) → k < max_slips → get_or right k 0 ≤ max_slips
  pub small : i ≤ max_slips
  pub overlap_small : o < 65536
  pub cells : 2 * max_slips ≤ length xs
  pub room : m + length (chain_by right overs n i o) ≤ max_slips

pub record AddAsks (left right overs : List ℕ) (n i : ℕ) (xs : List ℕ) (m : ℕ) : Type 0 where
  pub lefts : length left ≡ max_slips
  pub rights : length right ≡ max_slips
  pub overlaps : length overs ≡ max_slips
  pub right_small : (k : ℕ) → k < max_slips → get_or right k 0 ≤ max_slips
  pub some : 1 ≤ i
  pub small : i ≤ max_slips
  pub cells : 2 * max_slips ≤ length xs
  pub room : m + length (chain_of left right overs n i) ≤ max_slips
