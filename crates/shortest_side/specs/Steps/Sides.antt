-- OrderAsks N order k == the first k slips of the order are among those that N numbers
use Rattle.std.specs.Prelude.{List, ℕ, ◌≤◌, ◌<◌, length, get_or}
use Rattle.trays.specs.Limits.{max_shortest}

pub record OrderAsks (N order : List ℕ) (k : ℕ) : Type 0 where
  pub few : k ≤ max_shortest
  pub listed : k ≤ length order
  pub among : (i : ℕ) → i < k → (1 ≤ get_or order i 0) × (get_or order i 0 ≤ length N)
