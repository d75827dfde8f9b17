-- TwoSides cs l r == the list of sides has those of slips l and r
use Rattle.std.specs.Prelude.{List, ℕ, ◌≤◌, length}

pub record TwoSides (cs : List ℕ) (l r : ℕ) : Type 0 where
  pub left-some : 1 ≤ l
  pub left-most : l ≤ length cs
  pub right_some : 1 ≤ r
  pub right_most : r ≤ length cs
