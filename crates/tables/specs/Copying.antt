-- Copying cells of the work area.
--   CanCopy w base n out == the work area w has n cells from base on, and out takes them
use Rattle.std.specs.Prelude.{List, ℕ, ◌-◌, ◌≤◌, length}

pub record CanCopy (w : List ℕ) (base n : ℕ) (out : List ℕ) : Type 0 where
  pub there : n ≤ length w - base
  pub room : n ≤ length out
