-- SideAsks == the tray is accepted with its sides, and the work area is large enough
use Rattle.std.specs.Prelude.{List, ℕ, ◌≤◌, length}
use Rattle.trays.specs.Limits.{work_need}
use Rattle.trays.specs.Sides.{AcceptedSides}

pub record SideAsks (s es cs w : List ℕ) : Type 0 where
  pub accepted : AcceptedSides s es cs
  pub room : work_need ≤ length w
