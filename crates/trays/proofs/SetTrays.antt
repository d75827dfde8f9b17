-- What is known where neither the settings nor the tray are turned back.
--   Set m s es  == the least overlap is within its limits, and the tray is accepted
use mathlib.Core.Path.{◌≡◌}
use mathlib.Core.List.{List}
use Prim.Native.Nat.{ℕ, ◌≤◌}
use Rattle.trays.specs.Limits.{max_least}
use Rattle.trays.specs.Faults.{first_row, tray_rows, tray_fault, least_row, set_fault}
use Rattle.trays.proofs.Rows.{both_silent}
use Rattle.trays.proofs.Accepted.{range_silent}

pub record Set (m : ℕ) (s es : List ℕ) : Type 0 where
  pub some : 1 ≤ m
  pub most : m ≤ max_least
  pub tray : (tray_fault s es).number ≡ 0

pub set_tells : (m : ℕ) (s es : List ℕ) → (set_fault m s es).number ≡ 0 → Set m s es
unfolding set_fault tray_fault
set_tells m s es h =
    let (least, tray) = both_silent (least_row m) (first_row (tray_rows s es)) h in
    let (some, most) = range_silent 20 max_least m 0 least in
    record { some = some; most = most; tray = tray }
