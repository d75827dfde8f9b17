-- Rules, stored trays: trays that were accepted while the longest slip was another one.
--   StoredTrays  == what becomes of them
use Rattle.std.specs.Prelude.{◌≡◌, List, ℕ}
use Rattle.trays.specs.Limits.{max_slip}
use Rattle.trays.specs.Faults.{first_row, tray_rows_for, tray_fault, too_long, slip_at}

-- Of the trays accepted where a slip could have m letters, those with a slip over the limit give 3 with the lowest such slip, and all others stay
-- accepted: where there is none, too_long is 0, and slip_at then is no refusal.
abbrev pub StoredTrays : Type 0
StoredTrays = (m : ℕ) (s es : List ℕ) → (first_row (tray_rows_for m s es)).number ≡ 0 → tray_fault s es ≡ slip_at 3 (too_long max_slip 1 0 es)
