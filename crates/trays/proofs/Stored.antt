-- Trays accepted under another limit of letters a slip: only row 3 can speak now.
--   rows_stored   == the rows for the limit k, of a tray accepted under m
--   stored_trays  == the same for the limit that holds
use mathlib.Core.Path.{◌≡◌, refl}
use mathlib.Core.List.{List}
use Prim.Native.Nat.{ℕ, zero, suc}
use borrow.Author.Tests.{le-ltb, le-leb, eq-eqb}
use native.Mathlib.Omega.{arith}
use lib.ListN.{length}
use Rattle.words.specs.Lists.{last_or}
use Rattle.trays.specs.Limits.{max_slips, max_slip, max_letters}
use Rattle.trays.specs.Faults.{accepted, or_else, first_row, tray_rows_for, tray_fault, too_long, slip_at}
use Rattle.trays.specs.Stored.{StoredTrays}
use Rattle.trays.proofs.Accepted.{Accepted, rows_tell}

slip_last : (n d : ℕ) → or_else (slip_at (suc n) d) accepted ≡ slip_at (suc n) d
slip_last n zero = refl
slip_last n (suc d) = rw (le-leb 1 (suc d) (omega arith))

pub rows_stored : (m k : ℕ) (s es : List ℕ) → Accepted m s es → first_row (tray_rows_for k s es) ≡ slip_at 3 (too_long k 1 0 es)
rows_stored m k s es a =
    rw (
      le-ltb max_slips (length es) a.few,
      a.rise,
      le-ltb max_letters (length s) a.small,
      eq-eqb (last_or 0 es) (length s) a.reach,
      a.signs,
    )
    (slip_last 2 (too_long k 1 0 es))

pub stored_trays : StoredTrays
unfolding tray_fault
stored_trays m s es h = rows_stored m max_slip s es (rows_tell m s es h)
