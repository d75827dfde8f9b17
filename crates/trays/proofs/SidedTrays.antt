-- What is known where none of settings, tray and sides is turned back.
--   side_small      == a side is a byte
--   sides_tell      == of sides that are not turned back: there is one for each slip, and each is one of the three
--   Sided m b s es cs == the least overlap m is at least 1, the side b is one of the three, and tray and sides are accepted
--   sided_tells     == so where no row of settings, tray and sides speaks
--   rows-accepted   == where no row of a tray and its sides speaks, both are accepted
use mathlib.Core.Path.{◌≡◌}
use mathlib.Core.Bool.{true, false, not}
use mathlib.Core.List.{List, [], ◌∷◌}
use Prim.Native.Nat.{ℕ, ◌≤◌, ◌<◌}
use borrow.Author.Tests.{eqb-true, not-false}
use native.Mathlib.Omega.{arith}
use lib.Dec.{eqb}
use lib.ListN.{length}
use Rattle.words.specs.Lists.{any}
use Rattle.words.proofs.Tests.{by_test, neither}
use Rattle.trays.specs.Faults.{accepted, first_row, tray_rows, tray_fault, set_rows, set_fault}
use Rattle.trays.specs.Sides.{blank_side, obverse, reverse, is_side, sides_row, side_row, sided_fault, sided_tray_rows, AcceptedSides}
use Rattle.trays.proofs.Rows.{both_silent, rows_append}
use Rattle.trays.proofs.Accepted.{rows_silent, row_silent}
use Rattle.trays.proofs.SetTrays.{set_tells}

pub side_small : (b : ℕ) → is_side b ≡ true → b < 256
side_small b h =
    by_test (eqb b blank_side) (λ e. let q = eqb-true b blank_side e in omega arith)
    (λ n. by_test (eqb b obverse) (λ e. let q = eqb-true b obverse e in omega arith)
    (λ m. let q = eqb-true b reverse (rw (n, m) at h) in omega arith))

pub sides_tell : (es cs : List ℕ) → (sides_row es cs).number ≡ 0 → (length cs ≡ length es) × (any (λ b. not (is_side b)) cs ≡ false)
sides_tell es cs h =
    let (long, known) = neither (not (eqb (length cs) (length es))) (any (λ b. not (is_side b)) cs) (row_silent 21 _ 0 h) in
    (eqb-true (length cs) (length es) (not-false (eqb (length cs) (length es)) long), known)

pub record Sided (m b : ℕ) (s es cs : List ℕ) : Type 0 where
  pub some : 1 ≤ m
  pub side : is_side b ≡ true
  pub accepted : AcceptedSides s es cs

pub sided_tells : (m b : ℕ) (s es cs : List ℕ) → (sided_fault m b s es cs).number ≡ 0 → Sided m b s es cs
unfolding sided_fault set_fault
sided_tells m b s es cs h =
    let rows = sides_row es cs ∷ (side_row b ∷ []) in
    let (set, sides) = both_silent (first_row (set_rows m s es)) (first_row rows) (rw (rows_append (set_rows m s es) rows) at h) in
    let known = set_tells m s es set in
    let (lent, named) = both_silent (sides_row es cs) (first_row (side_row b ∷ [])) sides in
    record {
      some = known.some;
      side = not-false (is_side b) (row_silent 21 (not (is_side b)) 0 (rows_silent (side_row b ∷ []) named).0);
      accepted = record { tray = known.tray; sides = lent };
    }

pub rows-accepted : (s es cs : List ℕ) → (first_row (sided_tray_rows s es cs)).number ≡ 0 → AcceptedSides s es cs
unfolding tray_fault
rows-accepted s es cs z =
    let last = sides_row es cs ∷ [] in
    let (tray, sides) = both_silent (first_row (tray_rows s es)) (first_row last) (rw (rows_append (tray_rows s es) last) at z) in
    record { tray = tray; sides = (both_silent (sides_row es cs) accepted sides).0 }
