-- The cases of put_number.
--   number_small, number_more  == a number of one digit, and one from 10 on
use mathlib.Core.Path.{◌≡◌}
use mathlib.Core.List.{List, [], ◌∷◌}
use Prim.Native.Nat.{ℕ, ◌+◌, ◌-◌, ◌/◌, ◌%◌, ◌≤◌, ◌<◌}
use native.Mathlib.Omega.{arith}
use lib.ListN.{replicate}
use Rattle.file_rule.specs.Lines.{blank}
use Rattle.sheet_rule.specs.Sheets.{digit, column}
use Rattle.sheet_columns.specs.Steps.Wrote.{Wrote}
use Rattle.sheet_rule.proofs.Columns.{column_small, column_more}
use Rattle.sheet_columns.proofs.Puts.{put_more}

module _ (at w n last r d : ℕ) (a b c : List ℕ) (p : 1 ≤ w) where
  width_is : w - 1 + 1 ≡ w
  width_is = omega arith

  pub number_small : n < 10 → Wrote at (w - 1) (replicate (w - 1) blank) a b last → d ≡ digit n → Wrote last 1 (d ∷ []) b c r → Wrote at w (column w n) a c r
  number_small h x e y = rw (column_small w n h) (rw (width_is, e) at (put_more x y))

  pub number_more : 10 ≤ n → Wrote at (w - 1) (column (w - 1) (n / 10)) a b last → d ≡ digit (n % 10) → Wrote last 1 (d ∷ []) b c r →
      Wrote at w (column w n) a c r
  number_more h x e y = rw (column_more w n h) (rw (width_is, e) at (put_more x y))
