-- Decimal digits and columns.
--   decimal_small, decimal_more  == the digits of a number below 10, and of one from 10 on
--   column_small, column_more    == its columns in the same manner: put_number's two cases
--   column-length                == a number below 10 ^ w fills w columns, no more
-- A number from 10 on has the digits of its tenth and one more; the tenth of a number below 10 ^ (w + 1) is below 10 ^ w.
use mathlib.Core.Path.{◌≡◌}
use mathlib.Core.List.{[], ◌∷◌, ◌++◌, append_assoc}
use Prim.Native.Nat.{ℕ, zero, suc, ◌+◌, ◌-◌, ◌/◌, ◌%◌, ◌^◌, ◌≤◌, ◌<◌}
use native.Mathlib.Nat.{pow-suc, div-lt_iff_lt-mul}
use native.Mathlib.Decide.{dec_lt}
use native.Mathlib.Omega.{arith}
use borrow.Author.Tests.{lt-ltb, le-ltb}
use lib.ListN.{length, replicate, length-append, length-replicate}
use Rattle.file_rule.specs.Lines.{blank}
use Rattle.sheet_rule.specs.Sheets.{digit, digits, decimal, column}

digits_small : (f n : ℕ) → n < 10 → digits (suc f) n ≡ (digit n ∷ [])
digits_small f n h = rw (lt-ltb n 10 h, digits)

digits_more : (f n : ℕ) → 10 ≤ n → digits (suc f) n ≡ digits f (n / 10) ++ (digit (n % 10) ∷ [])
digits_more f n h = rw (le-ltb n 10 h, digits)

digits_enough : (f g n : ℕ) → n < f → n < g → digits f n ≡ digits g n
digits_enough zero g n a b = absurd (omega arith)
digits_enough (suc f) zero n a b = absurd (omega arith)
digits_enough (suc f) (suc g) n a b =
    elim (dec_lt n 10) [
      | yes h ↦ rw (digits_small f n h, digits_small g n h)
      | no h ↦
          let t : 10 ≤ n = omega arith in
          rw (digits_more f n t, digits_more g n t, digits_enough f g (n / 10) (omega arith) (omega arith))
    ]

pub decimal_small : (n : ℕ) → n < 10 → decimal n ≡ (digit n ∷ [])
unfolding decimal
decimal_small n h = digits_small n n h

pub decimal_more : (n : ℕ) → 10 ≤ n → decimal n ≡ decimal (n / 10) ++ (digit (n % 10) ∷ [])
unfolding decimal
decimal_more n h = rw (digits_more n n h, digits_enough n (suc (n / 10)) (n / 10) (omega arith) (omega arith))

-- the tenth of a number
tenth : (w n : ℕ) → n < 10 ^ suc w → n / 10 < 10 ^ w
tenth w n h = (div-lt_iff_lt-mul {k = 10} (omega arith)).1 (rw pow-suc at h)

decimal-length : (w n : ℕ) → n < 10 ^ suc w → length (decimal n) ≤ suc w
decimal-length zero n h = rw (decimal_small n h) (omega arith)
decimal-length (suc w) n h =
    elim (dec_lt n 10) [
      | yes s ↦ rw (decimal_small n s) (omega arith)
      | no s ↦
          rw (decimal_more n (omega arith), length-append) (omega (arith, decimal-length w (n / 10) (tenth (suc w) n h)))
    ]

pub column-length : (w n : ℕ) → 1 ≤ w → n < 10 ^ w → length (column w n) ≡ w
unfolding column
column-length zero n p h = absurd (omega arith)
column-length (suc w) n p h = rw (length-append, length-replicate) (omega (arith, decimal-length w n h))

pub column_small : (w n : ℕ) → n < 10 → column w n ≡ replicate (w - 1) blank ++ (digit n ∷ [])
unfolding column
column_small w n h = rw (decimal_small n h)

pub column_more : (w n : ℕ) → 10 ≤ n → column w n ≡ column (w - 1) (n / 10) ++ (digit (n % 10) ∷ [])
unfolding column
column_more w n h =
    let e : w - (length (decimal (n / 10)) + 1) ≡ w - 1 - length (decimal (n / 10)) = omega arith in
    rw (decimal_more n h, length-append, e, append_assoc)

-- what is left to put, in one column less
module _ (w n : ℕ) (p : 1 ≤ w) (h : n < 10 ^ w) (t : 10 ≤ n) where
  pub tenth_some : 1 ≤ w - 1
  tenth_some = some w p h
    where
      some : (w : ℕ) → 1 ≤ w → n < 10 ^ w → 1 ≤ w - 1
      some zero p h = absurd (omega arith)
      some (suc zero) p h = absurd (omega arith)
      some (suc (suc w)) p h = omega arith

  pub tenth_small : n / 10 < 10 ^ (w - 1)
  tenth_small = small w p h
    where
      small : (w : ℕ) → 1 ≤ w → n < 10 ^ w → n / 10 < 10 ^ (w - 1)
      small zero p h = absurd (omega arith)
      small (suc w) p h = let e : suc w - 1 ≡ w = omega arith in rw e (tenth w n h)
