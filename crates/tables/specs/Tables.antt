-- Tables in a lent work area w of 16-bit cells: a table is a run of cells from its base on.
--   Got w base i r        == r is what stands in cell i of the table at base; it fits 16 bits
--   Room w base i x       == x can be put into that cell
--   Put w base i x w'     == w' is w with x in that cell
--   table w base n        == the n cells of w from base on, as a list
--   Cells base n          == the places of these cells
--   Only P w w'           == w' is as long as w, and every cell whose place is not in P is as it was
--   Filled base n xs w w' == only these cells have changed, and they are xs
use Rattle.std.specs.Prelude.{◌≡◌, List, ℕ, ◌+◌, ◌≤◌, ◌<◌, length, get_or, set, take, drop}

pub record Got (w : List ℕ) (base i r : ℕ) : Type 0 where
  pub is : r ≡ get_or w (base + i) 0
  pub small : r < 65536

pub record Room (w : List ℕ) (base i x : ℕ) : Type 0 where
  pub within : base + i < length w
  pub small : x < 65536

pub record Put (w : List ℕ) (base i x : ℕ) (w' : List ℕ) : Type 0 where
  pub is : w' ≡ set w (base + i) x
  pub same : length w' ≡ length w

unfoldable pub table : List ℕ → ℕ → ℕ → List ℕ
table w base n = take n (drop base w)

pub record Cells (base n p : ℕ) : Type 0 where
  pub from : base ≤ p
  pub below : p < base + n

pub record Only (P : ℕ → Type 0) (w w' : List ℕ) : Type 0 where
  pub same : length w' ≡ length w
  pub kept : (p : ℕ) → (P p → ⊥) → get_or w' p 0 ≡ get_or w p 0

pub record Filled (base n : ℕ) (xs : List ℕ) (w w' : List ℕ) : Type 0 where
  pub cells : table w' base n ≡ xs
  pub only : Only (Cells base n) w w'
