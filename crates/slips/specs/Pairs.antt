-- What the overlap of two slips of a tray asks and gives.
--   TwoSlips s es l r    == the tray is accepted, and l and r are slips of it
--   Overlap m s es l r n == n is their overlap, where the least overlap is m, and no longer than a slip may be
use Rattle.std.specs.Prelude.{◌≡◌, List, ℕ, ◌≤◌, length}
use Rattle.words.specs.Words.{overlap_for}
use Rattle.trays.specs.Limits.{max_slip}
use Rattle.trays.specs.Slips.{slips_of, slip}
use Rattle.trays.specs.Aside.{counted}
use Rattle.trays.specs.Faults.{tray_fault}

pub record TwoSlips (s es : List ℕ) (l r : ℕ) : Type 0 where
  pub tray : (tray_fault s es).number ≡ 0
  pub left-some : 1 ≤ l
  pub left-most : l ≤ length es
  pub right_some : 1 ≤ r
  pub right_most : r ≤ length es

pub record Overlap (m : ℕ) (s es : List ℕ) (l r n : ℕ) : Type 0 where
  pub is : n ≡ overlap_for (counted m) (slip (slips_of s es) l) (slip (slips_of s es) r)
  pub short : n ≤ max_slip
