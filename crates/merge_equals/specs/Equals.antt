-- Slips of a second tray, t with ends fs and sides ds, that equal none before them, those of a first tray, s with ends es and sides cs, included. Slips are
-- equal if side and letters are.
--   is_new ws xs i        == slip i of xs equals none of ws, and none of xs before it
--   NewSlips             == the numbers of the slips that are written after the first tray's, and the letters that they have together
use Rattle.std.specs.Prelude.{◌≡◌, Bool, not, List, ◌++◌, ℕ, ◌-◌, ◌*◌, ◌≤◌, length, take}
use Rattle.words.specs.Lists.{any, All}
use Rattle.words.specs.Words.{same}
use Rattle.trays.specs.Limits.{max_slips, max_slip}
use Rattle.trays.specs.Slips.{slip, slips_of, only}
use Rattle.trays.specs.Written.{letters_of}
use Rattle.merge_rule.specs.Merging.{labelled, merged_sides}
use Rattle.merge_equals.specs.declared.Fresh.{Fresh}

abbrev pub is_new : List (List ℕ) → List (List ℕ) → ℕ → Bool
is_new ws xs i = not (any (same (slip xs i)) (ws ++ take (i - 1) xs))

pub record NewSlips (s es cs t fs ds : List ℕ) (r : Fresh) : Type 0 where
  pub few : r.count ≤ length fs
  pub size : length r.slips ≡ max_slips
  pub real : All (λ i. (1 ≤ i) × (i ≤ length fs)) (take r.count r.slips)
  pub slips_are :
      merged_sides s es cs t fs ds ≡ labelled (slips_of s es) cs ++ only (labelled (slips_of t fs) ds) (take r.count r.slips)
  pub letters_are : r.letters ≡ length (letters_of (only (slips_of t fs) (take r.count r.slips)))
  pub bound : r.letters ≤ max_slip * length fs
