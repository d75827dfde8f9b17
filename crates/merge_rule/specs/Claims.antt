-- What is claimed of two trays merged, over the definitions alone.
--   long_ends s es fs  == the ends of two trays simply written one after the other; their letters are s ++ t, their sides cs ++ ds
--   AsLong            == the outcome is accepted, and the legend of its side that the settings name is that of this side of the long tray
--   SameLegend       == so where the long tray is accepted, with any settings
--   OneOrFour       == of two accepted trays the outcome can fail by 1 or 4 alone
use Rattle.std.specs.Prelude.{◌≡◌, List, ◌++◌, map, ℕ, ◌+◌, length}
use Rattle.trays.specs.declared.Settings.{Settings}
use Rattle.trays.specs.Slips.{slips_of}
use Rattle.trays.specs.Faults.{first_row, tray_fault}
use Rattle.trays.specs.Written.{letters_of, ends_of, size_rows}
use Rattle.trays.specs.Sides.{sides_row, sided_tray_rows, AcceptedSides}
use Rattle.greedy.specs.Composing.{sided, legend_of}
use Rattle.merge_rule.specs.Merging.{letters_among, sides_among, merged_sides}

abbrev pub long_ends : List ℕ → List ℕ → List ℕ → List ℕ
long_ends s es fs = es ++ map (λ e. length s + e) fs

pub record AsLong (g : Settings) (s es cs t fs ds : List ℕ) : Type 0 where
  pub outcome_accepted :
      let m = merged_sides s es cs t fs ds in
      AcceptedSides (letters_of (letters_among m)) (ends_of (letters_among m)) (sides_among m)
  pub legend_is :
      let m = merged_sides s es cs t fs ds in
      legend_of (sided g (sides_among m) (slips_of (letters_of (letters_among m)) (ends_of (letters_among m))))
      ≡ legend_of (sided g (cs ++ ds) (slips_of (s ++ t) (long_ends s es fs)))

-- Rules, two trays: where the long tray is itself accepted, and 22 is silent of both lists of sides. Of the two trays only the first needs to be accepted,
-- since the long tray goes on where its ends do.
abbrev pub SameLegend : Type 0
SameLegend =
    (g : Settings) (s es cs t fs ds : List ℕ) → AcceptedSides s es cs → (sides_row fs ds).number ≡ 0
    → (tray_fault (s ++ t) (long_ends s es fs)).number ≡ 0 → AsLong g s es cs t fs ds

-- Rules, two trays: so 22 never speaks of the outcome.
abbrev pub OneOrFour : Type 0
OneOrFour =
    (s es cs t fs ds : List ℕ) → AcceptedSides s es cs → AcceptedSides t fs ds
    → let m = merged_sides s es cs t fs ds in
    first_row (sided_tray_rows (letters_of (letters_among m)) (ends_of (letters_among m)) (sides_among m)) ≡ first_row (size_rows (letters_among m))
