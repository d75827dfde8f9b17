-- What composing counts behind the walk: what each sum asks and gives.
--   thirds xs n     == the sum of the overlaps of the first n joins, `join_cells` numbers each
--   KeptReal        == the first k numbers of a list are slips of an accepted tray
--   CountAsks       == so are the k kept slips in the work area, and the j joins there save no more letters than they have
--   LetterCountsAre == what is counted before anything is written
use Rattle.std.specs.Prelude.{◌≡◌, List, ℕ, zero, suc, ◌+◌, ◌*◌, ◌≤◌, ◌<◌, length, get_or}
use Rattle.trays.specs.Limits.{max_slips, work_need}
use Rattle.trays.specs.Slips.{slips_of, total}
use Rattle.trays.specs.Faults.{tray_fault}
use Rattle.greedy.specs.Joins.{saved}
use Rattle.answers.specs.Composing.{join_cells}
use Rattle.layout.specs.Layout.{KEPT}
use Rattle.layout.specs.Tables.{cell}
use Rattle.layout.specs.Staging.{kept_in, joins_in}
use Rattle.legend_counts.specs.declared.LetterCounts.{LetterCounts}

abbrev pub thirds : List ℕ → ℕ → ℕ
thirds xs zero = 0
thirds xs (suc n) = thirds xs n + get_or xs (join_cells * n + 2) 0

pub record KeptReal (s es xs : List ℕ) (k : ℕ) : Type 0 where
  pub tray : (tray_fault s es).number ≡ 0
  pub enough : k ≤ length xs
  pub few : k ≤ max_slips
  pub real : (i : ℕ) → i < k → (1 ≤ get_or xs i 0) × (get_or xs i 0 ≤ length es)

pub record CountAsks (s es w : List ℕ) (k j : ℕ) : Type 0 where
  pub room : work_need ≤ length w
  pub tray : (tray_fault s es).number ≡ 0
  pub few_kept : k ≤ max_slips
  pub real : (i : ℕ) → i < k → (1 ≤ cell w KEPT i) × (cell w KEPT i ≤ length es)
  pub few_joins : j ≤ max_slips
  pub saves : saved (joins_in w j) ≤ total (slips_of s es) (kept_in w k)

-- what is counted before anything is written
pub record LetterCountsAre (s es w : List ℕ) (k j : ℕ) (c : LetterCounts) : Type 0 where
  pub letters_are : c.letters ≡ total (slips_of s es) (kept_in w k)
  pub saved_are : c.saved ≡ saved (joins_in w j)
  pub need_is : c.saved + c.need ≡ c.letters
