-- Kept members and joins as composing stages them, and the lists of neighbours.
--   kept_in w k               == the kept members in the work area w, k of them
--   joins_in w k              == the joins there, k of them, in the order made
--   Neighbours js l r o      == the lists l and r of marks hold the left and right neighbours by the joins js, and o the overlaps
use Rattle.std.specs.Prelude.{◌≡◌, List, map, ℕ, suc, ◌+◌, ◌*◌, ◌<◌, length, get_or}
use Rattle.words.specs.Lists.{up_from}
use Rattle.tables.specs.Tables.{table}
use Rattle.trays.specs.Limits.{max_slips}
use Rattle.greedy.specs.Joins.{Join, join, left_of, right_of}
use Rattle.greedy.specs.Legends.{overlap_after}
use Rattle.answers.specs.Composing.{join_cells}
use Rattle.layout.specs.Layout.{KEPT, JOINS}
use Rattle.layout.specs.Tables.{cell}

abbrev pub kept_in : List ℕ → ℕ → List ℕ
kept_in w k = table w KEPT k

abbrev pub join_in : List ℕ → ℕ → Join
join_in w i = join (cell w JOINS (join_cells * i)) (cell w JOINS (join_cells * i + 1)) (cell w JOINS (join_cells * i + 2))

abbrev pub joins_in : List ℕ → ℕ → List Join
joins_in w k = map (join_in w) (up_from 0 k)

-- Rules: neighbours are kept in two lists of 200 marks, 0 meaning none. The mark of slip i + 1 is the i-th.
pub record Neighbours (js : List Join) (left right overs : List ℕ) : Type 0 where
  pub lefts : length left ≡ max_slips
  pub rights : length right ≡ max_slips
  pub overlaps : length overs ≡ max_slips
  pub left_is : (i : ℕ) → i < max_slips → get_or left i 0 ≡ left_of (suc i) js
  pub right_is : (i : ℕ) → i < max_slips → get_or right i 0 ≡ right_of (suc i) js
  pub overlap-is : (i : ℕ) → i < max_slips → get_or overs i 0 ≡ overlap_after (suc i) js
