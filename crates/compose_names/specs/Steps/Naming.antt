-- Joins and records of places of a tray that was cut out of another, told by the numbers that its slips have in that other tray: slip i of the cut tray is
-- slip `entry N i` of the whole. Each is a row of numbers, and the rows stand one after another in a table of the work area.
--   RowAsks base n xs w     == the numbers xs can be put after the first n cells of the table at base
--   RowPut base n xs w w'   == they have been put there, and no other cell has changed
--   SlipsIn N j             == both slips of the join j are among those that N numbers
--   named_in w N i           == join i of those staged in w, as numbers: left slip and right slip by their numbers in N, and the overlap
--   record_in w N b i        == the record of slip i + 1, of side b, as numbers: its number in N, its place, 1 if it is kept, the letters compared, its side
--   JoinAsks, NamesAsk      == what putting join i, and the first k joins, asks
--   JoinsNamed              == what the table NAMED holds then
--   RecordAsks, RecordsAsk  == what putting record i, and the first k records, asks
--   RecordsMade             == what the table RECORDS holds then
use Rattle.std.specs.Prelude.{◌≡◌, List, [], ◌∷◌, ◌++◌, map, ℕ, ◌+◌, ◌*◌, ◌≤◌, ◌<◌, length, get_or}
use Rattle.words.specs.Lists.{All, each, entry, up_from}
use Rattle.trays.specs.Limits.{max_slips, work_need}
use Rattle.tables.specs.Tables.{table, Cells, Only}
use Rattle.greedy.specs.Joins.{Join, rejoin}
use Rattle.answers.specs.Composing.{join_cells, join_numbers, flat_joins, place_cells, record_cells}
use Rattle.layout.specs.Layout.{PLACES, NAMED, all_joins, RECORDS, all_records}
use Rattle.layout.specs.Tables.{cell}
use Rattle.layout.specs.Staging.{join_in, joins_in}

pub record RowAsks (base n : ℕ) (xs w : List ℕ) : Type 0 where
  pub room : base + n + length xs ≤ length w
  pub small : All (λ x. x < 65536) xs

pub record RowPut (base n : ℕ) (xs w w' : List ℕ) : Type 0 where
  pub row : table w' base (n + length xs) ≡ table w base n ++ xs
  pub only : Only (Cells (base + n) (length xs)) w w'

-- joins
pub record SlipsIn (N : List ℕ) (j : Join) : Type 0 where
  pub left : (1 ≤ j.left) × (j.left ≤ length N)
  pub right : (1 ≤ j.right) × (j.right ≤ length N)

abbrev pub named_in : List ℕ → List ℕ → ℕ → List ℕ
named_in w N i = join_numbers (rejoin (entry N) (join_in w i))

pub record JoinAsks (w N : List ℕ) (i : ℕ) : Type 0 where
  pub room : work_need ≤ length w
  pub few : i < max_slips
  pub slips_within : SlipsIn N (join_in w i)

pub record NamesAsk (w N : List ℕ) (k : ℕ) : Type 0 where
  pub room : work_need ≤ length w
  pub few : k ≤ max_slips
  pub slips_within : (i : ℕ) → i < k → SlipsIn N (join_in w i)

pub record JoinsNamed (N : List ℕ) (k : ℕ) (w w' : List ℕ) : Type 0 where
  pub joins_are : table w' NAMED (join_cells * k) ≡ flat_joins (map (rejoin (entry N)) (joins_in w k))
  pub only : Only (Cells NAMED all_joins) w w'

-- records of places
abbrev pub record_in : List ℕ → List ℕ → ℕ → ℕ → List ℕ
record_in w N b i =
    let at = place_cells * i in
    get_or N i 0 ∷ (cell w PLACES at ∷ (cell w PLACES (at + 1) ∷ (cell w PLACES (at + 2) ∷ (b ∷ []))))

pub record RecordAsks (w N : List ℕ) (i : ℕ) : Type 0 where
  pub room : work_need ≤ length w
  pub few : i < max_slips
  pub there : i < length N

pub record RecordsAsk (w N : List ℕ) (k : ℕ) : Type 0 where
  pub room : work_need ≤ length w
  pub few : k ≤ max_slips
  pub there : k ≤ length N

pub record RecordsMade (N : List ℕ) (b k : ℕ) (w w' : List ℕ) : Type 0 where
  pub records_are : table w' RECORDS (record_cells * k) ≡ each (record_in w N b) (up_from 0 k)
  pub only : Only (Cells RECORDS all_records) w w'
