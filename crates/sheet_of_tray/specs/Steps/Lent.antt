-- The sheets of a tray with letters s, ends es and sides cs, written into a lent buffer one side after another. Afterwards the work area w and the buffer l
-- of the legend may hold anything of the same length.
--   SideRoom       == the tray and its sides are accepted, b is a side, and there is room for composing it
--   SideSheetSays  == the sheet of side b stands in the output
--   shown_sheet cs ss b == the sheet of side b, if there is one
--   SheetAdded     == it stands after the first `at` bytes of the output
--   TraySheetsSays == all sheets stand in the output, or the line of the refusal
use Rattle.std.specs.Prelude.{◌≡◌, true, cond, List, [], ℕ, ◌+◌, ◌≤◌, length}
use Rattle.trays.specs.Limits.{max_letters, work_need}
use Rattle.trays.specs.Slips.{slips_of}
use Rattle.trays.specs.Sides.{is_side, AcceptedSides}
use Rattle.greedy.specs.Composing.{usual_of, sided}
use Rattle.sheet_rule.specs.Sheets.{side_sheet_of, sheet_room}
use Rattle.sheet_rule.specs.Sides.{is_shown}
use Rattle.sheet_rule.specs.Programs.{tray_sheets}
use Rattle.sheet_rule.specs.Lent.{Printed}
use Rattle.sheet_columns.specs.Steps.Wrote.{Wrote}

pub record SideRoom (s es cs : List ℕ) (b : ℕ) (w l : List ℕ) : Type 0 where
  pub tray : AcceptedSides s es cs
  pub side : is_side b ≡ true
  pub work : work_need ≤ length w
  pub legend : max_letters ≤ length l

pub record SideSheetSays (s es cs : List ℕ) (b : ℕ) (w w' l l' o o' : List ℕ) (r : ℕ) : Type 0 where
  pub sheet : Printed (side_sheet_of b (sided (usual_of b) cs (slips_of s es))) o o' r
  pub work : length w' ≡ length w
  pub legend : length l' ≡ length l

abbrev pub shown_sheet : List ℕ → List (List ℕ) → ℕ → List ℕ
shown_sheet cs ss b = cond (is_shown cs b) (side_sheet_of b (sided (usual_of b) cs ss)) []

pub record SheetAdded (s es cs : List ℕ) (b : ℕ) (w w' l l' o o' : List ℕ) (at r : ℕ) : Type 0 where
  pub wrote : Wrote at (length (shown_sheet cs (slips_of s es) b)) (shown_sheet cs (slips_of s es) b) o o' r
  pub few : r ≤ at + sheet_room
  pub work : length w' ≡ length w
  pub legend : length l' ≡ length l

pub record TraySheetsSays (s es cs w w' l l' o o' : List ℕ) (r : ℕ) : Type 0 where
  pub sheet : Printed (tray_sheets s es cs) o o' r
  pub work : length w' ≡ length w
  pub legend : length l' ≡ length l
