-- What the functions of the two programs ask of the buffers that are lent to them, and what these hold afterwards.
--   FileRoom          == room for reading any tray file
--   TrayRoom          == room for composing any tray and for its sheets
--   ComposeRoom       == both
--   FindRoom          == room for reading any tray file, for finding in any text, and for the sheet
--   Printed ys o o' r == ys was written into the output from its start on, which had room for it, and r counts its bytes
--   TrayRead          == the tray of the file stands in the lent letters, ends and sides, or they are as they were if the file is refused
--   ComposeSheetSays  == what `compose` leaves of its buffers; FindSheetSays == what `find` leaves
use Rattle.std.specs.Prelude.{◌≡◌, List, ℕ, ◌*◌, ◌≤◌, length}
use Rattle.words.specs.Lists.{over}
use Rattle.trays.specs.Limits.{max_letters, max_file, ends_need, work_need}
use Rattle.trays.specs.Faults.{written}
use Rattle.file_rule.specs.Faults.{read_fault}
use Rattle.file_rule.specs.Answers.{sides_in}
use Rattle.sheet_rule.specs.Sheets.{compose_room, find_room, max_found}
use Rattle.sheet_rule.specs.Programs.{letters_in, ends_in, compose_sheet, find_sheet}

pub record FileRoom (a b d : List ℕ) : Type 0 where
  pub letters : max_file ≤ length a
  pub ends : ends_need ≤ length b
  pub sides : ends_need ≤ length d

pub record TrayRoom (w l o : List ℕ) : Type 0 where
  pub work : work_need ≤ length w
  pub legend : max_letters ≤ length l
  pub sheet : compose_room ≤ length o

pub record ComposeRoom (a b d w l o : List ℕ) : Type 0 where
  pub file : FileRoom a b d
  pub tray : TrayRoom w l o

-- two numbers an occurrence
pub record FindRoom (a b d w f o : List ℕ) : Type 0 where
  pub file : FileRoom a b d
  pub work : work_need ≤ length w
  pub found : 2 * max_found ≤ length f
  pub sheet : find_room ≤ length o

pub record Printed (ys o o' : List ℕ) (r : ℕ) : Type 0 where
  pub is : o' ≡ over ys o
  pub count : r ≡ length ys
  pub fits : length ys ≤ length o

pub record TrayRead (file a a' b b' d d' : List ℕ) : Type 0 where
  pub letters_are : a' ≡ written (read_fault file (length a) (length b) (length d)) (letters_in file) a
  pub ends_are : b' ≡ written (read_fault file (length a) (length b) (length d)) (ends_in file) b
  pub sides_are : d' ≡ written (read_fault file (length a) (length b) (length d)) (sides_in file) d

-- The work area and the buffer of the legend may hold anything afterwards, of the same length.
pub record ComposeSheetSays (file a a' b b' d d' w w' l l' o o' : List ℕ) (r : ℕ) : Type 0 where
  pub sheet : Printed (compose_sheet file) o o' r
  pub tray : TrayRead file a a' b b' d d'
  pub work : length w' ≡ length w
  pub legend : length l' ≡ length l

-- The text, the work area and the list of occurrences may hold anything afterwards, of the same length.
pub record FindSheetSays (file t t' a a' b b' d d' w w' f f' o o' : List ℕ) (r : ℕ) : Type 0 where
  pub sheet : Printed (find_sheet file t) o o' r
  pub tray : TrayRead file a a' b b' d d'
  pub text : length t' ≡ length t
  pub work : length w' ≡ length w
  pub found : length f' ≡ length f
