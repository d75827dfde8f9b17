-- What the sheet of a text asks of the buffers that a program lends, and what of a text file is its text.
--   TextRoom  == room for finding in any text, for just the occurrences that `find` lists, and for its sheet
--   TextSheetSays == the sheet stands in the output; work area and occurrences may hold anything of the same length
--   Trimmed   == the first r bytes of a text file are its text
--   Filed     == once the text is folded where it stands, the first r bytes are its letters
use Rattle.std.specs.Prelude.{◌≡◌, List, ℕ, ◌*◌, ◌≤◌, length, take}
use Rattle.trays.specs.Limits.{work_need}
use Rattle.sheet_rule.specs.Sheets.{find_room, max_found}
use Rattle.sheet_rule.specs.Programs.{text_of, text_in, text_sheet}
use Rattle.sheet_rule.specs.Lent.{Printed}

pub record TextRoom (w f o : List ℕ) : Type 0 where
  pub work : work_need ≤ length w
  -- two numbers an occurrence
  pub found : length f ≡ 2 * max_found
  pub sheet : find_room ≤ length o

pub record TextSheetSays (s es t w w' f f' o o' : List ℕ) (r : ℕ) : Type 0 where
  pub sheet : Printed (text_sheet s es t) o o' r
  pub work : length w' ≡ length w
  pub found : length f' ≡ length f

pub record Trimmed (text : List ℕ) (r : ℕ) : Type 0 where
  pub within : r ≤ length text
  pub is : take r text ≡ text_of text

pub record Filed (text text' : List ℕ) (r : ℕ) : Type 0 where
  pub same : length text' ≡ length text
  pub within : r ≤ length text'
  pub is : take r text' ≡ text_in text
