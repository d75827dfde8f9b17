-- What the functions that write lines into a lent buffer ask, and parts of lines that they write.
--   three_columns w a b c    == three numbers, each in w columns
--   head_end b               == the end of the header of side b: its mark, and LF; end_room == the bytes that it has at most
--   Ended b s s'            == it was written as the next bytes of the sheet s, and made it s'
--   Headed b c s s'         == so the header of side b with the numbers of the answer c
--   ..Fits, ..Fit           == numbers that fit their columns
--   ..Asks                  == what a function asks: such numbers, and room for the sheet
use Rattle.std.specs.Prelude.{List, [], ◌∷◌, ◌++◌, ℕ, ◌+◌, ◌*◌, ◌^◌, ◌≤◌, ◌<◌, length, get_or}
use Rattle.trays.specs.Slips.{start_of, end_of}
use Rattle.answers.specs.Composing.{join_cells, record_cells}
use Rattle.answers.specs.declared.Composed.{Composed}
use Rattle.file_rule.specs.Lines.{lf}
use Rattle.sheet_rule.specs.Sheets.{column, side_mark, side_line, mark_size, place_width, count_width, side_size, slip_size, join_size, find_size, found_size}
use Rattle.sheet_columns.specs.declared.Sheet.{Sheet}
use Rattle.sheet_columns.specs.Steps.Wrote.{Writes}

abbrev pub three_columns : ℕ → ℕ → ℕ → ℕ → List ℕ
three_columns w a b c = column w a ++ (column w b ++ column w c)

abbrev pub head_end : ℕ → List ℕ
head_end b = side_mark b ++ (lf ∷ [])

abbrev pub end_room : ℕ
end_room = mark_size + 1

pub record Ended (b : ℕ) (s s' : Sheet) : Type 0 where
  pub wrote : Writes (length (head_end b)) (head_end b) s s'
  pub most : length (head_end b) ≤ end_room

-- TRAY, two counts in 4 columns each, three sums in 5 each, and the end
abbrev pub head_size : ℕ → ℕ
head_size b = 4 + (4 + (4 + (15 + length (head_end b))))

pub record Headed (b : ℕ) (c : Composed) (s s' : Sheet) : Type 0 where
  pub wrote : Writes (head_size b) (side_line c.slips c.kept c.letters c.saved c.legend b) s s'
  pub most : length (head_end b) ≤ end_room

-- the numbers of the header fit
pub record HeaderFits (c : Composed) : Type 0 where
  pub slips : c.slips < 10 ^ 4
  pub kept : c.kept < 10 ^ 4
  pub letters : c.letters < 10 ^ 5
  pub saved : c.saved < 10 ^ 5
  pub legend : c.legend < 10 ^ 5

-- the numbers of the records are those of slips; the ends rise; and the slips' numbers, lengths and places fit
pub record SlipsFit (es ps : List ℕ) (n : ℕ) : Type 0 where
  pub few : length es < 10 ^ 4
  pub some : (i : ℕ) → i < n → 1 ≤ get_or ps (record_cells * i) 0
  pub there : (i : ℕ) → i < n → get_or ps (record_cells * i) 0 ≤ length es
  pub rise : (k : ℕ) → 1 ≤ k → k ≤ length es → start_of es k ≤ end_of es k
  pub small : (k : ℕ) → 1 ≤ k → k ≤ length es → end_of es k < 10 ^ 4
  pub placed : (i : ℕ) → i < n → get_or ps (record_cells * i + 1) 0 < 10 ^ 5
  pub records : record_cells * n ≤ length ps

pub record JoinsFit (js : List ℕ) (n : ℕ) : Type 0 where
  pub small : (i : ℕ) → i < join_cells * n → get_or js i 0 < 10 ^ 4
  pub numbers : join_cells * n ≤ length js

pub record ComposeAsks (c : Composed) (es js ps t : List ℕ) (room : ℕ) : Type 0 where
  pub header : HeaderFits c
  pub slips : SlipsFit es ps c.slips
  pub joins : JoinsFit js c.joins
  pub room-is : side_size + (slip_size * c.slips + (join_size * c.joins + (length t + 1))) ≤ room

pub record FoundFit (ns : List ℕ) (k : ℕ) : Type 0 where
  pub places : (i : ℕ) → i < k → get_or ns (2 * i) 0 < 10 ^ place_width
  pub slips : (i : ℕ) → i < k → get_or ns (2 * i + 1) 0 < 10 ^ 4
  pub numbers : 2 * k ≤ length ns

pub record FindAsks (n m k : ℕ) (ns : List ℕ) (room : ℕ) : Type 0 where
  pub letters : n < 10 ^ place_width
  pub moves : m < 10 ^ place_width
  pub count : k < 10 ^ count_width
  pub found : FoundFit ns k
  pub room-is : find_size + found_size * k ≤ room
