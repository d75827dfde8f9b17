-- What the programs print, byte by byte: the rules, files and sheets.
--   decimal n             == the decimal digits of n, without leading zeros
--   column w n            == n right-justified in w columns, blanks in front
--   side_mark b            == what stands after the numbers of a header: a blank and the letter, for O and R
--   side_line              == the header of a `compose` sheet, with the mark of its side
--   slip_line, join_line    == a slip's line and a join's line of a `compose` sheet
--   find_line, found_line   == the header and an occurrence's line of a `find` sheet
--   refused_line f         == the line of a refusal
--   NAMESize              == the bytes of the line NAMELine, its LF included; of a header those of O and R
--   side_sheet_of b c       == the `compose` sheet of what is composed, where its side is b
--   compose_sheet_of ss     == that of all the slips ss as one side, the blank one, with the usual settings
--   find_sheet_of ss t      == the `find` sheet of the slips ss and the text t
--   compose_lines b c es js ps t == a `compose` sheet of side b from numbers: the answer c, the ends es of the whole tray, joins js of `join_cells` numbers
--                            each, records of places ps of `record_cells` numbers each, and the legend t
--   find_lines n m k ns    == a `find` sheet from numbers: n letters, m moves, k occurrences ns of two numbers each
--   sheet_room             == the bytes of the longest sheet of one side
--   compose_room, find_room == the bytes that the programs print at most
use Rattle.std.specs.Prelude.{true, false, cond, List, [], ◌∷◌, ◌++◌, ℕ, zero, suc, ◌+◌, ◌-◌, ◌*◌, ◌/◌, ◌%◌, eqb, ltb, length, get_or, replicate}
use Rattle.words.specs.Lists.{each, up_from}
use Rattle.words.specs.Quoted.{word}
use Rattle.trays.specs.declared.Refusal.{Refusal}
use Rattle.trays.specs.Limits.{max_slips, max_letters}
use Rattle.trays.specs.Slips.{slip, start_of, end_of}
use Rattle.trays.specs.Aside.{is_aside}
use Rattle.trays.specs.Sides.{blank_side}
use Rattle.file_rule.specs.Lines.{lf, blank}
use Rattle.greedy.specs.Joins.{saved}
use Rattle.greedy.specs.Composing.{Composing, usual, whole, kept_of, joins_of, legend_of, place_of, kept_letters}
use Rattle.matching.specs.Moves.{moves}
use Rattle.matching.specs.Occurrences.{occurrences}
use Rattle.answers.specs.declared.Composed.{Composed}
use Rattle.answers.specs.Composing.{join_cells, record_cells}

abbrev pub digit : ℕ → ℕ
digit d = 48 + d

-- at most f digits
abbrev pub digits : ℕ → ℕ → List ℕ
digits zero n = []
digits (suc f) n = elim (ltb n 10) [ true ↦ digit n ∷ [] | false ↦ digits f (n / 10) ++ (digit (n % 10) ∷ []) ]

-- a number n has at most n + 1 digits
unfoldable pub decimal : ℕ → List ℕ
decimal n = digits (suc n) n

-- House layout: decimal numbers right-justified in fixed columns, no leading zeros.
unfoldable pub column : ℕ → ℕ → List ℕ
column w n = let ds = decimal n in replicate (w - length ds) blank ++ ds

-- columns of the letters, moves and end places of `find`
abbrev pub place_width : ℕ
place_width = 4

-- columns of the occurrences of `find`
abbrev pub count_width : ℕ
count_width = 6

-- columns of a refusal's detail
abbrev pub detail_width : ℕ
detail_width = 6

-- Rules, sides: a blank and the letter after the header of O and R.
abbrev pub side_mark : ℕ → List ℕ
side_mark b = cond (eqb b blank_side) [] (blank ∷ (b ∷ []))

-- Header: slips and kept (4 columns each), kept letters, saved, legend length (5 each).
abbrev pub side_line : ℕ → ℕ → ℕ → ℕ → ℕ → ℕ → List ℕ
side_line n k m s l b = word "TRAY" ++ (column 4 n ++ (column 4 k ++ (column 5 m ++ (column 5 s ++ (column 5 l ++ (side_mark b ++ (lf ∷ [])))))))

-- the mark of O or R
abbrev pub mark_size : ℕ
mark_size = 1 + 1

abbrev pub side_size : ℕ
side_size = 4 + 4 + 4 + 5 + 5 + 5 + mark_size + 1

-- K
abbrev pub kept_sign : ℕ
kept_sign = 75

-- S
abbrev pub aside_sign : ℕ
aside_sign = 83

-- Slip line: number, length (4), place (5), blank, K kept or S set aside.
abbrev pub slip_line : ℕ → ℕ → ℕ → ℕ → List ℕ
slip_line i n p k = column 4 i ++ (column 4 n ++ (column 5 p ++ (blank ∷ (k ∷ (lf ∷ [])))))

abbrev pub slip_size : ℕ
slip_size = 4 + 4 + 5 + 1 + 1 + 1

-- Join line: left, right, overlap (4 each).
abbrev pub join_line : ℕ → ℕ → ℕ → List ℕ
join_line l r o = column 4 l ++ (column 4 r ++ (column 4 o ++ (lf ∷ [])))

abbrev pub join_size : ℕ
join_size = 4 + 4 + 4 + 1

-- Header: letters, moves (4 each), occurrences (6).
abbrev pub find_line : ℕ → ℕ → ℕ → List ℕ
find_line n m k = word "FIND" ++ (column place_width n ++ (column place_width m ++ (column count_width k ++ (lf ∷ []))))

abbrev pub find_size : ℕ
find_size = 4 + place_width + place_width + count_width + 1

-- Lines: end place, slip (4 each).
abbrev pub found_line : ℕ → ℕ → List ℕ
found_line e i = column place_width e ++ (column 4 i ++ (lf ∷ []))

abbrev pub found_size : ℕ
found_size = place_width + 4 + 1

-- A refusal prints REFUSED, number (4), detail (6).
abbrev pub refused_line : Refusal → List ℕ
refused_line f = word "REFUSED" ++ (column 4 f.number ++ (column detail_width f.detail ++ (lf ∷ [])))

abbrev pub refused_size : ℕ
refused_size = 7 + 4 + detail_width + 1

-- the whole sheets, from the slips alone
abbrev pub slip_line_of : Composing → ℕ → List ℕ
slip_line_of c i = slip_line i (length (slip c.slips i)) (place_of c i) (cond (is_aside c.slips c.members i) aside_sign kept_sign)

-- Then the legend and LF; for the empty tray that line is blank.
unfoldable pub side_sheet_of : ℕ → Composing → List ℕ
side_sheet_of b c =
    let js = joins_of c in
    let t = legend_of c in
    side_line (length c.members) (length (kept_of c)) (kept_letters c) (saved js) (length t) b
    ++ (each (slip_line_of c) c.members ++ (each (λ j. join_line j.left j.right j.overlap) js ++ (t ++ (lf ∷ []))))

abbrev pub compose_sheet_of : List (List ℕ) → List ℕ
compose_sheet_of ss = side_sheet_of blank_side (whole usual ss)

unfoldable pub find_sheet_of : List (List ℕ) → List ℕ → List ℕ
find_sheet_of ss t =
    let fs = occurrences ss t in
    find_line (length t) (moves ss t) (length fs) ++ each (λ f. found_line f.end f.which) fs

-- the same from numbers: the lines of the i-th record of places, of the i-th join, of the i-th occurrence
abbrev pub sign_of : ℕ → ℕ
sign_of k = cond (eqb k 0) aside_sign kept_sign

abbrev pub slip_line_at : List ℕ → List ℕ → ℕ → List ℕ
slip_line_at es ps i =
    let k = get_or ps (record_cells * i) 0 in
    slip_line k (end_of es k - start_of es k) (get_or ps (record_cells * i + 1) 0) (sign_of (get_or ps (record_cells * i + 2) 0))

abbrev pub join_line_at : List ℕ → ℕ → List ℕ
join_line_at js i = join_line (get_or js (join_cells * i) 0) (get_or js (join_cells * i + 1) 0) (get_or js (join_cells * i + 2) 0)

abbrev pub found_line_at : List ℕ → ℕ → List ℕ
found_line_at ns i = found_line (get_or ns (2 * i) 0) (get_or ns (2 * i + 1) 0)

-- the first n lines
abbrev pub lines : (ℕ → List ℕ) → ℕ → List ℕ
lines f n = each f (up_from 0 n)

abbrev pub compose_lines : ℕ → Composed → List ℕ → List ℕ → List ℕ → List ℕ → List ℕ
compose_lines b c es js ps t =
    side_line c.slips c.kept c.letters c.saved c.legend b
    ++ (lines (slip_line_at es ps) c.slips ++ (lines (join_line_at js) c.joins ++ (t ++ (lf ∷ []))))

abbrev pub find_lines : ℕ → ℕ → ℕ → List ℕ → List ℕ
find_lines n m k ns = find_line n m k ++ lines (found_line_at ns) k

-- the longest sheet of one side: 7,818 bytes
abbrev pub sheet_room : ℕ
sheet_room = side_size + slip_size * max_slips + join_size * (max_slips - 1) + (max_letters + 1)

-- a sheet for each of the three sides: 23,454 bytes
abbrev pub compose_room : ℕ
compose_room = 3 * sheet_room

-- `find` lists at most this many occurrences
abbrev pub max_found : ℕ
max_found = 8000

-- 72,019 bytes
abbrev pub find_room : ℕ
find_room = find_size + found_size * max_found
