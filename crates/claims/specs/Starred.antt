-- The specimens of the rules (docs/RULES.md, *Specimens*) as one list: a tray, what is asked of it, and the answer, worked out by hand.
--   Sheet              == what composing gives: the values of the `compose` sheet, and the joins by both rules
--   Asked, Told        == a question on a tray, and its answer
--   answer s es q      == the answer to q from the definitions, for the tray of letters s and ends es
--   starred            == the list
--   computed x         == the tray's refusal number, and the answer
use Rattle.std.specs.Prelude.{true, false, List, [], ◌∷◌, map, ℕ, length, replicate}
use Prim.Native.String.{String}
use Rattle.words.specs.Quoted.{word}
use Rattle.trays.specs.declared.Pair.{Pair}
use Rattle.trays.specs.Slips.{slips_of, slip, numbers}
use Rattle.trays.specs.Aside.{is_aside, kept}
use Rattle.trays.specs.Answers.{pair_of}
use Rattle.trays.specs.Sides.{blank_side}
use Rattle.trays.specs.Faults.{tray_fault}
use Rattle.greedy.specs.Joins.{Join, join, saved}
use Rattle.greedy.specs.Composing.{usual, whole, joins_of, walk_of, legend_of, place_of, kept_letters}
use Rattle.matching.specs.Moves.{moves}
use Rattle.matching.specs.Occurrences.{Occurrence, occurrence, occurrences}

-- K kept, S set aside
pub data Mark : Type 0 where
  K S : Mark

-- a slip line: number, length, place, mark
pub record SheetLine : Type 0 where
  pub number : ℕ
  pub letters : ℕ
  pub place : ℕ
  pub mark : Mark

abbrev pub line : ℕ → ℕ → ℕ → Mark → SheetLine
line i n p m = record { number = i; letters = n; place = p; mark = m }

abbrev pub line_of : List (List ℕ) → ℕ → SheetLine
line_of ss i = line i (length (slip ss i)) (place_of (whole usual ss) i) (elim (is_aside ss (numbers ss) i) [ true ↦ S | false ↦ K ])

pub record Sheet : Type 0 where
  -- slips, kept, kept letters, saved, legend length
  pub header : List ℕ
  pub lines : List SheetLine
  pub by-plain-rule : List Join
  pub by_walk : List Join
  pub legend : List ℕ

abbrev pub sheet_of : List (List ℕ) → Sheet
sheet_of ss =
    let js = joins_of (whole usual ss) in
    let t = legend_of (whole usual ss) in
    record {
      header = length ss ∷ length (kept ss (numbers ss)) ∷ kept_letters (whole usual ss) ∷ saved js ∷ length t ∷ [];
      lines = map (line_of ss) (numbers ss);
      by-plain-rule = js;
      by_walk = walk_of (whole usual ss);
      legend = t;
    }

pub data Asked : Type 0 where
  composing : Asked
  overlap_between : ℕ → ℕ → Asked
  finding_in : String → Asked

pub data Told : Type 0 where
  sheet : Sheet → Told
  pair : Pair → Told
  -- the moves and the occurrences
  finds : ℕ → List Occurrence → Told

abbrev pub answer : List ℕ → List ℕ → Asked → Told
answer s es composing = sheet (sheet_of (slips_of s es))
answer s es (overlap_between i j) = pair (pair_of 1 s es (replicate (length es) blank_side) i j)
answer s es (finding_in t) = finds (moves (slips_of s es) (word t)) (occurrences (slips_of s es) (word t))

pub record Specimen : Type 0 where
  pub letters : String
  pub ends : List ℕ
  pub asked : Asked
  pub told : Told

abbrev pub specimen : String → List ℕ → Asked → Told → Specimen
specimen s es q a = record { letters = s; ends = es; asked = q; told = a }

-- a tray composed: header, slip lines, joins (one list for both rules), legend
abbrev pub composes : String → List ℕ → List ℕ → List SheetLine → List Join → String → Specimen
composes s es h ls js t =
    specimen s es composing (sheet (record { header = h; lines = ls; by-plain-rule = js; by_walk = js; legend = word t }))

pub record Computed : Type 0 where
  pub refused : ℕ
  pub told : Told

abbrev pub computed : Specimen → Computed
computed x =
    let s = word x.letters in
    record { refused = (tray_fault s x.ends).number; told = answer s x.ends x.asked }

abbrev pub expected : Specimen → Computed
expected x = record { refused = 0; told = x.told }

abbrev pub compose_letters : String
compose_letters = "IMPCAESAESCAESAVGVGPIVSSIMP"

abbrev pub compose_ends : List ℕ
compose_ends = 7 ∷ 10 ∷ 17 ∷ 23 ∷ 27 ∷ []

-- In each line: letters, ends; slips, kept, kept letters, saved, legend length; slip lines; joins; legend.
unfoldable pub starred : List Specimen
starred =
    composes "" [] (0 ∷ 0 ∷ 0 ∷ 0 ∷ 0 ∷ []) [] [] ""
    ∷ composes "AVG" (3 ∷ []) (1 ∷ 1 ∷ 3 ∷ 0 ∷ 3 ∷ []) (line 1 3 1 K ∷ []) [] "AVG"
    ∷ composes "AVGAVG" (3 ∷ 6 ∷ []) (2 ∷ 1 ∷ 3 ∷ 0 ∷ 3 ∷ []) (line 1 3 1 K ∷ line 2 3 1 S ∷ []) [] "AVG"
    ∷ specimen "AVGAVG" (3 ∷ 6 ∷ []) (overlap_between 1 2) (pair (record { number = 0; detail = 0; letters = 3 }))
    ∷ composes "AVGCAESAVG" (3 ∷ 10 ∷ []) (2 ∷ 1 ∷ 7 ∷ 0 ∷ 7 ∷ []) (line 1 3 5 S ∷ line 2 7 1 K ∷ []) [] "CAESAVG"
    ∷ composes "ANNA" (4 ∷ []) (1 ∷ 1 ∷ 4 ∷ 0 ∷ 4 ∷ []) (line 1 4 1 K ∷ []) [] "ANNA"
    ∷ composes "ABBA" (2 ∷ 4 ∷ []) (2 ∷ 2 ∷ 4 ∷ 1 ∷ 3 ∷ []) (line 1 2 2 K ∷ line 2 2 1 K ∷ []) (join 2 1 1 ∷ []) "BAB"
    ∷ composes "CDAB" (2 ∷ 4 ∷ []) (2 ∷ 2 ∷ 4 ∷ 0 ∷ 4 ∷ []) (line 1 2 1 K ∷ line 2 2 3 K ∷ []) [] "CDAB"
    -- AKI, ELE, KIKI, KIRA, LEA
    ∷ composes
    "AKIELEKIKIKIRALEA"
    (3 ∷ 6 ∷ 10 ∷ 14 ∷ 17 ∷ [])
    (5 ∷ 5 ∷ 17 ∷ 7 ∷ 10 ∷ [])
    (line 1 3 4 K ∷ line 2 3 1 K ∷ line 3 4 5 K ∷ line 4 4 7 K ∷ line 5 3 2 K ∷ [])
    (join 1 3 2 ∷ join 3 4 2 ∷ join 2 5 2 ∷ join 5 1 1 ∷ [])
    "ELEAKIKIRA"
    -- the `compose` sheet
    ∷ composes
    compose_letters
    compose_ends
    (5 ∷ 4 ∷ 24 ∷ 9 ∷ 15 ∷ [])
    (line 1 7 2 K ∷ line 2 3 6 S ∷ line 3 7 5 K ∷ line 4 6 10 K ∷ line 5 4 1 K ∷ [])
    (join 1 3 4 ∷ join 5 1 3 ∷ join 3 4 2 ∷ [])
    "SIMPCAESAVGPIVS"
    -- the `find` sheet
    ∷ specimen compose_letters compose_ends (finding_in "IMPCAESAVG") (finds 11 (occurrence 7 1 ∷ occurrence 7 2 ∷ occurrence 10 3 ∷ []))
    ∷ []
