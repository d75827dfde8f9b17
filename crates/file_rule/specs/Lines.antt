-- Rules, files and sheets: the lines of a tray file, and what a line holds.
--   lines_of s      == the lines of the file s, each with its LF, which the last may lack
--   first_line s    == the first of them
--   is_digit b      == b is a decimal digit
--   number v ds    == 1 + the number that v and the digits ds after it write; 0 if one of ds is no digit
--   field cs       == 1 + the number that the columns cs hold; 0 if they hold none
--   slip_field l    == the slip number of the line l
--   length_field l  == its stated length
--   side_field l    == its side, as it stands
--   is_laid_out l    == l has the layout of a tray line
--   typed l        == the letters of l, as they stand
--   letters l      == the same as they are filed
use Rattle.std.specs.Prelude.{Bool, true, false, ◌&&◌, List, [], ◌∷◌, map, ℕ, suc, ◌+◌, ◌-◌, ◌*◌, eqb, leb, length, get_or, take, drop}
use Rattle.words.specs.Lists.{head_or, last_or}
use Rattle.trays.specs.Sides.{is_side}
use Rattle.fold_rule.specs.Folding.{fold}

abbrev pub lf : ℕ
lf = 10

abbrev pub blank : ℕ
blank = 32

-- the byte b in front of the first line
abbrev pub on_first : ℕ → List (List ℕ) → List (List ℕ)
on_first b [] = (b ∷ []) ∷ []
on_first b (l ∷ ls) = (b ∷ l) ∷ ls

abbrev pub lines_of : List ℕ → List (List ℕ)
lines_of [] = []
lines_of (b ∷ bs) = elim (eqb b lf) [ true ↦ (b ∷ []) ∷ lines_of bs | false ↦ on_first b (lines_of bs) ]

abbrev pub first_line : List ℕ → List ℕ
first_line s = head_or [] (lines_of s)

abbrev pub is_digit : ℕ → Bool
is_digit b = leb 48 b && leb b 57

abbrev pub number : ℕ → List ℕ → ℕ
number v [] = suc v
number v (d ∷ ds) = elim (is_digit d) [ true ↦ number (10 * v + (d - 48)) ds | false ↦ 0 ]

-- House layout: decimal numbers right-justified in fixed columns, no leading zeros.
abbrev pub field : List ℕ → ℕ
field [] = 0
field (c ∷ cs) =
    elim (eqb c blank) [ true ↦ field cs | false ↦ elim (eqb c 48 && leb 1 (length cs)) [ true ↦ 0 | false ↦ number 0 (c ∷ cs) ] ]

-- Tray line: slip number in columns 1 to 4, length in 5 to 8, the side in 9 (a blank, O or R), letters from 10, LF.
abbrev pub slip_field : List ℕ → ℕ
slip_field l = field (take 4 l)

abbrev pub length_field : List ℕ → ℕ
length_field l = field (take 4 (drop 4 l))

abbrev pub side_field : List ℕ → ℕ
side_field l = get_or l 8 0

abbrev pub is_laid_out : List ℕ → Bool
is_laid_out l =
    leb 10 (length l) && (eqb (last_or 0 l) lf && (leb 1 (slip_field l) && (leb 1 (length_field l) && is_side (side_field l))))

abbrev pub typed : List ℕ → List ℕ
typed l = take (length l - 10) (drop 9 l)

-- Folding comes before the tray checks; columns 1 to 9 and the count of letters are those of the line as it stands.
abbrev pub letters : List ℕ → List ℕ
letters l = map fold (typed l)
