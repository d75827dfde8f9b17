-- Finding the slips of a tray with letters s and ends es in a text t: refusals 12, 13, 7 and 14 after those of the tray, the answer, and what
-- each buffer holds afterwards. The work area has w cells, and the list takes k occurrences.
--   text_rows t            == place B, text: 12 and 13
--   find_rows s es t w     == the rows before place C
--   find_before            == what refuses finding before place C
--   find_fault .. k        == what refuses finding
--   search_of .. k         == the answer
--   found_record f            == an occurrence as a record of the lent list
--   found_numbers f        == an occurrence as numbers: end place, slip; flat_found fs == occurrences as numbers
--   Answered .. w w' k r  == r is the answer, and the work area is as it may be
--   FindSays, FindFlat    == what finding promises, with a lent list of records and with one of numbers
use Rattle.std.specs.Prelude.{◌≡◌, List, [], ◌∷◌, ◌++◌, map, ℕ, zero, suc, ◌*◌, ◌/◌, ◌≤◌, ltb, leb, length}
use Rattle.words.specs.Lists.{each}
use Rattle.trays.specs.declared.Refusal.{Refusal}
use Rattle.trays.specs.Limits.{max_text}
use Rattle.trays.specs.Slips.{slips_of}
use Rattle.trays.specs.Faults.{row, first_row, bad_place, tray_rows, written}
use Rattle.matching.specs.Moves.{moves}
use Rattle.matching.specs.Occurrences as O
use Rattle.matching.specs.Occurrences.{occurrences}
use Rattle.answers.specs.WorkArea.{work_row, WorkKept}
use Rattle.answers.specs.declared.Found.{Found}
use Rattle.answers.specs.declared.Search.{Search}

abbrev pub text_rows : List ℕ → List Refusal
text_rows t = row 12 (ltb max_text (length t)) 0 ∷ (row 13 (leb 1 (bad_place 1 t)) (bad_place 1 t) ∷ [])

abbrev pub find_rows : List ℕ → List ℕ → List ℕ → ℕ → List Refusal
find_rows s es t w = tray_rows s es ++ (text_rows t ++ (work_row w ∷ []))

unfoldable pub find_before : List ℕ → List ℕ → List ℕ → ℕ → Refusal
find_before s es t w = first_row (find_rows s es t w)

-- Rules, place C: more occurrences than the list takes.
abbrev pub list_row : List (List ℕ) → List ℕ → ℕ → Refusal
list_row ss t k = let n = length (occurrences ss t) in row 14 (ltb k n) n

unfoldable pub find_fault : List ℕ → List ℕ → List ℕ → ℕ → ℕ → Refusal
find_fault s es t w k = first_row (find_rows s es t w ++ (list_row (slips_of s es) t k ∷ []))

-- the answer to a tray and a text that are not refused
abbrev pub search_outcome : List (List ℕ) → List ℕ → Search
search_outcome ss t = record { number = 0; detail = 0; moves = moves ss t; count = length (occurrences ss t) }

abbrev pub search_refused : Refusal → Search
search_refused f = record { number = f.number; detail = f.detail; moves = 0; count = 0 }

unfoldable pub search_of : List ℕ → List ℕ → List ℕ → ℕ → ℕ → Search
search_of s es t w k =
    let f = find_fault s es t w k in
    elim f.number [ zero ↦ search_outcome (slips_of s es) t | suc n ↦ search_refused f ]

abbrev pub found_record : O.Occurrence → Found
found_record f = record { end = f.end; slip = f.which }

abbrev pub found_numbers : O.Occurrence → List ℕ
found_numbers f = f.end ∷ (f.which ∷ [])

abbrev pub flat_found : List O.Occurrence → List ℕ
flat_found fs = each found_numbers fs

pub record Answered (s es t w w' : List ℕ) (k : ℕ) (r : Search) : Type 0 where
  pub answer-is : r ≡ search_of s es t (length w) k
  -- Rules: moves are at most 2 × the letters.
  pub few_moves : r.moves ≤ 2 * length t
  pub work_is : WorkKept (find_before s es t (length w)) w w'

pub record FindSays (s es t w w' : List ℕ) (o o' : List Found) (r : Search) : Type 0 where
  pub answered : Answered s es t w w' (length o) r
  pub found_are : o' ≡ written (find_fault s es t (length w) (length o)) (map found_record (occurrences (slips_of s es) t)) o

-- two numbers an occurrence
pub record FindFlat (s es t w w' o o' : List ℕ) (r : Search) : Type 0 where
  pub answered : Answered s es t w w' (length o / 2) r
  pub found_are : o' ≡ written (find_fault s es t (length w) (length o / 2)) (flat_found (occurrences (slips_of s es) t)) o
