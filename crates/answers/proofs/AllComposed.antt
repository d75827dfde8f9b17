-- Computed specimens of the records: what the definitions put into the lists of joins and places. The outcomes are the rules', or worked out by
-- hand from its sentences.
-- Modules are checked in the order of their names: an edited definition is refused here first.
--   Records      == the two lists of records of one tray
--   records_of ss == those of the slips ss
--   specimens    == trays, written as words, with their records
use mathlib.Core.Path.{◌≡◌, refl}
use mathlib.Core.Bool.{true, false}
use mathlib.Core.List.{List, [], ◌∷◌, map}
use Prim.Native.Nat.{ℕ}
use Prim.Native.String.{String}
use Rattle.words.specs.Quoted.{word}
use Rattle.trays.specs.declared.Refusal.{Refusal}
use Rattle.trays.specs.Slips.{numbers}
use Rattle.trays.specs.Faults.{refusal, first_row}
use Rattle.trays.specs.Sides.{blank_side, obverse, reverse}
use Rattle.greedy.specs.Composing.{Composing, usual_of, usual, whole, sided, joins_of}
use Rattle.answers.specs.declared.Join.{Join}
use Rattle.answers.specs.declared.Place.{Place}
use Rattle.answers.specs.Composing.{compose_fault, room_rows, outcome_of, flat_places, flat_records}
use Rattle.answers.specs.Records.{join_record, place_record}

abbrev joined : ℕ → ℕ → ℕ → Join
joined l r o = record { left = l; right = r; overlap = o }

abbrev kept_at : ℕ → ℕ → Place
kept_at i p = record { slip = i; place = p; kept = true; compared = 0; side = blank_side }

abbrev aside_at : ℕ → ℕ → ℕ → Place
aside_at i p n = record { slip = i; place = p; kept = false; compared = n; side = blank_side }

pub record Records : Type 0 where
  pub joins : List Join
  pub places : List Place

pub record Specimen : Type 0 where
  pub tray : List String
  pub records : Records

abbrev specimen : List String → List Join → List Place → Specimen
specimen ws js ps = record { tray = ws; records = record { joins = js; places = ps } }

abbrev pub records_of : List (List ℕ) → Records
records_of ss = record { joins = map join_record (joins_of (whole usual ss)); places = map (place_record (whole usual ss) blank_side) (numbers ss) }

pub specimens : List Specimen
specimens =
    specimen [] [] []
    ∷ specimen ("AVG" ∷ "AVG" ∷ []) [] (kept_at 1 1 ∷ aside_at 2 1 3 ∷ [])
    ∷ specimen ("AB" ∷ "BA" ∷ []) (joined 2 1 1 ∷ []) (kept_at 1 2 ∷ kept_at 2 1 ∷ [])
    -- at places 1 and 2 the last letter differs, at place 3 all three agree
    ∷ specimen ("AAB" ∷ "AAAAB" ∷ []) [] (aside_at 1 3 5 ∷ kept_at 2 1 ∷ [])
    -- the sample tray
    ∷ specimen
    ("IMPCAES" ∷ "AES" ∷ "CAESAVG" ∷ "VGPIVS" ∷ "SIMP" ∷ [])
    (joined 1 3 4 ∷ joined 5 1 3 ∷ joined 3 4 2 ∷ [])
    (kept_at 1 2 ∷ aside_at 2 6 8 ∷ kept_at 3 5 ∷ kept_at 4 10 ∷ kept_at 5 1 ∷ [])
    ∷ []

pub specimens_computed : map (λ s. records_of (map word s.tray)) specimens ≡ map (λ s. s.records) specimens
unfolding specimens
specimens_computed = refl

-- as numbers: place, mark, letters compared
pub flat-computed : flat_places (whole usual (map word ("AAB" ∷ "AAAAB" ∷ []))) ≡ 3 ∷ 0 ∷ 5 ∷ 1 ∷ 1 ∷ 0 ∷ []
flat-computed = refl

-- the rows in their order, of the tray O AB, O BC and of one that is refused: settings, tray, sides, work area, legend, lists
abbrev fault : ℕ → ℕ → String → String → ℕ → ℕ → ℕ → ℕ → Refusal
fault m b s cs w l j p = compose_fault (record { least = m; side = b }) (word s) (2 ∷ 4 ∷ []) (word cs) w l j p

pub rows-computed :
    (fault 0 obverse "AB#C" "O" 0 0 0 0
    ∷ fault 33 obverse "ABBC" "OO" 31999 0 0 0
    ∷ fault 32 obverse "AB#C" "O" 31999 0 0 0
    ∷ fault 2 obverse "ABBC" "O" 31999 3 0 0
    ∷ fault 2 66 "ABBC" "OO" 31999 3 0 0
    ∷ fault 2 obverse "ABBC" "OO" 31999 3 0 0
    ∷ fault 2 obverse "ABBC" "OO" 32000 3 0 0
    ∷ fault 1 obverse "ABBC" "OO" 32000 3 0 2
    ∷ fault 2 obverse "ABBC" "OO" 32000 4 0 2
    ∷ [])
    ≡ (refusal 21 0 ∷ refusal 21 0 ∷ refusal 6 2 ∷ refusal 22 0 ∷ refusal 22 0 ∷ refusal 7 0 ∷ refusal 8 4 ∷ refusal 9 1 ∷ refusal 0 0 ∷ [])
unfolding compose_fault
rows-computed = refl

-- of a side its own slips are counted: AB, O ABC, R AVG, O BA, and O A, which is set aside
abbrev of_obverse : Composing
of_obverse = sided (usual_of obverse) (word " OROO") (map word ("AB" ∷ "ABC" ∷ "AVG" ∷ "BA" ∷ "A" ∷ []))

pub side_computed :
    (outcome_of of_obverse ≡ record { number = 0; detail = 0; slips = 3; kept = 2; letters = 5; saved = 1; legend = 4; joins = 1 })
    × (flat_records of_obverse obverse ≡ 2 ∷ 2 ∷ 1 ∷ 0 ∷ 79 ∷ 4 ∷ 1 ∷ 1 ∷ 0 ∷ 79 ∷ 5 ∷ 2 ∷ 0 ∷ 2 ∷ 79 ∷ [])
    × (first_row (room_rows of_obverse 4 1 3) ≡ refusal 0 0)
    × (first_row (room_rows of_obverse 4 1 2) ≡ refusal 9 1)
side_computed = (refl, refl, refl, refl)

-- a record carries the side that was named: O A, in the tray above
pub side_recorded : place_record of_obverse obverse 5 ≡ record { slip = 5; place = 2; kept = false; compared = 2; side = 79 }
side_recorded = refl

-- a side without slips asks for no letters, no joins and no records; 7 comes before it
pub side_empty :
    (fault 1 reverse "ABBC" "OO" 32000 0 0 0 ∷ fault 1 reverse "ABBC" "OO" 31999 0 0 0 ∷ []) ≡ (refusal 0 0 ∷ refusal 7 0 ∷ [])
unfolding compose_fault
side_empty = refl
