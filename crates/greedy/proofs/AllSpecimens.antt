-- Computed specimens of the definitions on composing, besides those of docs/RULES.md, *Specimens*, which stand in claims. The outcomes are worked
-- out by hand from the rules' sentences and computed here from the definitions. Modules are checked in the order of their names: an edited definition is
-- refused here first.
--   Outcome        == all that the definitions say of one tray
--   outcome_of g ss == the outcome of the slips ss with the settings g
--   Specimen       == a tray, written as words, and its outcome by the rules
--   telling        == trays at which a misread rule has another outcome
--   compared       == trays, and the letters compared for each slip; texts, and those compared to find a word in them
--   tight          == a tray and a text that holds it, at which the bound on savings is met with equality
--   set            == trays with settings at which a misread rule has another outcome
--   least_needed   == a tray and a text at which the bound fails, since the least overlap is 2
--   stops_needed   == a tray and a text at which the bound fails, since a slip begins with a stop
use mathlib.Core.Path.{◌≡◌, refl}
use mathlib.Core.Bool.{true, false}
use mathlib.Core.List.{List, [], ◌∷◌, map}
use Prim.Native.Nat.{ℕ, ◌+◌}
use Prim.Native.String.{String}
use Rattle.words.specs.Words.{non_empty}
use Rattle.words.specs.Quoted.{word}
use Rattle.trays.specs.declared.Settings.{Settings}
use Rattle.trays.specs.Slips.{numbers}
use Rattle.trays.specs.Aside.{kept}
use Rattle.trays.specs.Sides.{blank_side}
use Rattle.greedy.specs.Joins.{Join, join, plain_for, saved}
use Rattle.greedy.specs.Legends.{tried}
use Rattle.greedy.specs.Composing.{usual, whole, kept_of, joins_of, walk_of, legend_of, place_of, compared_of, kept_letters}
use Rattle.greedy.specs.Claims.{holds_all, stop_free, bound}

pub record Outcome : Type 0 where
  pub kept_slips : List ℕ
  pub by-plain-rule : List Join
  pub by_walk : List Join
  pub legend : List ℕ
  pub places : List ℕ
  pub saving : ℕ
  pub letters : ℕ

abbrev pub outcome_of : Settings → List (List ℕ) → Outcome
outcome_of g ss =
    record {
      kept_slips = kept ss (numbers ss);
      by-plain-rule = joins_of (whole g ss);
      by_walk = walk_of (whole g ss);
      legend = legend_of (whole g ss);
      places = map (place_of (whole g ss)) (numbers ss);
      saving = saved (joins_of (whole g ss));
      letters = kept_letters (whole g ss);
    }

pub record Specimen : Type 0 where
  pub tray : List String
  pub outcome : Outcome

-- a tray with its kept slips, joins (one list for both rules), legend, places of all slips, saved, kept letters
abbrev pub specimen : List String → List ℕ → List Join → String → List ℕ → ℕ → ℕ → Specimen
specimen ws K js t ps n m =
    record {
      tray = ws;
      outcome = record { kept_slips = K; by-plain-rule = js; by_walk = js; legend = word t; places = ps; saving = n; letters = m };
    }

pub telling : List Specimen
telling =
    -- a slip that has a right neighbour waits no more
    specimen ("AB" ∷ "BC" ∷ "BD" ∷ []) (1 ∷ 2 ∷ 3 ∷ []) (join 1 2 1 ∷ []) "ABCBD" (1 ∷ 2 ∷ 4 ∷ []) 1 6
    -- the lowest waiting slip would close a ring, the second lowest is taken
    ∷ specimen ("ANA" ∷ "CA" ∷ []) (1 ∷ 2 ∷ []) (join 2 1 1 ∷ []) "CANA" (2 ∷ 1 ∷ []) 1 5
    -- of arcs with one overlap string the lower right slip goes first
    ∷ specimen ("ABA" ∷ "ACA" ∷ []) (1 ∷ 2 ∷ []) (join 2 1 1 ∷ []) "ACABA" (3 ∷ 1 ∷ []) 1 6
    -- a ring of three does not close
    ∷ specimen ("AB" ∷ "BC" ∷ "CA" ∷ []) (1 ∷ 2 ∷ 3 ∷ []) (join 3 1 1 ∷ join 1 2 1 ∷ []) "CABC" (2 ∷ 3 ∷ 1 ∷ []) 2 6
    -- chains stand by their first slip, not in the order of their joins
    ∷ specimen
    ("AB" ∷ "BC" ∷ "DEF" ∷ "EFG" ∷ [])
    (1 ∷ 2 ∷ 3 ∷ 4 ∷ [])
    (join 3 4 2 ∷ join 1 2 1 ∷ [])
    "ABCDEFG"
    (1 ∷ 2 ∷ 4 ∷ 5 ∷ [])
    3
    10
    -- of two equal slips the lower one is kept
    ∷ specimen ("AB" ∷ "AB" ∷ "BC" ∷ []) (1 ∷ 3 ∷ []) (join 1 3 1 ∷ []) "ABC" (1 ∷ 1 ∷ 2 ∷ []) 1 4
    -- a slip that neither begins nor ends the longer one is set aside; its place may lie across two chains
    ∷ specimen ("AB" ∷ "CD" ∷ "XBCY" ∷ "BC" ∷ []) (1 ∷ 2 ∷ 3 ∷ []) [] "ABCDXBCY" (1 ∷ 3 ∷ 5 ∷ 2 ∷ []) 0 8
    -- an overlap of stops alone is none
    ∷ specimen ("BA" ∷ "A." ∷ ".B" ∷ []) (1 ∷ 2 ∷ 3 ∷ []) (join 1 2 1 ∷ join 3 1 1 ∷ []) ".BA." (2 ∷ 3 ∷ 1 ∷ []) 2 6
    ∷ specimen ("A." ∷ ".B" ∷ ".." ∷ []) (1 ∷ 2 ∷ 3 ∷ []) [] "A..B.." (1 ∷ 3 ∷ 5 ∷ []) 0 6
    -- one that begins or ends with a stop counts
    ∷ specimen ("X.A" ∷ ".AB" ∷ []) (1 ∷ 2 ∷ []) (join 1 2 2 ∷ []) "X.AB" (1 ∷ 2 ∷ []) 2 6
    ∷ specimen ("..A" ∷ ".A.." ∷ "A..B" ∷ []) (1 ∷ 2 ∷ 3 ∷ []) (join 2 3 3 ∷ join 1 2 2 ∷ []) "..A..B" (1 ∷ 2 ∷ 3 ∷ []) 5 11
    -- a stop that stands in a longer slip is set aside
    ∷ specimen ("A.B" ∷ "." ∷ []) (1 ∷ []) [] "A.B" (1 ∷ 2 ∷ []) 0 3
    -- the greedy legend saves 1, where the text CADAB saves 2
    ∷ specimen ("CA" ∷ "AB" ∷ "ADA" ∷ []) (1 ∷ 2 ∷ 3 ∷ []) (join 1 2 1 ∷ []) "CABADA" (1 ∷ 2 ∷ 4 ∷ []) 1 7
    ∷ []

abbrev pub computed : Settings → Specimen → Outcome
computed g s = outcome_of g (map word s.tray)

pub telling_computed : map (computed usual) telling ≡ map (λ s. s.outcome) telling
unfolding telling
telling_computed = refl

-- each after its least overlap
pub set : List (ℕ × Specimen)
set =
    (2, specimen ("AB" ∷ "BC" ∷ []) (1 ∷ 2 ∷ []) [] "ABBC" (1 ∷ 3 ∷ []) 0 4)
    -- as many letters as the least overlap are enough
    ∷ (2, specimen ("ABC" ∷ "BCD" ∷ []) (1 ∷ 2 ∷ []) (join 1 2 2 ∷ []) "ABCD" (1 ∷ 2 ∷ []) 2 6)
    ∷ (3, specimen ("ABC" ∷ "BCD" ∷ []) (1 ∷ 2 ∷ []) [] "ABCBCD" (1 ∷ 4 ∷ []) 0 6)
    -- a stop is a letter, but stops alone do not count
    ∷ (2, specimen ("X.A" ∷ ".AB" ∷ []) (1 ∷ 2 ∷ []) (join 1 2 2 ∷ []) "X.AB" (1 ∷ 2 ∷ []) 2 6)
    ∷ (2, specimen ("X.." ∷ "..A" ∷ []) (1 ∷ 2 ∷ []) [] "X....A" (1 ∷ 4 ∷ []) 0 6)
    -- without the join of one letter there are two chains
    ∷ (
      2,
      specimen
          ("AKI" ∷ "ELE" ∷ "KIKI" ∷ "KIRA" ∷ "LEA" ∷ [])
          (1 ∷ 2 ∷ 3 ∷ 4 ∷ 5 ∷ [])
          (join 1 3 2 ∷ join 3 4 2 ∷ join 2 5 2 ∷ [])
          "AKIKIRAELEA"
          (1 ∷ 8 ∷ 2 ∷ 4 ∷ 9 ∷ [])
          6
          17,
    )
    -- a slip that stands in a longer one is set aside, however short
    ∷ (
      3,
      specimen
          ("IMPCAES" ∷ "AES" ∷ "CAESAVG" ∷ "VGPIVS" ∷ "SIMP" ∷ [])
          (1 ∷ 3 ∷ 4 ∷ 5 ∷ [])
          (join 1 3 4 ∷ join 5 1 3 ∷ [])
          "VGPIVSSIMPCAESAVG"
          (8 ∷ 12 ∷ 11 ∷ 1 ∷ 7 ∷ [])
          7
          24,
    )
    ∷ (32, specimen ("AVG" ∷ "VG" ∷ "VGP" ∷ []) (1 ∷ 3 ∷ []) [] "AVGVGP" (1 ∷ 2 ∷ 4 ∷ []) 0 6)
    ∷ []

pub set-computed : map (λ s. computed (record { least = s.0; side = blank_side }) s.1) set ≡ map (λ s. s.1.outcome) set
unfolding set
set-computed = refl

-- kept slips 0
abbrev pub compared_in : List String → List ℕ
compared_in ws = let ss = map word ws in map (compared_of (whole usual ss)) (numbers ss)

pub compared :
    -- from the first letter on it would be 9
    (compared_in ("AAB" ∷ "AAAAB" ∷ []) ≡ 5 ∷ 0 ∷ [])
    -- at place 1 the letter that differs is the last, at place 2 both agree
    × (compared_in ("AB" ∷ "CD" ∷ "XBCY" ∷ "BC" ∷ []) ≡ 0 ∷ 0 ∷ 0 ∷ 3 ∷ [])
    × (compared_in ("AVG" ∷ "AVG" ∷ []) ≡ 0 ∷ 3 ∷ [])
    × (compared_in ("AVG" ∷ "CAESAVG" ∷ []) ≡ 7 ∷ 0 ∷ [])
    × (compared_in ("IMPCAES" ∷ "AES" ∷ "CAESAVG" ∷ "VGPIVS" ∷ "SIMP" ∷ []) ≡ 0 ∷ 8 ∷ 0 ∷ 0 ∷ 0 ∷ [])
compared = (refl, refl, refl, refl, refl)

-- in a text that need not hold the word: behind place 1 of BA the word AB would not fit
pub compared_anywhere :
    (tried (word "AB") (word "BA") ≡ 1) × (tried (word "ABC") (word "AB") ≡ 0) × (tried (word "CAB") (word "DABCAB") ≡ 3 + 1 + 1 + 3) × (tried [] [] ≡ 0)
compared_anywhere = (refl, refl, refl, refl)

abbrev pub tight_tray : List (List ℕ)
tight_tray = map word ("CA" ∷ "AB" ∷ "ADA" ∷ [])

pub tight :
    (holds_all tight_tray (kept tight_tray (numbers tight_tray)) (word "CADAB") ≡ true)
    × (kept_letters (whole usual tight_tray) ≡ bound (whole usual tight_tray) (word "CADAB"))
tight = (refl, refl)

-- with a least overlap of 2 the text saves what the joins do not
pub least_needed :
    let ss = map word ("AB" ∷ "BC" ∷ []) in
    let c = whole (record { least = 2; side = blank_side }) ss in
    (stop_free ss (kept_of c) ≡ true) × (holds_all ss (kept_of c) (word "ABC") ≡ true) × (kept_letters c ≡ 4) × (bound c (word "ABC") ≡ 3)
least_needed = (refl, refl, refl, refl)

abbrev pub stop_tray : List (List ℕ)
stop_tray = map word ("A." ∷ ".B" ∷ [])

-- a slip begins with a stop, and the text saves what the joins do not
pub stops_needed :
    (stop_free stop_tray (numbers stop_tray) ≡ false)
    × (holds_all stop_tray (kept stop_tray (numbers stop_tray)) (word "A.B") ≡ true)
    × (kept_letters (whole usual stop_tray) ≡ 4) × (bound (whole usual stop_tray) (word "A.B") ≡ 3)
stops_needed = (refl, refl, refl, refl)

-- by the rule on stops, and as if all overlaps counted
pub stops_tell : (joins_of (whole usual stop_tray) ≡ []) × (plain_for non_empty stop_tray (numbers stop_tray) ≡ join 1 2 1 ∷ [])
stops_tell = (refl, refl)

-- a stop at the end, or behind the first letter, is none at the beginning
pub stop-frees : (stop_free (map word ("A." ∷ "B.C" ∷ [])) (1 ∷ 2 ∷ []) ≡ true) × (stop_free stop_tray (1 ∷ []) ≡ true)
stop-frees = (refl, refl)
