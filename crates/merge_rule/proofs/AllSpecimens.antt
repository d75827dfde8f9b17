-- Computed specimens of two trays merged. The outcomes are worked out by hand from the rules' sentences. Modules are checked in the order of their names: an
-- edited definition is refused here first, where it computes another value.
--   slips ws     == slips written as words; where they are labelled, the side is the first sign of each
--   blank ws     == the same, all of blank side
--   merge ws xs  == the slips written of two trays of labelled slips, by way of their letters, ends and sides
--   fault d ..   == what refuses the call where d sides are lent, and room enough for letters and ends
use mathlib.Core.Path.{◌≡◌, refl}
use mathlib.Core.List.{List, [], ◌∷◌, map}
use Prim.Native.Nat.{ℕ}
use Prim.Native.String.{String}
use Rattle.words.specs.Quoted.{word}
use Rattle.trays.specs.declared.Refusal.{Refusal}
use Rattle.trays.specs.Limits.{max_slips, max_letters}
use Rattle.trays.specs.Faults.{refusal}
use Rattle.trays.specs.Written.{letters_of, ends_of}
use Rattle.trays.specs.Sides.{blank_side}
use Rattle.merge_rule.specs.Merging.{labelled, letters_among, sides_among, merged_sides, merge_fault}
use Rattle.merge_rule.specs.Claims.{long_ends}

abbrev slips : List String → List (List ℕ)
slips ws = map word ws

abbrev blank : List String → List (List ℕ)
blank ws = map (λ w. blank_side ∷ word w) ws

abbrev merge : List (List ℕ) → List (List ℕ) → List (List ℕ)
merge ws xs =
    let one = letters_among ws in
    let two = letters_among xs in
    merged_sides (letters_of one) (ends_of one) (sides_among ws) (letters_of two) (ends_of two) (sides_among xs)

-- a side in front of its letters, and the two taken apart again
pub labels :
    (labelled (slips ("AB" ∷ "C" ∷ [])) (word "R ") ≡ slips ("RAB" ∷ " C" ∷ []))
    × (letters_among (slips ("RAB" ∷ " C" ∷ [])) ≡ slips ("AB" ∷ "C" ∷ []))
    × (sides_among (slips ("RAB" ∷ " C" ∷ [])) ≡ word "R ")
labels = (refl, refl, refl)

-- equals of the first tray stay; of equals in the second one is written, and none that the first has; a slip that stands in another is no equal
pub equals :
    (merge (blank ("AB" ∷ "AB" ∷ [])) (blank ("AB" ∷ [])) ≡ blank ("AB" ∷ "AB" ∷ []))
    × (merge [] (blank ("CD" ∷ "CD" ∷ [])) ≡ blank ("CD" ∷ []))
    × (merge (blank ("CD" ∷ [])) (blank ("CD" ∷ "AB" ∷ "CD" ∷ [])) ≡ blank ("CD" ∷ "AB" ∷ []))
    × (merge (blank ("ABC" ∷ [])) (blank ("AB" ∷ [])) ≡ blank ("ABC" ∷ "AB" ∷ []))
equals = (refl, refl, refl, refl)

-- equal letters of another side are written too; equal letters of equal side are written once
pub equals_of_a_side :
    (merged_sides (word "AVG") (3 ∷ []) (word " ") (word "AVGAVG") (3 ∷ 6 ∷ []) (word "O ") ≡ slips (" AVG" ∷ "OAVG" ∷ []))
    × (merged_sides (word "AVG") (3 ∷ []) (word "O") (word "AVGAVG") (3 ∷ 6 ∷ []) (word "OO") ≡ slips ("OAVG" ∷ []))
    × (merged_sides [] [] [] (word "AVGABAVG") (3 ∷ 5 ∷ 8 ∷ []) (word "RRR") ≡ slips ("RAVG" ∷ "RAB" ∷ []))
    × (merge (slips ("OAB" ∷ "RAB" ∷ "OAB" ∷ [])) (slips ("RAB" ∷ " AB" ∷ "OCD" ∷ [])) ≡ slips ("OAB" ∷ "RAB" ∷ "OAB" ∷ " AB" ∷ "OCD" ∷ []))
equals_of_a_side = (refl, refl, refl, refl)

-- the ends of the second tray's slips go on where the first tray's letters end
pub ends :
    (ends_of (letters_among (merge (blank ("AB" ∷ "CDE" ∷ [])) (blank ("AB" ∷ "F" ∷ [])))) ≡ 2 ∷ 5 ∷ 6 ∷ [])
    × (long_ends (word "ABCDE") (2 ∷ 5 ∷ []) (2 ∷ 3 ∷ []) ≡ 2 ∷ 5 ∷ 7 ∷ 8 ∷ [])
ends = (refl, refl)

-- 15 before all else; the first tray before the second; the detail of the second counts its own slips
pub lent_first :
    (merge_fault 2000 199 200 (word "AB") (3 ∷ []) (word " ") [] [] [] ≡ refusal 15 0)
    × (merge_fault 1999 200 200 (word "AB") (2 ∷ []) (word " ") [] [] [] ≡ refusal 15 0)
    × (merge_fault 2000 200 200 (word "AB") (3 ∷ []) (word " ") (word "a") (1 ∷ []) (word " ") ≡ refusal 5 0)
    × (merge_fault 2000 200 200 (word "ABC") (1 ∷ 2 ∷ 3 ∷ []) (word "   ") (word "Aa") (1 ∷ 2 ∷ []) (word "  ") ≡ refusal 6 2)
    × (merge_fault 2000 200 200 (word "AB") (2 ∷ []) (word " ") (word "ABCD") (2 ∷ 4 ∷ []) (word "  ") ≡ refusal 0 0)
unfolding merge_fault
lent_first = (refl, refl, refl, refl, refl)

abbrev fault : ℕ → String → List ℕ → String → String → List ℕ → String → Refusal
fault d s es cs t fs ds = merge_fault max_letters max_slips d (word s) es (word cs) (word t) fs (word ds)

-- 22 of the first tray comes after its own 1 to 6 and before those of the second, whose 22 comes last; 15 comes before all; of two good trays none speaks
pub rows :
    (fault 200 "AB" (2 ∷ []) "o" "ab" (2 ∷ []) " " ≡ refusal 22 0)
    × (fault 200 "AB" (3 ∷ []) "o" "ab" (2 ∷ []) " " ≡ refusal 5 0)
    × (fault 200 "AB" (2 ∷ []) "O" "ab" (2 ∷ []) "o" ≡ refusal 6 1)
    × (fault 200 "AB" (2 ∷ []) "O" "CD" (2 ∷ []) "OR" ≡ refusal 22 0)
    × (fault 199 "AB" (3 ∷ []) "o" "ab" (2 ∷ []) " " ≡ refusal 15 0)
    × (fault 199 "AB" (2 ∷ []) "O" "ABCD" (2 ∷ 4 ∷ []) "R " ≡ refusal 15 0)
    × (fault 200 "AB" (2 ∷ []) "O" "ABCD" (2 ∷ 4 ∷ []) "R " ≡ refusal 0 0)
unfolding merge_fault
rows = (refl, refl, refl, refl, refl, refl, refl)
