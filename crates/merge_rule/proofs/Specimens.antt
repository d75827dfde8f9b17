-- Computed specimens of two trays merged that take longer: legends, and trays about as large as the limits allow.
--   slips ws        == labelled slips written as words, the side as the first sign of each
--   blank xs        == the slips xs, all of blank side
--   legend b ms     == the legend of side b of labelled slips
--   fault ws xs     == what refuses the merge of the labelled slips ws and xs, where just enough is lent
--   alike n k       == n equal slips of k letters
--   squared a       == 150 slips of two letters: one of 15 from a on, and one of the first ten
use mathlib.Core.Path.{◌≡◌, refl}
use mathlib.Core.List.{List, [], ◌∷◌, map}
use Prim.Native.Nat.{ℕ}
use Prim.Native.String.{String}
use lib.ListN.{replicate}
use Rattle.words.specs.Lists.{each, up_from}
use Rattle.words.specs.Words.{same}
use Rattle.words.specs.Quoted.{word}
use Rattle.trays.specs.declared.Refusal.{Refusal}
use Rattle.trays.specs.Faults.{refusal}
use Rattle.trays.specs.Written.{letters_of, ends_of}
use Rattle.trays.specs.Sides.{blank_side, obverse, reverse}
use Rattle.greedy.specs.Composing.{usual_of, sided, legend_of}
use Rattle.merge_rule.specs.Merging.{merged, letters_among, sides_among, merge_fault}

abbrev slips : List String → List (List ℕ)
slips ws = map word ws

abbrev blank : List (List ℕ) → List (List ℕ)
blank xs = map (λ x. blank_side ∷ x) xs

abbrev legend : ℕ → List (List ℕ) → List ℕ
legend b ms = legend_of (sided (usual_of b) (sides_among ms) (letters_among ms))

-- the legend is that of the long tray
pub blank_legend :
    (legend blank_side (merged same (slips (" AB" ∷ " BC" ∷ [])) (slips (" BC" ∷ " CD" ∷ " AB" ∷ []))) ≡ word "ABCD")
    × (legend blank_side (slips (" AB" ∷ " BC" ∷ " BC" ∷ " CD" ∷ " AB" ∷ [])) ≡ word "ABCD")
blank_legend = (refl, refl)

-- and so is that of each side: BC of another side is written, and joins nothing
pub legends_of_sides :
    let m = merged same (slips ("OAB" ∷ "RBC" ∷ [])) (slips ("OBC" ∷ "RBC" ∷ "RCD" ∷ "OAB" ∷ [])) in
    let long = slips ("OAB" ∷ "RBC" ∷ "OBC" ∷ "RBC" ∷ "RCD" ∷ "OAB" ∷ []) in
    (m ≡ slips ("OAB" ∷ "RBC" ∷ "OBC" ∷ "RCD" ∷ []))
    × (legend obverse m ≡ word "ABC") × (legend obverse long ≡ word "ABC") × (legend reverse m ≡ word "BCD") × (legend reverse long ≡ word "BCD")
legends_of_sides = (refl, refl, refl, refl, refl)

abbrev fault : List (List ℕ) → List (List ℕ) → Refusal
fault ws xs =
    let one = letters_among ws in
    let two = letters_among xs in
    merge_fault 2000 200 200 (letters_of one) (ends_of one) (sides_among ws) (letters_of two) (ends_of two) (sides_among xs)

abbrev alike : ℕ → ℕ → List (List ℕ)
alike n k = blank (replicate n (replicate k 65))

abbrev squared : ℕ → List (List ℕ)
squared a = blank (each (λ b. map (λ c. b ∷ (c ∷ [])) (up_from 65 10)) (up_from a 15))

-- the outcome: 201 slips, of another side or of other letters, 2,001 letters, both (1 stands first), and neither, since what equals is not counted; 150 and
-- 150 slips with 100 equal
pub outcomes :
    (fault (alike 200 1) (slips (" B" ∷ [])) ≡ refusal 1 0)
    × (fault (alike 200 1) (slips ("OA" ∷ [])) ≡ refusal 1 0)
    × (fault (alike 100 20) (slips (" B" ∷ [])) ≡ refusal 4 0)
    × (fault (alike 200 10) (slips (" B" ∷ [])) ≡ refusal 1 0)
    × (fault (alike 200 10) (alike 200 10) ≡ refusal 0 0)
    × (fault (squared 65) (squared 70) ≡ refusal 0 0)
unfolding merge_fault
outcomes = (refl, refl, refl, refl, refl, refl)
