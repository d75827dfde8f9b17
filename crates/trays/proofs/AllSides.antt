-- Computed specimens of sides, worked out by hand from the rules' sentences. Modules are checked in the order of their names: an edited definition of sides is
-- refused here first.
--   numbers_of_sides     == the numbers of the slips of a side, in the whole tray
--   side_signs           == the three sides, and bytes that are none
--   side_rows            == 22: of a list of sides, and of the side named
--   sides_after_the_tray == 21, 1 to 6 and 22: which is reported of several
--   sided_pairs          == pairs of one side and of two; 22 comes after 6 and before 10 and 11
use mathlib.Core.Path.{◌≡◌, refl}
use mathlib.Core.Bool.{true, false}
use mathlib.Core.List.{[], ◌∷◌, map}
use Prim.Native.Nat.{ℕ}
use Prim.Native.String.{String}
use Rattle.words.specs.Quoted.{word}
use Rattle.trays.specs.declared.Pair.{Pair}
use Rattle.trays.specs.Faults.{refusal}
use Rattle.trays.specs.Sides.{blank_side, obverse, reverse, is_side, of_side, sides_row, side_fault, sided_fault, pair_fault}
use Rattle.trays.specs.Answers.{pair_of}

pub numbers_of_sides :
    (of_side (word " ORO") obverse ≡ 2 ∷ 4 ∷ [])
    × (of_side (word " ORO") blank_side ≡ 1 ∷ [])
    × (of_side (word " ORO") reverse ≡ 3 ∷ [])
    × (of_side (word "OO") reverse ≡ [])
numbers_of_sides = (refl, refl, refl, refl)

-- a blank, O, R; then 0, o, r, B and the byte after the blank
pub side_signs :
    map is_side (32 ∷ 79 ∷ 82 ∷ 0 ∷ 111 ∷ 114 ∷ 66 ∷ 33 ∷ []) ≡ (true ∷ true ∷ true ∷ false ∷ false ∷ false ∷ false ∷ false ∷ [])
side_signs = refl

-- a list one short, one long, with another value first and with another value last; a side for each of three slips, and for each of none; then a side named
-- that is none of the three, and one that is
pub side_rows :
    (sides_row (2 ∷ 4 ∷ []) (word "O")
    ∷ sides_row (2 ∷ []) (word "OR")
    ∷ sides_row (2 ∷ []) (word "o")
    ∷ sides_row (2 ∷ 4 ∷ []) (word "Oo")
    ∷ sides_row (2 ∷ 4 ∷ 6 ∷ []) (word " OR")
    ∷ sides_row [] []
    ∷ side_fault [] [] 0
    ∷ side_fault [] [] obverse
    ∷ [])
    ≡ (refusal 22 0 ∷ refusal 22 0 ∷ refusal 22 0 ∷ refusal 22 0 ∷ refusal 0 0 ∷ refusal 0 0 ∷ refusal 22 0 ∷ refusal 0 0 ∷ [])
unfolding side_fault
side_rows = refl

-- 21 before all; 6 before 22; 22 of a wrong value, of a list one long, of the side named; and nothing wrong
pub sides_after_the_tray :
    (sided_fault 0 obverse (word "AB") (2 ∷ []) (word "o")
    ∷ sided_fault 1 obverse (word "ab") (2 ∷ []) (word "o")
    ∷ sided_fault 1 obverse (word "AB") (2 ∷ []) (word "o")
    ∷ sided_fault 1 obverse (word "AB") (2 ∷ []) (word "OR")
    ∷ sided_fault 1 0 (word "AB") (2 ∷ []) (word "O")
    ∷ sided_fault 1 obverse (word "AB") (2 ∷ []) (word "O")
    ∷ [])
    ≡ (refusal 21 0 ∷ refusal 6 1 ∷ refusal 22 0 ∷ refusal 22 0 ∷ refusal 22 0 ∷ refusal 0 0 ∷ [])
unfolding sided_fault
sides_after_the_tray = refl

-- AVG three times, of which the first two are of one side; then, of the slips 4 and 4, a wrong value, a list one short, and a byte that is no sign too
abbrev pair : ℕ → ℕ → ℕ → Pair
pair n d k = record { number = n; detail = d; letters = k }

abbrev pair_in : String → String → ℕ → ℕ → Pair
pair_in s cs i j = pair_of 1 (word s) (3 ∷ 6 ∷ 9 ∷ []) (word cs) i j

pub sided_pairs :
    (pair_in "AVGAVGAVG" "OOR" 1 2
    ∷ pair_in "AVGAVGAVG" "OOR" 1 3
    ∷ pair_in "AVGAVGAVG" "OOR" 3 1
    ∷ pair_in "AVGAVGAVG" "OOo" 4 4
    ∷ pair_in "AVGAVGAVG" "OO" 4 4
    ∷ pair_in "AVGAVGAV#" "OO" 4 4
    ∷ pair_in "AVGAVGAVG" "OOR" 4 4
    ∷ [])
    ≡ (pair 0 0 3 ∷ pair 0 0 0 ∷ pair 0 0 0 ∷ pair 22 0 0 ∷ pair 22 0 0 ∷ pair 6 3 0 ∷ pair 10 4 0 ∷ [])
unfolding pair_fault
sided_pairs = refl
