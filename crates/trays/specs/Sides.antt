-- The sides of slips. The list of sides cs that is lent with a tray has one byte for each slip.
--   blank_side, obverse, reverse == the three: a blank, O, R
--   is_side b          == b is one of them
--   side_of cs i       == the side of slip i; 0, which is no side, where there is no such slip
--   of_side cs b       == the numbers of the slips of side b, ascending
--   sides_row es cs    == place B, sides: 22, where the list is not as long as the ends or holds another value
--   side_row b         == the same number, where the side named is none of the three
--   side_fault         == the first of these two that speaks
--   sided_rows m b ..  == place B, settings, tray and sides: 21, 1 to 6, 22, where the least overlap is m and the side named b
--   sided_fault        == the first of these that speaks
--   sided_tray_rows     == the rows that judge a tray and its sides, whichever side is named: 1 to 6, 22; sided_tray_fault == the first that speaks
--   AcceptedSides     == none of these speaks
--   pair_fault         == what refuses a question about slips i and j, which names no side: 21, 1 to 6, 22, 10, 11
use Rattle.std.specs.Prelude.{◌≡◌, Bool, ◌||◌, not, List, [], ◌∷◌, ◌++◌, ℕ, eqb, length}
use Rattle.words.specs.Lists.{any, those, up_from, entry}
use Rattle.trays.specs.declared.Refusal.{Refusal}
use Rattle.trays.specs.Faults.{row, first_row, tray_rows, tray_fault, set_rows, slip_row, pair_row}

-- Rules, sides: a slip's side is blank, O or R.
abbrev pub blank_side : ℕ
blank_side = 32

abbrev pub obverse : ℕ
obverse = 79

abbrev pub reverse : ℕ
reverse = 82

abbrev pub is_side : ℕ → Bool
is_side b = eqb b blank_side || (eqb b obverse || eqb b reverse)

abbrev pub side_of : List ℕ → ℕ → ℕ
side_of cs i = entry cs i

abbrev pub of_side : List ℕ → ℕ → List ℕ
of_side cs b = those (λ i. eqb (side_of cs i) b) (up_from 1 (length cs))

-- Rules, 22: no detail is named.
abbrev pub sides_row : List ℕ → List ℕ → Refusal
sides_row es cs = row 22 (not (eqb (length cs) (length es)) || any (λ b. not (is_side b)) cs) 0

abbrev pub side_row : ℕ → Refusal
side_row b = row 22 (not (is_side b)) 0

unfoldable pub side_fault : List ℕ → List ℕ → ℕ → Refusal
side_fault es cs b = first_row (sides_row es cs ∷ (side_row b ∷ []))

-- Rules, place B: 22 is checked after 6.
abbrev pub sided_rows : ℕ → ℕ → List ℕ → List ℕ → List ℕ → List Refusal
sided_rows m b s es cs = set_rows m s es ++ (sides_row es cs ∷ (side_row b ∷ []))

unfoldable pub sided_fault : ℕ → ℕ → List ℕ → List ℕ → List ℕ → Refusal
sided_fault m b s es cs = first_row (sided_rows m b s es cs)

abbrev pub sided_tray_rows : List ℕ → List ℕ → List ℕ → List Refusal
sided_tray_rows s es cs = tray_rows s es ++ (sides_row es cs ∷ [])

unfoldable pub sided_tray_fault : List ℕ → List ℕ → List ℕ → Refusal
sided_tray_fault s es cs = first_row (sided_tray_rows s es cs)

pub record AcceptedSides (s es cs : List ℕ) : Type 0 where
  pub tray : (tray_fault s es).number ≡ 0
  pub sides : (sides_row es cs).number ≡ 0

-- Rules, place B: 22 is checked before the slips named.
unfoldable pub pair_fault : ℕ → List ℕ → List ℕ → List ℕ → ℕ → ℕ → Refusal
pair_fault m s es cs i j = first_row (set_rows m s es ++ (sides_row es cs ∷ (slip_row es i ∷ (slip_row es j ∷ (pair_row i j ∷ [])))))
