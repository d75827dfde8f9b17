-- Computed specimens of the shortest legend: the answer, and what stands in the legend's buffer afterwards, worked out by hand from the rules.
--   Sought    == a least overlap, a tray of blank sides, the cells and the letters lent, and the answer
--   computed  == the answer to it by the definition
use mathlib.Core.Path.{◌≡◌, refl}
use mathlib.Core.List.{List, [], ◌∷◌, map}
use Prim.Native.Nat.{ℕ, ◌+◌}
use Prim.Native.String.{String}
use lib.ListN.{length, replicate}
use Rattle.words.specs.Lists.{up_from, head_or}
use Rattle.words.specs.Quoted.{word}
use Rattle.trays.specs.declared.Refusal.{Refusal}
use Rattle.trays.specs.Slips.{slips_of}
use Rattle.trays.specs.Faults.{refusal, accepted, written}
use Rattle.trays.specs.Sides.{blank_side, obverse, reverse}
use Rattle.greedy.specs.Composing.{usual, whole}
use Rattle.shortest.specs.Orders.{shortest_legend}
use Rattle.answers.specs.declared.Shortest.{Shortest}
use Rattle.answers.specs.Shortest.{shortest_rows, shortest_fault, shortest_of}

pub record Sought : Type 0 where
  pub least : ℕ
  pub letters : String
  pub ends : List ℕ
  pub cells : ℕ
  pub room : ℕ
  pub answer : Shortest

abbrev found : ℕ → ℕ → List ℕ → Shortest
found n k xs = record { number = 0; detail = 0; legend = n; count = k; order = xs }

abbrev refused : ℕ → ℕ → Shortest
refused n d = record { number = n; detail = d; legend = 0; count = 0; order = replicate 10 0 }

abbrev sought : ℕ → String → List ℕ → ℕ → ℕ → Shortest → Sought
sought m s es w l r = record { least = m; letters = s; ends = es; cells = w; room = l; answer = r }

abbrev pub soughts : List Sought
soughts =
    sought 1 "" [] 32000 0 (found 0 0 (replicate 10 0))
    -- CA, AB, ADA: five letters, and as many are lent
    ∷ sought 1 "CAABADA" (2 ∷ 4 ∷ 7 ∷ []) 32000 5 (found 5 3 (1 ∷ 3 ∷ 2 ∷ replicate 7 0))
    ∷ sought 1 "CAABADA" (2 ∷ 4 ∷ 7 ∷ []) 32000 4 (refused 8 5)
    -- with a least overlap of 2 nothing is shared
    ∷ sought 2 "CAABADA" (2 ∷ 4 ∷ 7 ∷ []) 32000 7 (found 7 3 (1 ∷ 2 ∷ 3 ∷ replicate 7 0))
    -- the settings before the tray and the work area
    ∷ sought 0 "A#" (1 ∷ 2 ∷ []) 0 0 (refused 21 0)
    ∷ sought 33 "CAABADA" (2 ∷ 4 ∷ 7 ∷ []) 31999 7 (refused 21 0)
    -- eleven slips are kept: 20 before 8, and 7 before 20; nothing is sought
    ∷ sought 1 "ABCDEFGHIJK" (1 ∷ 2 ∷ 3 ∷ 4 ∷ 5 ∷ 6 ∷ 7 ∷ 8 ∷ 9 ∷ 10 ∷ 11 ∷ []) 32000 0 (refused 20 0)
    ∷ sought 1 "ABCDEFGHIJK" (1 ∷ 2 ∷ 3 ∷ 4 ∷ 5 ∷ 6 ∷ 7 ∷ 8 ∷ 9 ∷ 10 ∷ 11 ∷ []) 31999 0 (refused 7 0)
    -- the tray before the work area
    ∷ sought 1 "A#" (1 ∷ 2 ∷ []) 0 0 (refused 6 2)
    -- twelve slips of which one is kept
    ∷ sought 1 "AAAAAAAAAAAA" (1 ∷ 2 ∷ 3 ∷ 4 ∷ 5 ∷ 6 ∷ 7 ∷ 8 ∷ 9 ∷ 10 ∷ 11 ∷ 12 ∷ []) 32000 1 (found 1 1 (1 ∷ replicate 9 0))
    ∷ []

-- the row of 20 alone, of ten kept slips and of eleven: the orders of ten slips are too many to be computed here
abbrev twenty : ℕ → Refusal
twenty n = head_or accepted (shortest_rows (whole usual (map (λ (i : ℕ). (64 + i) ∷ []) (up_from 1 n))) 2000)

pub twenties : map twenty (10 ∷ 11 ∷ []) ≡ (accepted ∷ refusal 20 0 ∷ [])
twenties = refl

abbrev blanks : List ℕ → List ℕ
blanks es = replicate (length es) blank_side

abbrev computed : Sought → Sought
computed x =
    sought x.least x.letters x.ends x.cells x.room
    (shortest_of (record { least = x.least; side = blank_side }) (word x.letters) x.ends (blanks x.ends) x.cells x.room)

pub soughts_computed : map computed soughts ≡ soughts
unfolding shortest_fault shortest_of
soughts_computed = refl

-- the legend's buffer, five letters of six written, and as it was
abbrev buffer : String → List ℕ → String → List ℕ
buffer s es old = written (shortest_fault usual (word s) es (blanks es) 32000 6) (shortest_legend (whole usual (slips_of (word s) es))) (word old)

pub buffer_written : buffer "CAABADA" (2 ∷ 4 ∷ 7 ∷ []) "......" ≡ word "CADAB."
unfolding shortest_fault
buffer_written = refl

pub buffer_kept : buffer "CAABADAEEE" (2 ∷ 4 ∷ 7 ∷ 10 ∷ []) "......" ≡ word "......"
unfolding shortest_fault
buffer_kept = refl

-- O CA, R AB, O ADA, O AB: the order has the numbers of the tray, and 20 counts the slips of the side alone (eleven of O, one of R, none of them blank)
abbrev of_sides : ℕ → String → List ℕ → List ℕ → ℕ → Shortest
of_sides b s es cs l = shortest_of (record { least = 1; side = b }) (word s) es cs 32000 l

abbrev twelve : List ℕ
twelve = 1 ∷ 2 ∷ 3 ∷ 4 ∷ 5 ∷ 6 ∷ 7 ∷ 8 ∷ 9 ∷ 10 ∷ 11 ∷ 12 ∷ []

pub sides_computed :
    (of_sides obverse "CAABADAAB" (2 ∷ 4 ∷ 7 ∷ 9 ∷ []) (word "OROO") 5 ≡ found 5 3 (1 ∷ 3 ∷ 4 ∷ replicate 7 0))
    × (of_sides reverse "CAABADAAB" (2 ∷ 4 ∷ 7 ∷ 9 ∷ []) (word "OROO") 2 ≡ found 2 1 (2 ∷ replicate 9 0))
    × (of_sides obverse "ABCDEFGHIKLM" twelve (word "OOOOOOOOOOOR") 0 ≡ refused 20 0)
    × (of_sides reverse "ABCDEFGHIKLM" twelve (word "OOOOOOOOOOOR") 1 ≡ found 1 1 (12 ∷ replicate 9 0))
    × (of_sides blank_side "ABCDEFGHIKLM" twelve (word "OOOOOOOOOOOR") 0 ≡ found 0 0 (replicate 10 0))
    × (of_sides obverse "CA" (2 ∷ []) [] 5 ≡ refused 22 0)
unfolding shortest_fault shortest_of
sides_computed = (refl, refl, refl, refl, refl, refl)
