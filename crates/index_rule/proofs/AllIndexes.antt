-- Computed specimens of the index, worked out by hand from the rules' sentences. Modules are checked in the order of their names: an edited definition is
-- refused here first.
--   five        == the slips AB, A, ABC, B, AB; letters, ends, sides == the tray that has them; index == its index
--   after x     == a lent list that held x, once the index is built in it
--   looked x t  == what the typed letters t find in the list x, of this tray
--   many n b    == n bytes b
use mathlib.Core.Path.{◌≡◌, refl}
use mathlib.Core.List.{List, [], ◌∷◌, ◌++◌, map}
use Prim.Native.Nat.{ℕ}
use Prim.Native.String.{String}
use lib.ListN.{length}
use Rattle.words.specs.Lists.{up_from}
use Rattle.words.specs.Quoted.{word}
use Rattle.trays.specs.declared.Located.{Located}
use Rattle.trays.specs.Faults.{refusal, written}
use Rattle.trays.specs.Slips.{slips_of}
use Rattle.index_rule.specs.Index.{index_of, stretch_for, start_at}
use Rattle.index_rule.specs.Answers.{build_fault, begin_fault, place_for}

abbrev five : List (List ℕ)
five = map word ("AB" ∷ "A" ∷ "ABC" ∷ "B" ∷ "AB" ∷ [])

abbrev letters : List ℕ
letters = word "ABAABCBAB"

abbrev ends : List ℕ
ends = 2 ∷ 3 ∷ 6 ∷ 7 ∷ 9 ∷ []

abbrev sides : List ℕ
sides = word " OR O"

abbrev index : List ℕ
index = 2 ∷ 1 ∷ 5 ∷ 3 ∷ 4 ∷ []

-- a beginning before its longer slips, equals by number; the full stop is the lowest sign
pub ordered : (index_of five ∷ index_of (map word ("A" ∷ ".A" ∷ "A." ∷ "AA" ∷ [])) ∷ index_of [] ∷ []) ≡ (index ∷ (2 ∷ 1 ∷ 3 ∷ 4 ∷ []) ∷ [] ∷ [])
ordered = refl

-- AB; AZ and ABCD, which no slip has, where they would stand; nothing typed; B. after B
pub stretches :
    (map (λ t. stretch_for five (word t)) ("AB" ∷ "AZ" ∷ "ABCD" ∷ "" ∷ "B." ∷ [])
    ≡ ((1 ∷ 5 ∷ 3 ∷ []) ∷ [] ∷ [] ∷ index ∷ [] ∷ []))
    × (map (λ t. start_at five (word t)) ("AB" ∷ "AZ" ∷ "ABCD" ∷ "" ∷ "B." ∷ []) ≡ (1 ∷ 4 ∷ 4 ∷ 0 ∷ 5 ∷ []))
stretches = (refl, refl)

-- building: room for all slips or more, room for one fewer; 22 before 9, 6 before 22
pub building :
    (map (build_fault letters ends sides) (7 ∷ 5 ∷ 4 ∷ 0 ∷ [])
    ++ (build_fault letters ends (word " OR ") 4 ∷ build_fault (word "ABAABcBAB") ends (word " OR ") 4 ∷ build_fault [] [] [] 0 ∷ []))
    ≡ (refusal 0 0 ∷ refusal 0 0 ∷ refusal 9 5 ∷ refusal 9 5 ∷ refusal 22 0 ∷ refusal 6 3 ∷ refusal 0 0 ∷ [])
unfolding build_fault
building = refl

abbrev after : List ℕ → List ℕ
after x = written (build_fault letters ends sides (length x)) (index_of (slips_of letters ends)) x

-- entries past the slips are as they were, and all of them where the call is refused
pub built :
    map after ((9 ∷ 9 ∷ 9 ∷ 9 ∷ 9 ∷ 8 ∷ 7 ∷ []) ∷ (9 ∷ 9 ∷ 9 ∷ 8 ∷ []) ∷ [])
    ≡ ((2 ∷ 1 ∷ 5 ∷ 3 ∷ 4 ∷ 8 ∷ 7 ∷ []) ∷ (9 ∷ 9 ∷ 9 ∷ 8 ∷ []) ∷ [])
unfolding build_fault
built = refl

abbrev looked : List ℕ → String → Located
looked x t = place_for letters ends sides x (word t)

abbrev found : ℕ → ℕ → ℕ → ℕ → Located
found n d a b = record { number = n; detail = d; start = a; end = b }

-- the index; equals exchanged, one entry fewer, one more, one that is no slip; what is typed is judged after it, and not folded
pub lookups :
    (looked index "AB" ∷ looked index "" ∷ looked index "AZ" ∷ looked index "a" ∷ looked index "ABa" ∷ [])
    ++ map (λ x. looked x "a") ((2 ∷ 5 ∷ 1 ∷ 3 ∷ 4 ∷ []) ∷ (2 ∷ 1 ∷ 5 ∷ 3 ∷ []) ∷ (2 ∷ 1 ∷ 5 ∷ 3 ∷ 4 ∷ 0 ∷ []) ∷ (2 ∷ 1 ∷ 5 ∷ 3 ∷ 6 ∷ []) ∷ [])
    ≡ (found 0 0 1 4 ∷ found 0 0 0 5 ∷ found 0 0 4 4 ∷ found 13 1 0 0 ∷ found 13 3 0 0 ∷ [])
    ++ (found 23 0 0 0 ∷ found 23 0 0 0 ∷ found 23 0 0 0 ∷ found 23 0 0 0 ∷ [])
unfolding begin_fault
lookups = refl

abbrev many : ℕ → ℕ → List ℕ
many n b = map (λ i. b) (up_from 1 n)

-- 22 before 23; a typed beginning may have as many letters as a text, and 12 is judged before 13
pub last_rows :
    (begin_fault letters ends (word "OOOO") [] (word "a") ∷ map (begin_fault letters ends sides index) (many 2000 65 ∷ many 2001 65 ∷ many 2001 97 ∷ []))
    ≡ (refusal 22 0 ∷ refusal 0 0 ∷ refusal 12 0 ∷ refusal 12 0 ∷ [])
unfolding begin_fault
last_rows = refl

-- the empty tray: the empty list is its index
pub empty : (place_for [] [] [] [] (word "A") ∷ place_for [] [] [] (0 ∷ []) (word "A") ∷ []) ≡ (found 0 0 0 0 ∷ found 23 0 0 0 ∷ [])
unfolding begin_fault
empty = refl
