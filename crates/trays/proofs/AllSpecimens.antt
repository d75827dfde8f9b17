-- Computed specimens of the definitions on trays. The values are worked out by hand from the rules' sentences and computed here from
-- the definitions. Modules are checked in the order of their names: an edited definition of set aside is refused here first.
--   Specimen A B   == an input of type A and its value of type B
--   kept_of ws      == the kept slips of a tray that is written as words
--   rows n k       == a tray of n slips of k letters
--   filled n       == a tray of n letters in as few slips as the limit allows: all but the last have as many letters as a slip may have
--   fault_of t      == the refusal of a tray
use mathlib.Core.Path.{◌≡◌, refl}
use mathlib.Core.Bool.{true, false}
use mathlib.Core.List.{List, [], ◌∷◌, ◌++◌, map}
use Prim.Native.Nat.{ℕ, ◌*◌}
use Prim.Native.String.{String}
use lib.Dec.{ltb}
use Rattle.words.specs.Lists.{those, up_from}
use Rattle.words.specs.Words.{overlap_for}
use Rattle.words.specs.Quoted.{word}
use Rattle.trays.specs.declared.Refusal.{Refusal}
use Rattle.trays.specs.declared.Pair.{Pair}
use Rattle.trays.specs.Slips.{numbers}
use Rattle.trays.specs.Aside.{kept, counted}
use Rattle.trays.specs.Faults.{first_row, tray_rows_for, tray_fault, set_fault, slip_fault, text_rows, refusal}
use Rattle.trays.specs.Sides.{pair_fault}
use Rattle.trays.specs.Written.{letters_of, ends_of, written_by}
use Rattle.trays.specs.Answers.{stretch_of, pair_of}

pub record Specimen (A B : Type 0) : Type 0 where
  pub given : A
  pub value : B

abbrev specimen : {A B : Type 0} → A → B → Specimen A B
specimen x y = record { given = x; value = y }

abbrev pub kept_of : List String → List ℕ
kept_of ws = let ss = map word ws in kept ss (numbers ss)

pub kept_specimens : List (Specimen (List String) (List ℕ))
kept_specimens =
    specimen [] []
    ∷ specimen ("AVG" ∷ "AVG" ∷ []) (1 ∷ [])
    ∷ specimen ("AVG" ∷ "CAESAVG" ∷ []) (2 ∷ [])
    ∷ specimen ("ANNA" ∷ "AN" ∷ "NN" ∷ "NA" ∷ "ANA" ∷ []) (1 ∷ 5 ∷ [])
    ∷ specimen ("A" ∷ "A" ∷ "B" ∷ "A" ∷ []) (1 ∷ 3 ∷ [])
    -- here a stop is a letter like the rest
    ∷ specimen ("A.B" ∷ "." ∷ []) (1 ∷ [])
    ∷ specimen ("A." ∷ ".B" ∷ ".." ∷ []) (1 ∷ 2 ∷ 3 ∷ [])
    ∷ []

pub kept-computed : map (λ s. kept_of s.given) kept_specimens ≡ map (λ s. s.value) kept_specimens
unfolding kept_specimens
kept-computed = refl

-- only members set a slip aside
pub kept-members : kept (map word ("AB" ∷ "AB" ∷ "ABC" ∷ [])) (2 ∷ []) ≡ (2 ∷ [])
kept-members = refl

-- stops alone do not count; a string that begins or ends with a stop may
pub counted_specimens :
    map (λ w. counted 1 (word w)) ("" ∷ "." ∷ ".." ∷ ".A" ∷ "A." ∷ ".A." ∷ "B" ∷ []) ≡ (false ∷ false ∷ false ∷ true ∷ true ∷ true ∷ true ∷ [])
counted_specimens = refl

-- as many letters as the least overlap are enough, one fewer are not
pub least_specimens :
    map (λ w. counted 2 (word w)) ("" ∷ "B" ∷ ".." ∷ ".A" ∷ "AB" ∷ "ABC" ∷ []) ≡ (false ∷ false ∷ false ∷ true ∷ true ∷ true ∷ [])
least_specimens = refl

pub overlap_specimens : List (Specimen (String × String) ℕ)
overlap_specimens =
    specimen ("AVG", "AVG") 3
    ∷ specimen ("AVG", "CAES") 0
    ∷ specimen ("A.", ".B") 0
    ∷ specimen ("A..", "..") 0
    ∷ specimen ("X.A", ".AB") 2
    ∷ specimen (".A..", "A..B") 3
    ∷ []

pub overlaps_computed : map (λ s. overlap_for (counted 1) (word s.given.0) (word s.given.1)) overlap_specimens ≡ map (λ s. s.value) overlap_specimens
unfolding overlap_specimens
overlaps_computed = refl

pub record Tray : Type 0 where
  pub letters : List ℕ
  pub ends : List ℕ

abbrev tray : String → List ℕ → Tray
tray s es = record { letters = word s; ends = es }

-- of A alone
abbrev plain : ℕ → List ℕ → Tray
plain n es = record { letters = map (λ i. 65) (up_from 1 n); ends = es }

abbrev rows : ℕ → ℕ → Tray
rows n k = plain (n * k) (map (λ i. i * k) (up_from 1 n))

abbrev filled : ℕ → Tray
filled n = plain n (those (λ e. ltb e n) (map (λ i. i * 32) (up_from 1 200)) ++ (n ∷ []))

abbrev pub fault_of : Tray → Refusal
fault_of t = tray_fault t.letters t.ends

-- the longest slip, and one letter more: alone, and after the longest
pub longest_slips :
    map fault_of (rows 1 32 ∷ rows 1 33 ∷ plain 65 (32 ∷ 65 ∷ []) ∷ [])
    ≡ (refusal 0 0 ∷ refusal 3 1 ∷ refusal 3 2 ∷ [])
unfolding tray_fault
longest_slips = refl

-- the other limits, each row, and several faults at once
pub fault_specimens : List (Specimen Tray Refusal)
fault_specimens =
    specimen (tray "" []) (refusal 0 0)
    ∷ specimen (tray "A.Z" (1 ∷ 3 ∷ [])) (refusal 0 0)
    ∷ specimen (rows 200 1) (refusal 0 0)
    ∷ specimen (rows 201 1) (refusal 1 0)
    ∷ specimen (filled 2000) (refusal 0 0)
    ∷ specimen (filled 2001) (refusal 4 0)
    ∷ specimen (tray "" (0 ∷ [])) (refusal 2 1)
    ∷ specimen (tray "ab" (2 ∷ 1 ∷ [])) (refusal 2 2)
    -- over the limit of a tray too
    ∷ specimen (rows 200 33) (refusal 3 1)
    ∷ specimen (tray "ab" (1 ∷ [])) (refusal 5 0)
    ∷ specimen (tray "AbC[" (1 ∷ 3 ∷ 4 ∷ [])) (refusal 6 2)
    ∷ []

pub faults_computed : map (λ s. fault_of s.given) fault_specimens ≡ map (λ s. s.value) fault_specimens
unfolding fault_specimens tray_fault
faults_computed = refl

-- a tray stored where a slip could have 40 letters: slips of 32, 33 and 40; 3 names the lowest too long one, not the longest
abbrev stored : Tray
stored = plain 105 (32 ∷ 65 ∷ 105 ∷ [])

pub stored_specimen :
    (first_row (tray_rows_for 40 stored.letters stored.ends) ∷ fault_of stored ∷ []) ≡ (refusal 0 0 ∷ refusal 3 2 ∷ [])
unfolding tray_fault
stored_specimen = refl

-- requests on the tray AVG, CAESAVG
abbrev pub stretch_at : ℕ → List ℕ
stretch_at i = stretch_of (word "AVGCAESAVG") (3 ∷ 10 ∷ []) i

abbrev pub pair_at : ℕ → ℕ → Pair
pair_at i j = pair_of 1 (word "AVGCAESAVG") (3 ∷ 10 ∷ []) (word "  ") i j

abbrev pair : ℕ → ℕ → ℕ → Pair
pair n d k = record { number = n; detail = d; letters = k }

pub stretches : map stretch_at (0 ∷ 1 ∷ 2 ∷ 3 ∷ []) ≡ ([] ∷ word "AVG" ∷ word "CAESAVG" ∷ [] ∷ [])
unfolding slip_fault
stretches = refl

pub pairs :
    (pair_at 1 2 ∷ pair_at 2 1 ∷ pair_at 0 3 ∷ pair_at 1 3 ∷ pair_at 2 2 ∷ []) ≡ (pair 0 0 0 ∷ pair 0 0 3 ∷ pair 10 0 0 ∷ pair 10 3 0 ∷ pair 11 2 0 ∷ [])
unfolding pair_fault
pairs = refl

-- A. and .B: the overlap of stops alone is none
pub stopped_pair : pair_of 1 (word "A..B") (2 ∷ 4 ∷ []) (word "  ") 1 2 ≡ pair 0 0 0
unfolding pair_fault
stopped_pair = refl

-- CAESAVG, AVG share three letters: 3 is the highest setting at which these count, and 32 the highest at which the call is not turned back; 0 and 33 are
-- turned back before anything else
abbrev pair_set : ℕ → Pair
pair_set m = pair_of m (word "CAESAVGAVG") (7 ∷ 10 ∷ []) (word "  ") 1 2

pub set_pairs :
    (map pair_set (0 ∷ 1 ∷ 3 ∷ 4 ∷ 32 ∷ 33 ∷ []) ++ map (λ m. pair_of m (word "ab") (1 ∷ []) (word " ") 3 3) (0 ∷ 1 ∷ 32 ∷ 33 ∷ []))
    ≡ (pair 21 0 0 ∷ pair 0 0 3 ∷ pair 0 0 3 ∷ pair 0 0 0 ∷ pair 0 0 0 ∷ pair 21 0 0 ∷ pair 21 0 0 ∷ pair 5 0 0 ∷ pair 5 0 0 ∷ pair 21 0 0 ∷ [])
unfolding pair_fault
set_pairs = refl

-- the settings are judged before the tray, whatever is wrong with it
pub set_first :
    map (λ m. set_fault m (rows 201 1).letters (rows 201 1).ends) (0 ∷ 1 ∷ 33 ∷ []) ≡ (refusal 21 0 ∷ refusal 1 0 ∷ refusal 21 0 ∷ [])
unfolding set_fault
set_first = refl

-- the limit of a text, and one letter more; 12 before 13; the place of the first byte that is no sign
abbrev many : ℕ → ℕ → List ℕ
many n b = map (λ i. b) (up_from 1 n)

pub text_specimens :
    map (λ t. first_row (text_rows t)) (word "" ∷ word "A.Z" ∷ many 2000 65 ∷ many 2001 65 ∷ many 2001 32 ∷ word "IMP CAES " ∷ word "a" ∷ [])
    ≡ (refusal 0 0 ∷ refusal 0 0 ∷ refusal 0 0 ∷ refusal 12 0 ∷ refusal 12 0 ∷ refusal 13 4 ∷ refusal 13 1 ∷ [])
text_specimens = refl

-- slips written: letters one after another, each end behind its last letter; of a call that is turned back nothing is counted
pub written_slips :
    (letters_of (map word ("AVG" ∷ "AE" ∷ [])) ≡ word "AVGAE")
    × (ends_of (map word ("AVG" ∷ "AE" ∷ [])) ≡ 3 ∷ 5 ∷ [])
    × (written_by (refusal 0 0) (map word ("AVG" ∷ "AE" ∷ [])) ≡ record { number = 0; detail = 0; letters = 5; slips = 2 })
    × (written_by (refusal 6 2) (map word ("AVG" ∷ "AE" ∷ [])) ≡ record { number = 6; detail = 2; letters = 0; slips = 0 })
written_slips = (refl, refl, refl, refl)
