-- Computed specimens of the definitions on finding. The outcomes are worked out by hand from the rules' sentences and computed here
-- from the definitions. Modules are checked in the order of their names: an edited definition is refused here first.
--   Outcome          == the moves and the occurrences
--   outcome_of ss t   == those of the slips ss in the text t
--   Specimen         == a tray and a text, written as words, and its outcome by the rules
use mathlib.Core.Path.{◌≡◌, refl}
use mathlib.Core.List.{List, [], ◌∷◌, map}
use Prim.Native.Nat.{ℕ}
use Prim.Native.String.{String}
use Rattle.words.specs.Quoted.{word}
use Rattle.matching.specs.Moves.{state_from, moves}
use Rattle.matching.specs.Occurrences.{Occurrence, occurrence, occurrences}

-- states: the longest ending that begins a slip, be it a whole slip or not; a drop may stop before the empty state
pub states :
    map (λ t. state_from (map word ("ABAC" ∷ "BAD" ∷ [])) [] (word t)) ("ABA" ∷ "ABAD" ∷ "ABAA" ∷ "ABAX" ∷ [])
    ≡ map word ("ABA" ∷ "BAD" ∷ "A" ∷ "" ∷ [])
states = refl

pub record Outcome : Type 0 where
  pub moved : ℕ
  pub places : List Occurrence

abbrev pub outcome_of : List (List ℕ) → List ℕ → Outcome
outcome_of ss t = record { moved = moves ss t; places = occurrences ss t }

pub record Specimen : Type 0 where
  pub tray : List String
  pub text : String
  pub outcome : Outcome

abbrev pub specimen : List String → String → ℕ → List Occurrence → Specimen
specimen ws t n fs = record { tray = ws; text = t; outcome = record { moved = n; places = fs } }

pub specimens : List Specimen
specimens =
    -- the `find` sheet; slip 2 is set aside, and reported all the same
    specimen
    ("IMPCAES" ∷ "AES" ∷ "CAESAVG" ∷ "VGPIVS" ∷ "SIMP" ∷ [])
    "IMPCAESAVG"
    11
    (occurrence 7 1 ∷ occurrence 7 2 ∷ occurrence 10 3 ∷ [])
    -- occurrences that overlap
    ∷ specimen ("AA" ∷ []) "AAA" 4 (occurrence 2 1 ∷ occurrence 3 1 ∷ [])
    -- an occurrence that ends inside another
    ∷ specimen ("ABC" ∷ "B" ∷ []) "ABC" 3 (occurrence 2 2 ∷ occurrence 3 1 ∷ [])
    -- equal slips are reported both, the lower number first
    ∷ specimen ("AB" ∷ "AB" ∷ []) "CABAB" 6 (occurrence 3 1 ∷ occurrence 3 2 ∷ occurrence 5 1 ∷ occurrence 5 2 ∷ [])
    -- at one end place the longer slip goes first
    ∷ specimen ("B" ∷ "AB" ∷ "CAB" ∷ []) "CAB" 3 (occurrence 3 3 ∷ occurrence 3 2 ∷ occurrence 3 1 ∷ [])
    -- the state drops four times on one letter
    ∷ specimen ("AAAA" ∷ []) "AAAAB" 9 (occurrence 4 1 ∷ [])
    -- no occurrence; an empty state does not drop
    ∷ specimen ("AVG" ∷ []) "CAESA" 6 []
    ∷ specimen ("AVG" ∷ []) "" 0 []
    ∷ specimen [] "AVG" 3 []
    ∷ []

abbrev pub computed : Specimen → Outcome
computed s = outcome_of (map word s.tray) (word s.text)

pub specimens_computed : map computed specimens ≡ map (λ s. s.outcome) specimens
unfolding specimens
specimens_computed = refl
