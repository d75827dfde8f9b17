-- States, steps and moves over a list of patterns (a tray's slips, or those of its members).
--   begins_some x ps      == x begins a pattern
--   longest_ending t ps   == the longest ending of t that begins a pattern, empty if there is none
--   step_from             == one letter read: drops until the letter extends the state or it is empty, counted
--   state_from ps s t     == the state after the letters t are read, from the state s
--   moves ps t           == letters read plus drops
--   FewMoves, LongestEndings == what is claimed of both
use Rattle.std.specs.Prelude.{Bool, true, false, List, [], ◌∷◌, ◌++◌, ℕ, zero, suc, ◌+◌, ◌*◌, ◌≤◌, ◌≡◌, length}
use Rattle.words.specs.Lists.{any}
use Rattle.words.specs.Words.{begins}
use Rattle.trays.specs.Slips.{slips_of}
use Rattle.trays.specs.Faults.{tray_fault}

abbrev pub begins_some : List ℕ → List (List ℕ) → Bool
begins_some x ps = any (begins x) ps

abbrev pub longest_ending : List ℕ → List (List ℕ) → List ℕ
longest_ending [] ps = []
longest_ending (x ∷ xs) ps = elim (begins_some (x ∷ xs) ps) [ true ↦ x ∷ xs | false ↦ longest_ending xs ps ]

pub record Stepped : Type 0 where
  pub state : List ℕ
  pub drops : ℕ

abbrev pub stepped : List ℕ → ℕ → Stepped
stepped s n = record { state = s; drops = n }

-- Rules, moves: on a letter b, the state s drops to its longest proper ending that begins a slip until the letter extends it or
-- it is empty. A state falls by a letter at least, so as many turns as it has letters, and one more, are enough.
abbrev pub step_from : ℕ → List (List ℕ) → List ℕ → ℕ → ℕ → Stepped
step_from zero ps s b n = stepped s n
step_from (suc f) ps s b n =
    elim (begins_some (s ++ (b ∷ [])) ps) [
      | true ↦ stepped (s ++ (b ∷ [])) n
      | false ↦ elim s [ [] ↦ stepped [] n | x ∷ xs ↦ step_from f ps (longest_ending xs ps) b (suc n) ]
    ]

abbrev pub step : List (List ℕ) → List ℕ → ℕ → Stepped
step ps s b = step_from (suc (length s)) ps s b 0

abbrev pub state_from : List (List ℕ) → List ℕ → List ℕ → List ℕ
state_from ps s [] = s
state_from ps s (b ∷ bs) = state_from ps (step ps s b).state bs

abbrev pub moves_from : List (List ℕ) → List ℕ → List ℕ → ℕ → ℕ
moves_from ps s [] n = n
moves_from ps s (b ∷ bs) n = let x = step ps s b in moves_from ps x.state bs (n + suc x.drops)

abbrev pub moves : List (List ℕ) → List ℕ → ℕ
moves ps t = moves_from ps [] t 0

-- Rules, moves: the state is the longest ending of the text so far that begins a slip.
abbrev pub LongestEndings : Type 0
LongestEndings = (s es t : List ℕ) → (tray_fault s es).number ≡ 0 → state_from (slips_of s es) [] t ≡ longest_ending t (slips_of s es)

-- Rules: moves are at most 2 × the letters.
abbrev pub FewMoves : Type 0
FewMoves = (s es t : List ℕ) → (tray_fault s es).number ≡ 0 → moves (slips_of s es) t ≤ 2 * length t
