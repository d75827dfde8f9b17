-- Computed specimens of the answer and of what is stored. The values are worked out by hand from the rules' sentences and computed here from
-- the definitions. Modules are checked in the order of their names: an edited definition is refused here first.
--   Call           == a tray, a text, how many cells are lent and how many occurrences the list takes
--   find_tray       == the tray of the sample's `find` sheet: IMPCAES, AES, CAESAVG, VGPIVS, SIMP
--   after c old    == a list of numbers that held old, after the call
use mathlib.Core.Path.{◌≡◌, refl}
use mathlib.Core.List.{List, [], ◌∷◌, map}
use Prim.Native.Nat.{ℕ}
use Prim.Native.String.{String}
use Rattle.words.specs.Lists.{up_from}
use Rattle.words.specs.Quoted.{word}
use Rattle.trays.specs.declared.Refusal.{Refusal}
use Rattle.trays.specs.Slips.{slips_of}
use Rattle.trays.specs.Faults.{refusal, written}
use Rattle.matching.specs.Occurrences.{occurrences}
use Rattle.answers.specs.declared.Search.{Search}
use Rattle.answers.specs.Finding.{find_before, find_fault, search_of, flat_found}

pub record Call : Type 0 where
  pub letters : List ℕ
  pub ends : List ℕ
  pub text : List ℕ
  pub cells : ℕ
  pub room : ℕ

pub record Specimen (B : Type 0) : Type 0 where
  pub given : Call
  pub value : B

abbrev specimen : {B : Type 0} → Call → B → Specimen B
specimen c v = record { given = c; value = v }

abbrev call : String → List ℕ → List ℕ → ℕ → ℕ → Call
call s es t w k = record { letters = word s; ends = es; text = t; cells = w; room = k }

-- the tray of the `find` sheet
abbrev find_tray : List ℕ → ℕ → ℕ → Call
find_tray = call "IMPCAESAESCAESAVGVGPIVSSIMP" (7 ∷ 10 ∷ 17 ∷ 23 ∷ 27 ∷ [])

abbrev many : ℕ → ℕ → List ℕ
many n b = map (λ i. b) (up_from 1 n)

-- rows before place C, several faults at once
pub before_specimens : List (Specimen Refusal)
before_specimens =
    specimen (find_tray (word "IMPCAESAVG") 32000 0) (refusal 0 0)
    ∷ specimen (find_tray (word "IMPCAESAVG") 31999 0) (refusal 7 0)
    ∷ specimen (find_tray (many 2000 65) 32000 0) (refusal 0 0)
    ∷ specimen (find_tray (many 2001 65) 31999 0) (refusal 12 0)
    ∷ specimen (find_tray (many 2001 32) 32000 0) (refusal 12 0)
    ∷ specimen (find_tray (word "IMP CAES ") 31999 0) (refusal 13 4)
    ∷ specimen (call "ab" (1 ∷ []) (many 2001 32) 0 0) (refusal 5 0)
    ∷ []

pub before-computed : map (λ s. let c = s.given in find_before c.letters c.ends c.text c.cells) before_specimens ≡
    map (λ s. s.value) before_specimens
unfolding before_specimens find_before
before-computed = refl

abbrev pub answer_to : Call → Search
answer_to c = search_of c.letters c.ends c.text c.cells c.room

abbrev answer : ℕ → ℕ → ℕ → ℕ → Search
answer n d m k = record { number = n; detail = d; moves = m; count = k }

-- the `find` sheet, where the list takes as many as there are, or one fewer
pub answer_specimens : List (Specimen Search)
answer_specimens =
    specimen (find_tray (word "IMPCAESAVG") 32000 3) (answer 0 0 11 3)
    ∷ specimen (find_tray (word "IMPCAESAVG") 32000 2) (answer 14 3 0 0)
    ∷ specimen (find_tray (word "IMPCAESAVG") 31999 3) (answer 7 0 0 0)
    ∷ specimen (find_tray (word "IMP CAES") 32000 3) (answer 13 4 0 0)
    ∷ specimen (find_tray (word "") 32000 0) (answer 0 0 0 0)
    ∷ specimen (call "" [] (word "AVG") 32000 0) (answer 0 0 3 0)
    ∷ []

pub answers_computed : map (λ s. answer_to s.given) answer_specimens ≡ map (λ s. s.value) answer_specimens
unfolding answer_specimens find_fault search_of
answers_computed = refl

abbrev pub after : Call → List ℕ → List ℕ
after c old = written (find_fault c.letters c.ends c.text c.cells c.room) (flat_found (occurrences (slips_of c.letters c.ends) c.text)) old

-- slip 2 is set aside, and stored all the same; what stands behind is kept, and all of it where the call is turned back
pub list_written : after (find_tray (word "IMPCAESAVG") 32000 4) (9 ∷ 9 ∷ 9 ∷ 9 ∷ 9 ∷ 9 ∷ 9 ∷ 8 ∷ []) ≡ (7 ∷ 1 ∷ 7 ∷ 2 ∷ 10 ∷ 3 ∷ 9 ∷ 8 ∷ [])
unfolding find_fault
list_written = refl

pub list_kept : after (find_tray (word "IMPCAESAVG") 32000 2) (9 ∷ 9 ∷ 9 ∷ 8 ∷ []) ≡ (9 ∷ 9 ∷ 9 ∷ 8 ∷ [])
unfolding find_fault
list_kept = refl
