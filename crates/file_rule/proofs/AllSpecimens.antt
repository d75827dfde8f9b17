-- Computed specimens of tray files. Modules are checked in the order of their names: an edited definition is refused here first, where it
-- computes another value.
--   compose_file   == the sample tray, as `compose` reads it
use mathlib.Core.Path.{◌≡◌, refl}
use mathlib.Core.List.{List, [], ◌∷◌, ◌++◌, map}
use Prim.Native.Nat.{ℕ}
use Prim.Native.String.{String}
use lib.ListN.{replicate}
use Rattle.words.specs.Quoted.{word}
use Rattle.trays.specs.declared.Refusal.{Refusal}
use Rattle.trays.specs.declared.Written.{Written}
use Rattle.trays.specs.Faults.{refusal}
use Rattle.trays.specs.Written.{letters_of, ends_of, written_by}
use Rattle.fold_rule.specs.Folding.{fold}
use Rattle.file_rule.specs.Faults.{read_fault}
use Rattle.file_rule.specs.Answers.{slips_in, sides_in}

abbrev pub compose_file : List ℕ
compose_file = word "   1   7 IMPCAES\n   2   3 AES\n   3   7 CAESAVG\n   4   6 VGPIVS\n   5   4 SIMP\n"

-- what turns a file back, all that it meets being lent
abbrev found : String → Refusal
found t = read_fault (word t) 16384 1700 1700

-- read_tray's answer, where just enough letters, ends and sides are lent
abbrev answered : List ℕ → Written
answered s = written_by (read_fault s 16384 1700 1700) (slips_in s)

pub compose_answer : answered compose_file ≡ record { number = 0; detail = 0; letters = 27; slips = 5 }
unfolding read_fault
compose_answer = refl

pub compose_letters_lem : letters_of (slips_in compose_file) ≡ word "IMPCAESAESCAESAVGVGPIVSSIMP"
unfolding fold
compose_letters_lem = refl

pub compose_ends_lem : ends_of (slips_in compose_file) ≡ 7 ∷ 10 ∷ 17 ∷ 23 ∷ 27 ∷ []
compose_ends_lem = refl

-- column 9 is the side: a blank, O or R, and nothing else; it is not folded, and no letter
pub side_columns :
    (sides_in (word "   1   3 avg\n   2   3Oavg\n   3   3RAVG\n") ≡ word " OR")
    × (letters_of (slips_in (word "   1   3 avg\n   2   3Oavg\n   3   3RAVG\n")) ≡ word "AVGAVGAVG")
    × (map found ("   1   3OAVG\n" ∷ "   1   3oAVG\n" ∷ "   1   3rAVG\n" ∷ "   1   3.AVG\n" ∷ "   1   0R\n" ∷ "   1   1R\n" ∷ [])
    ≡ refusal 0 0 ∷ refusal 17 1 ∷ refusal 17 1 ∷ refusal 17 1 ∷ refusal 0 0 ∷ refusal 19 1 ∷ [])
unfolding read_fault fold
side_columns = (refl, refl, refl)

-- as readers type it, with a digit and a CR in slip 3: letters are filed folded, those two as 0, and each length counts the bytes of the line
abbrev typed_file : List ℕ
typed_file = word "   1   5 Avg.u\n   2   3 UVA\n   3   4 uj1\r\n"

typed-letters : letters_of (slips_in typed_file) ≡ word "AVG.VVVAVI" ++ (0 ∷ 0 ∷ [])
unfolding fold
typed-letters = refl

typed-answer : answered typed_file ≡ record { number = 0; detail = 0; letters = 12; slips = 3 }
unfolding read_fault
typed-answer = refl

-- the empty tray, and a slip without letters
empty_answer : answered [] ≡ record { number = 0; detail = 0; letters = 0; slips = 0 }
unfolding read_fault
empty_answer = refl

bare_slip : ends_of (slips_in (word "   1   3 AVG\n   2   0 \n")) ≡ 3 ∷ 3 ∷ []
bare_slip = refl

layouts :
    map found ("   1   3 AVG" ∷ "0001   3 AVG\n" ∷ "  1    3 AVG\n" ∷ "   1  03 AVG\n" ∷ "   1   3AVG\n" ∷ "   1     AVG\n" ∷ "   1   3 AVG\n\n" ∷ [])
    ≡ refusal 17 1 ∷ refusal 17 1 ∷ refusal 17 1 ∷ refusal 17 1 ∷ refusal 17 1 ∷ refusal 17 1 ∷ refusal 17 2 ∷ []
unfolding read_fault
layouts = refl

numbers-and_lengths :
    map found ("   2   2 AVG\n" ∷ "   0   3 AVG\n" ∷ "   1   2 AVG\n" ∷ "   1   3 AVG\n   1   3 AES\n"
    ∷ "   1   3 AVG\n   2   0 \n" ∷ "   1  10 IMPCAESAVG\n" ∷ "   1   3 AVG\r\n" ∷ "   1   4 AVG\r\n" ∷ [])
    ≡ refusal 18 1 ∷ refusal 18 1 ∷ refusal 19 1 ∷ refusal 18 2 ∷ refusal 0 0 ∷ refusal 0 0 ∷ refusal 19 1 ∷ refusal 0 0 ∷ []
unfolding read_fault
numbers-and_lengths = refl

lent_too_few : read_fault [] 16383 1700 1700 ∷ read_fault [] 16384 1699 1700 ∷ read_fault [] 16384 1700 1699 ∷ [] ≡ refusal 15 0 ∷ refusal 15 0 ∷ refusal 15 0 ∷ []
unfolding read_fault
lent_too_few = refl

file_too_long : read_fault (replicate 16385 65) 16384 1700 1700 ≡ refusal 16 0
unfolding read_fault
file_too_long = refl
