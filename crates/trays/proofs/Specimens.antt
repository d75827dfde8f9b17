-- Computed specimens of the definitions that AllSpecimens leaves: limits, signs, the slips of a tray, the order of the rows. An edited definition
-- computes another value.
--   letters, bounds  == the letters and the ends of the sample tray, whose slips are `slips`
use mathlib.Core.Path.{◌≡◌, refl}
use mathlib.Core.List.{List, [], ◌∷◌, map}
use Prim.Native.Nat.{ℕ}
use lib.ListN.{replicate}
use Rattle.words.specs.Lists.{those, up_from}
use Rattle.words.specs.Quoted.{word}
use Rattle.trays.specs.Limits.{max_slips, max_slip, max_letters, max_text, work_need, max_file, ends_need, max_shortest, max_least}
use Rattle.trays.specs.Slips.{slips_of, slip, numbers, is_letter, span_of, total}
use Rattle.trays.specs.Faults.{refusal, written, tray_fault, slip_fault}
use Rattle.trays.specs.Sides.{blank_side, pair_fault}
use Rattle.trays.specs.Answers.{Stretch}

-- each by its number in documents 01 and 02
limits :
    ◌≡◌ {A = List ℕ}
    (max_slips ∷ max_slip ∷ max_letters ∷ max_text ∷ work_need ∷ max_file ∷ ends_need ∷ max_shortest ∷ max_least ∷ [])
    (200 ∷ 32 ∷ 2000 ∷ 2000 ∷ 32000 ∷ 16384 ∷ 1700 ∷ 10 ∷ 32 ∷ [])
limits = refl

-- 27 signs: the full stop, and A to Z
signs : those is_letter (up_from 0 256) ≡ 46 ∷ up_from 65 26
signs = refl

abbrev letters : List ℕ
letters = word "IMPCAESAESCAESAVGVGPIVSSIMP"

abbrev bounds : List ℕ
bounds = 7 ∷ 10 ∷ 17 ∷ 23 ∷ 27 ∷ []

abbrev slips : List (List ℕ)
slips = map word ("IMPCAES" ∷ "AES" ∷ "CAESAVG" ∷ "VGPIVS" ∷ "SIMP" ∷ [])

parts : slips_of letters bounds ≡ slips
parts = refl

numbered : map (slip slips) (0 ∷ 1 ∷ 5 ∷ 6 ∷ []) ≡ map word ("" ∷ "IMPCAES" ∷ "SIMP" ∷ "" ∷ [])
numbered = refl

counting : (numbers slips ∷ (total slips (1 ∷ 3 ∷ 4 ∷ 5 ∷ []) ∷ []) ∷ []) ≡ ((1 ∷ 2 ∷ 3 ∷ 4 ∷ 5 ∷ []) ∷ (24 ∷ []) ∷ [])
counting = refl

spans :
    map (span_of bounds) (0 ∷ 1 ∷ 2 ∷ 5 ∷ [])
    ≡ (record { start = 0; end = 0 } ∷ record { start = 0; end = 7 } ∷ record { start = 7; end = 10 } ∷ record { start = 23; end = 27 } ∷ [])
spans = refl

-- bad letters, and one row fewer at fault each time: the first row wins; its detail is the lowest slip at fault
first_rows :
    (tray_fault (up_from 1 2001) (up_from 0 201)
    ∷ tray_fault (up_from 1 2001) (33 ∷ 100 ∷ 99 ∷ 98 ∷ [])
    ∷ tray_fault (up_from 1 2001) (32 ∷ 65 ∷ 98 ∷ [])
    ∷ tray_fault (up_from 1 2001) (32 ∷ [])
    ∷ tray_fault (up_from 1 2000) (32 ∷ [])
    ∷ tray_fault (word "AB--E") (3 ∷ 5 ∷ [])
    ∷ tray_fault (word "ABC-E") (3 ∷ 5 ∷ [])
    ∷ [])
    ≡ (refusal 1 0 ∷ refusal 2 3 ∷ refusal 3 2 ∷ refusal 4 0 ∷ refusal 5 0 ∷ refusal 6 1 ∷ refusal 6 2 ∷ [])
unfolding tray_fault
first_rows = refl

requests : map (slip_fault letters bounds) (0 ∷ 1 ∷ 5 ∷ 6 ∷ []) ≡ (refusal 10 0 ∷ refusal 0 0 ∷ refusal 0 0 ∷ refusal 10 6 ∷ [])
unfolding slip_fault
requests = refl

-- the first number that is no slip's; 10 before 11
pairs :
    (map (λ (p : ℕ × ℕ). pair_fault 1 letters bounds (replicate 5 blank_side) p.0 p.1) ((6, 0) ∷ (6, 6) ∷ (5, 5) ∷ []))
    ≡ (refusal 10 6 ∷ refusal 10 6 ∷ refusal 11 5 ∷ [])
unfolding pair_fault
pairs = refl

refused : Stretch letters bounds 6 (3, 20) [] (3, 20) 10 6
unfolding slip_fault
refused = record { letters_are = refl; place_is = refl; number_is = refl; detail_is = refl }

-- slip 3 of a tray whose letters stand at offset 20 stands at offset 30
handed_out : Stretch letters bounds 3 (3, 20) (word "CAESAVG") (3, 30) 0 0
unfolding slip_fault
handed_out = record { letters_are = refl; place_is = refl; number_is = refl; detail_is = refl }

-- a buffer of three: two letters over its first part, or what it held before
buffers :
    map (λ f. written {A = ℕ} f (65 ∷ 66 ∷ []) (7 ∷ 8 ∷ 9 ∷ [])) (refusal 0 0 ∷ refusal 8 15 ∷ [])
    ≡ ((65 ∷ 66 ∷ 9 ∷ []) ∷ (7 ∷ 8 ∷ 9 ∷ []) ∷ [])
buffers = refl
