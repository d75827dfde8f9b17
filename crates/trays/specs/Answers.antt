-- What the calls on a tray answer, for every input.
use Rattle.std.specs.Prelude.{◌≡◌, cond, List, [], ℕ, zero, suc, ◌+◌, eqb}
use Rattle.words.specs.Words.{overlap_for}
use Rattle.trays.specs.declared.Pair.{Pair}
use Rattle.trays.specs.declared.Located.{Located}
use Rattle.trays.specs.Slips.{slips_of, slip, start_of, end_of}
use Rattle.trays.specs.Aside.{counted}
use Rattle.trays.specs.Faults.{slip_fault}
use Rattle.trays.specs.Sides.{side_of, pair_fault}

-- the letters of slip i, none if refused
abbrev pub stretch_of : List ℕ → List ℕ → ℕ → List ℕ
stretch_of s es i = elim (slip_fault s es i).number [ zero ↦ slip (slips_of s es) i | suc n ↦ [] ]

-- where they start and end in the letters of the tray, 0 if refused
abbrev pub stretch_start : List ℕ → List ℕ → ℕ → ℕ
stretch_start s es i = elim (slip_fault s es i).number [ zero ↦ start_of es i | suc n ↦ 0 ]

abbrev pub stretch_end : List ℕ → List ℕ → ℕ → ℕ
stretch_end s es i = elim (slip_fault s es i).number [ zero ↦ end_of es i | suc n ↦ 0 ]

-- slip_letters: the letters handed out, where they stand in memory (a block and an offset) if those of the tray stand at `tray`, and the
-- refusal in the two lent numbers. So it is that stretch of the lent tray itself, and not an equal one elsewhere.
pub record Stretch (s es : List ℕ) (i : ℕ) (tray : ℕ × ℕ) (letters : List ℕ) (place : ℕ × ℕ) (number detail : ℕ) : Type 0 where
  pub letters_are : letters ≡ stretch_of s es i
  pub place_is : place ≡ (tray.0, stretch_start s es i + tray.1)
  pub number_is : number ≡ (slip_fault s es i).number
  pub detail_is : detail ≡ (slip_fault s es i).detail

-- slip_place: the refusal, and where the slip starts and ends, 0 and 0 if refused
abbrev pub located_of : List ℕ → List ℕ → ℕ → Located
located_of s es i =
    let f = slip_fault s es i in
    record { number = f.number; detail = f.detail; start = stretch_start s es i; end = stretch_end s es i }

-- Rules, sides: slips of different sides do not overlap.
abbrev pub overlap_of : ℕ → List (List ℕ) → List ℕ → ℕ → ℕ → ℕ
overlap_of m ss cs i j = cond (eqb (side_of cs i) (side_of cs j)) (overlap_for (counted m) (slip ss i) (slip ss j)) 0

-- pair_overlap, where the least overlap is m: the refusal, and the overlap's letters, 0 if refused
abbrev pub pair_of : ℕ → List ℕ → List ℕ → List ℕ → ℕ → ℕ → Pair
pair_of m s es cs i j =
    let f = pair_fault m s es cs i j in
    record { number = f.number; detail = f.detail; letters = elim f.number [ zero ↦ overlap_of m (slips_of s es) cs i j | suc n ↦ 0 ] }
