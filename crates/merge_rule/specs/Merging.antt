-- Two trays merged, each with its sides: the slips that are written, what refuses the call, and what the lent buffers hold afterwards, for every input.
--   merged eq ws xs     == ws, and after it those of xs that equal nothing written before them
--   labelled ss cs      == each slip with its side in front of its letters, as in a line of a tray file
--   letters_among ms     == the letters of such slips, without the sides; sides_among ms == their sides
--   merged_sides         == two trays merged: s with ends es and sides cs, t with ends fs and sides ds
--   lent_row a b d       == 15, where a letters, b ends and d sides are lent
--   merge_rows           == the rows of the rules' table, top to bottom; merge_fault == the first that speaks, or 0
--   MergeSays           == the promise: lent letters a, ends b and sides d before, a', b' and d' after; answer r
use Rattle.std.specs.Prelude.{Bool, true, false, ◌||◌, List, [], ◌∷◌, ◌++◌, map, ℕ, ltb, length}
use Rattle.words.specs.Lists.{any, head_or, tail_of}
use Rattle.words.specs.Words.{same}
use Rattle.trays.specs.declared.Refusal.{Refusal}
use Rattle.trays.specs.declared.Written.{Written}
use Rattle.trays.specs.Limits.{max_slips, max_letters}
use Rattle.trays.specs.Slips.{slips_of}
use Rattle.trays.specs.Faults.{row, first_row}
use Rattle.trays.specs.Written.{letters_of, ends_of, TrayWritten}
use Rattle.trays.specs.Sides.{sided_tray_rows}

-- Rules, two trays: the first tray's slips, and then those of the second that equal no slip written before. What equal means is a parameter.
abbrev pub merged : {A : Type 0} → (A → A → Bool) → List A → List A → List A
merged eq ws [] = ws
merged eq ws (x ∷ xs) = merged eq (elim (any (eq x) ws) [ true ↦ ws | false ↦ ws ++ (x ∷ []) ]) xs

-- A slip with its side is a list too, so that two of them are the same where both side and letters are.
abbrev pub labelled : List (List ℕ) → List ℕ → List (List ℕ)
labelled [] cs = []
labelled (x ∷ xs) cs = (head_or 0 cs ∷ x) ∷ labelled xs (tail_of cs)

abbrev pub letters_among : List (List ℕ) → List (List ℕ)
letters_among ms = map tail_of ms

-- Rules, sides: the outcome carries the side of each slip.
abbrev pub sides_among : List (List ℕ) → List ℕ
sides_among ms = map (head_or 0) ms

-- Rules, sides: equal slips have equal letters and are of equal side.
abbrev pub merged_sides : List ℕ → List ℕ → List ℕ → List ℕ → List ℕ → List ℕ → List (List ℕ)
merged_sides s es cs t fs ds = merged same (labelled (slips_of s es) cs) (labelled (slips_of t fs) ds)

-- Rules, place A: room for any tray is lent, whatever is written.
abbrev pub lent_row : ℕ → ℕ → ℕ → Refusal
lent_row a b d = row 15 (ltb a max_letters || (ltb b max_slips || ltb d max_slips)) 0

-- Rules, place B: the first tray, then the second, then the outcome, each with its sides.
abbrev pub merge_rows : ℕ → ℕ → ℕ → List ℕ → List ℕ → List ℕ → List ℕ → List ℕ → List ℕ → List Refusal
merge_rows a b d s es cs t fs ds =
    let m = merged_sides s es cs t fs ds in
    let ms = letters_among m in
    lent_row a b d ∷ (sided_tray_rows s es cs ++ (sided_tray_rows t fs ds ++ sided_tray_rows (letters_of ms) (ends_of ms) (sides_among m)))

unfoldable pub merge_fault : ℕ → ℕ → ℕ → List ℕ → List ℕ → List ℕ → List ℕ → List ℕ → List ℕ → Refusal
merge_fault a b d s es cs t fs ds = first_row (merge_rows a b d s es cs t fs ds)

abbrev pub MergeSays : (s es cs t fs ds a a' b b' d d' : List ℕ) → Written → Type 0
MergeSays s es cs t fs ds a a' b b' d d' r =
    let m = merged_sides s es cs t fs ds in
    TrayWritten (merge_fault (length a) (length b) (length d) s es cs t fs ds) (letters_among m) (sides_among m) a a' b b' d d' r
