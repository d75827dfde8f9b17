-- Column 9 of a file without a fault holds sides, so that 22 never speaks of what is read from a file.
--   laid_side   == of one line; all_sides == of lines
--   sides_count == there is a side for each slip
--   sides_silent == 22 is silent
use mathlib.Core.Path.{◌≡◌, refl, sym, ◌∙◌}
use mathlib.Core.Bool.{true, false, not}
use mathlib.Core.List.{List, [], ◌∷◌, map}
use Prim.Native.Nat.{ℕ, suc}
use borrow.Author.Tests.{eq-eqb}
use lib.Dec.{eqb, leb}
use lib.ListN.{length, length-map}
use Rattle.words.specs.Lists.{any, last_or}
use Rattle.words.proofs.Tests.{both}
use Rattle.trays.specs.Faults.{accepted}
use Rattle.trays.specs.Written.{ends_of}
use Rattle.trays.specs.Sides.{is_side, sides_row}
use Rattle.trays.proofs.WrittenSlips.{length-ends}
use Rattle.file_rule.specs.Lines.{lf, lines_of, slip_field, length_field, side_field, letters}
use Rattle.file_rule.specs.Faults.{line_fault, lines_fault}
use Rattle.file_rule.specs.Answers.{slips_in, sides_in}
use Rattle.file_rule.proofs.LineFaults.{or_accepted, laid_out}

pub laid_side : (k : ℕ) (l : List ℕ) → (line_fault k l).number ≡ 0 → is_side (side_field l) ≡ true
laid_side k l z =
    let (_, ended) = both (leb 10 (length l)) _ (laid_out k l z) in
    let (_, numbered) = both (eqb (last_or 0 l) lf) _ ended in
    let (_, measured) = both (leb 1 (slip_field l)) _ numbered in
    (both (leb 1 (length_field l)) _ measured).1

pub all_sides : (k : ℕ) (ls : List (List ℕ)) → lines_fault k ls ≡ accepted → any (λ b. not (is_side b)) (map side_field ls) ≡ false
all_sides k [] z = refl
all_sides k (l ∷ ls) z =
    let (first, rest) = or_accepted (line_fault k l) (lines_fault (suc k) ls) z in
    rw (laid_side k l first) (all_sides (suc k) ls rest)

pub sides_count : (s : List ℕ) → length (sides_in s) ≡ length (slips_in s)
sides_count s = length-map (lines_of s) side_field ∙ sym (length-map (lines_of s) letters)

pub sides_silent : (s : List ℕ) → lines_fault 1 (lines_of s) ≡ accepted → (sides_row (ends_of (slips_in s)) (sides_in s)).number ≡ 0
sides_silent s z =
    let n : length (sides_in s) ≡ length (ends_of (slips_in s)) = sides_count s ∙ sym (length-ends 0 (slips_in s)) in
    rw (eq-eqb (length (sides_in s)) (length (ends_of (slips_in s))) n, all_sides 1 (lines_of s) z)
