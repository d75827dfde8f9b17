-- A refusal's number has at most two digits, and its detail at most six.
--   fault_speaks       == a fault is told by a number above 0
--   or_fits, rows_fit  == of rows that fit, the first that speaks fits
--   NAME-most          == a slip or place that NAME counts from 1 is at most the length
use mathlib.Core.Path.{◌≡◌}
use mathlib.Core.Bool.{Bool, true, false, ◌||◌, not}
use mathlib.Core.List.{List, [], ◌∷◌}
use Prim.Native.Nat.{ℕ, suc, ◌+◌, ◌≤◌, ◌<◌, ◌^◌}
use borrow.Author.Tests.{ltb-false}
use native.Mathlib.Omega.{arith}
use lib.Dec.{eqb, ltb, leb}
use lib.ListN.{length}
use Rattle.words.specs.Lists.{any, last_or, tail_of}
use Rattle.words.proofs.Tests.{by_test}
use Rattle.words.proofs.Sums.{All}
use Rattle.trays.specs.declared.Refusal.{Refusal}
use Rattle.trays.specs.declared.fault.Fault.{Fault}
use Rattle.trays.specs.Limits.{max_slips, max_slip, max_letters, max_file, ends_need}
use Rattle.trays.specs.Slips.{slips_of, is_letter}
use Rattle.trays.specs.Faults.{row, or_else, first_row, not_above, too_long, bad_slip, bad_place, tray_rows, tray_fault}
use Rattle.trays.specs.Sides.{is_side, sides_row, sided_tray_rows}
use Rattle.trays.specs.Told.{told}
use Rattle.trays.proofs.Told.{told_speaks}
use Rattle.trays.proofs.Rows.{or_zero, or_some, by_number, rows_append}
use Rattle.trays.proofs.Accepted.{row_silent, slips_count}
use Rattle.file_rule.specs.Lines.{lf, on_first, lines_of, is_laid_out, slip_field, length_field, letters}
use Rattle.file_rule.specs.Faults.{line_fault, lines_fault, read_fault}
use Rattle.sheet_rule.specs.Sheets.{detail_width}
use Rattle.sheet_sizes.specs.Fits.{RefusalFits}

pub fault_speaks : (f : Fault) → (told f).number ≡ 0 → ⊥
fault_speaks f e = let h = told_speaks f in omega arith

pub row_fits : (n : ℕ) (b : Bool) (d : ℕ) → n < 10 ^ 2 → d < 10 ^ detail_width → RefusalFits (row n b d)
row_fits n true d h l = record { number_fits = h; detail_fits = l }
row_fits n false d h l = record { number_fits = omega arith; detail_fits = omega arith }

pub or_fits : (f g : Refusal) → RefusalFits f → (f.number ≡ 0 → RefusalFits g) → RefusalFits (or_else f g)
or_fits f g a h = by_number f (λ z. rw (or_zero f g z) (h z)) (λ o. rw (or_some f g o) a)

pub rows_fit : (rs : List Refusal) → All RefusalFits rs → RefusalFits (first_row rs)
rows_fit [] p = record { number_fits = omega arith; detail_fits = omega arith }
rows_fit (r ∷ rs) p = or_fits r (first_row rs) p.0 (λ z. rows_fit rs p.1)

-- what is counted from i + 1 is at most i + the length
not_above-most : (i here : ℕ) (es : List ℕ) → not_above (suc i) here es ≤ i + length es
not_above-most i here [] = omega arith
not_above-most i here (e ∷ es) =
    by_test (leb e here)
    (λ t. rw (t, not_above) (omega arith))
    (λ t. rw (t, not_above) (omega (arith, not_above-most (suc i) e es)))

too_long-most : (m i here : ℕ) (es : List ℕ) → too_long m (suc i) here es ≤ i + length es
too_long-most m i here [] = omega arith
too_long-most m i here (e ∷ es) =
    by_test (ltb (here + m) e)
    (λ t. rw (t, too_long) (omega arith))
    (λ t. rw (t, too_long) (omega (arith, too_long-most m (suc i) e es)))

bad_slip-most : (i : ℕ) (xs : List (List ℕ)) → bad_slip (suc i) xs ≤ i + length xs
bad_slip-most i [] = omega arith
bad_slip-most i (x ∷ xs) =
    by_test (any (λ b. not (is_letter b)) x)
    (λ t. rw (t, bad_slip) (omega arith))
    (λ t. rw (t, bad_slip) (omega (arith, bad_slip-most (suc i) xs)))

pub bad_place-most : (i : ℕ) (t : List ℕ) → bad_place (suc i) t ≤ i + length t
bad_place-most i [] = omega arith
bad_place-most i (b ∷ bs) =
    by_test (is_letter b)
    (λ t. rw (t, bad_place) (omega (arith, bad_place-most (suc i) bs)))
    (λ t. rw (t, bad_place) (omega arith))

-- rows 1 to 6: behind row 1 there are few slips
pub tray_refusal-fits : (s es : List ℕ) → RefusalFits (tray_fault s es)
unfolding tray_fault
tray_refusal-fits s es =
    or_fits _ (first_row (tail_of (tray_rows s es))) (row_fits 1 (ltb max_slips (length es)) 0 (omega arith) (omega arith))
    (λ z.
    let few : length es ≤ max_slips = ltb-false max_slips (length es) (row_silent 0 (ltb max_slips (length es)) 0 z) in
    rows_fit (tail_of (tray_rows s es)) (
      row_fits 2 (leb 1 (not_above 1 0 es)) (not_above 1 0 es) (omega arith) (omega (arith, not_above-most 0 0 es)),
      (
        row_fits 3 (leb 1 (too_long max_slip 1 0 es)) (too_long max_slip 1 0 es) (omega arith) (omega (arith, too_long-most max_slip 0 0 es)),
        (
          row_fits 4 (ltb max_letters (length s)) 0 (omega arith) (omega arith),
          (
            row_fits 5 (not (eqb (last_or 0 es) (length s))) 0 (omega arith) (omega arith),
            (
              row_fits 6 (leb 1 (bad_slip 1 (slips_of s es))) (bad_slip 1 (slips_of s es)) (omega arith)
                  (omega (arith, bad_slip-most 0 (slips_of s es), slips_count s es)),
              tt,
            ),
          ),
        ),
      ),
    ))

-- the same and 22, which names no detail
pub sided-refusal-fits : (s es cs : List ℕ) → RefusalFits (first_row (sided_tray_rows s es cs))
unfolding tray_fault
sided-refusal-fits s es cs =
    rw (rows_append (tray_rows s es) (sides_row es cs ∷ []))
    (or_fits (tray_fault s es) (first_row (sides_row es cs ∷ [])) (tray_refusal-fits s es)
    (λ z. rows_fit (sides_row es cs ∷ []) (row_fits 22 (not (eqb (length cs) (length es)) || any (λ b. not (is_side b)) cs) 0 (omega arith) (omega arith), tt)))

-- rows 15 to 19: a file has at most as many lines as bytes
lines_few : (s : List ℕ) → length (lines_of s) ≤ length s
lines_few [] = omega arith
lines_few (b ∷ bs) =
    by_test (eqb b lf)
    (λ t. rw (t, lines_of) (omega (arith, lines_few bs)))
    (λ t. rw (t, lines_of) (omega (arith, first b (lines_of bs), lines_few bs)))
  where
    first : (b : ℕ) (ls : List (List ℕ)) → length (on_first b ls) ≤ suc (length ls)
    first b [] = omega arith
    first b (l ∷ ls) = omega arith

line-fits : (k : ℕ) (l : List ℕ) → k < 10 ^ detail_width → RefusalFits (line_fault k l)
line-fits k l h =
    rows_fit
    (row 17 (not (is_laid_out l)) k ∷ (row 18 (not (eqb (slip_field l) (suc k))) k ∷ (row 19 (not (eqb (length_field l) (suc (length (letters l))))) k ∷ []))) (
      row_fits 17 (not (is_laid_out l)) k (omega arith) h,
      (
        row_fits 18 (not (eqb (slip_field l) (suc k))) k (omega arith) h,
        (row_fits 19 (not (eqb (length_field l) (suc (length (letters l))))) k (omega arith) h, tt),
      ),
    )

lines_fit : (k : ℕ) (ls : List (List ℕ)) → k + length ls ≤ 10 ^ detail_width → RefusalFits (lines_fault k ls)
lines_fit k [] h = rows_fit [] tt
lines_fit k (l ∷ ls) h = or_fits (line_fault k l) (lines_fault (suc k) ls) (line-fits k l (omega arith)) (λ z. lines_fit (suc k) ls (omega arith))

pub read_refusal-fits : (s : List ℕ) (a b d : ℕ) → RefusalFits (read_fault s a b d)
unfolding read_fault
read_refusal-fits s a b d =
    let short = ltb a max_file || (ltb b ends_need || ltb d ends_need) in
    or_fits (row 15 short 0) _ (row_fits 15 short 0 (omega arith) (omega arith))
    (λ y.
    or_fits (row 16 (ltb max_file (length s)) 0) _ (row_fits 16 (ltb max_file (length s)) 0 (omega arith) (omega arith))
    (λ z.
    let small : length s ≤ max_file = ltb-false max_file (length s) (row_silent 15 (ltb max_file (length s)) 0 z) in
    rows_fit (lines_fault 1 (lines_of s) ∷ []) (lines_fit 1 (lines_of s) (omega (arith, lines_few s)), tt)))
