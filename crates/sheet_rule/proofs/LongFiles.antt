-- A program reads only so much of a file as shows that it is too long: what it prints is what the whole file asks for.
--   ..-long      == what is printed, where a file or a text is over its limit
--   compose_cut  == `compose` prints the same for the first 16,385 bytes of its input
--   find_cut     == so does `find` for these of the tray file and 2,002 of the text file: 2,000 letters, LF, and one byte more
use mathlib.Core.Path.{◌≡◌, refl, sym, ◌∙◌, ap}
use mathlib.Core.List.{List, [], ◌∷◌, ◌++◌}
use Prim.Native.Nat.{ℕ, zero, suc, ◌+◌, ◌-◌, ◌≤◌, ◌<◌}
use borrow.Author.Tests.{lt-ltb, ltb-true, ltb-false}
use native.Mathlib.Omega.{arith}
use lib.Dec.{eqb, ltb}
use lib.ListN.{length, take, length-map}
use lib.Seq.{take_all, length-take-le}
use Rattle.words.specs.Lists.{last_or}
use Rattle.words.proofs.Tests.{by_test}
use Rattle.trays.specs.declared.Refusal.{Refusal}
use Rattle.trays.specs.Limits.{max_text, max_file, ends_need}
use Rattle.trays.specs.Slips.{slips_of}
use Rattle.trays.specs.Faults.{refusal, or_else, first_row, tray_rows, tray_fault, text_rows}
use Rattle.trays.proofs.Rows.{both_silent, rows_append}
use Rattle.fold_rule.specs.Folding.{fold}
use Rattle.file_rule.specs.Lines.{lf}
use Rattle.file_rule.specs.Faults.{read_fault}
use Rattle.file_rule.specs.Answers.{sides_in}
use Rattle.answers.specs.Finding.{list_row}
use Rattle.sheet_rule.specs.Sheets.{find_sheet_of, refused_line, max_found}
use Rattle.sheet_rule.specs.Sides.{sheets_of}
use Rattle.sheet_rule.specs.Programs.{letters_in, ends_in, compose_sheet_fault, compose_sheet, text_of, text_in, text_fault, find_sheet_fault, find_sheet}

-- by whether a list is longer than n
by_length : {P : Type 0} (n : ℕ) (xs : List ℕ) → (length xs ≤ n → P) → (n < length xs → P) → P
by_length n xs short long = by_test (ltb n (length xs)) (λ t. long (ltb-true n (length xs) t)) (λ t. short (ltb-false n (length xs) t))

-- a tray file over its limit
file_long : (s : List ℕ) → max_file < length s → read_fault s max_file ends_need ends_need ≡ refusal 16 0
unfolding read_fault
file_long s h = rw (lt-ltb max_file (length s) h)

cut_long : (n : ℕ) (s : List ℕ) → n < length s → n < length (take (n + 1) s)
cut_long n s h = omega (arith, length-take-le (n + 1) s (omega arith))

compose_long : (s : List ℕ) → max_file < length s → compose_sheet s ≡ refused_line (refusal 16 0)
unfolding compose_sheet compose_sheet_fault
compose_long s h =
    ap {B = List ℕ}
    (λ (f : Refusal). let g = or_else f (tray_fault (letters_in s) (ends_in s)) in
    elim g.number [ zero ↦ sheets_of (sides_in s) (slips_of (letters_in s) (ends_in s)) | suc n ↦ refused_line g ])
    (file_long s h)

pub compose_cut : (s : List ℕ) → compose_sheet (take (max_file + 1) s) ≡ compose_sheet s
compose_cut s =
    by_length max_file s
    (λ h. rw (take_all (max_file + 1) s (omega arith)))
    (λ h. compose_long (take (max_file + 1) s) (cut_long max_file s h) ∙ sym (compose_long s h))

-- what `find` prints, where f turns its files back
abbrev printed : List ℕ → List ℕ → Refusal → List ℕ
printed s x f = elim f.number [ zero ↦ find_sheet_of (slips_of (letters_in s) (ends_in s)) (text_in x) | suc n ↦ refused_line f ]

find_file_long : (s x : List ℕ) → max_file < length s → find_sheet s x ≡ refused_line (refusal 16 0)
unfolding find_sheet find_sheet_fault
find_file_long s x h = ap {B = List ℕ} (λ (f : Refusal). printed s x (or_else f (text_fault (letters_in s) (ends_in s) (text_in x)))) (file_long s h)

-- a text over its limit
text_long : (s es t : List ℕ) → max_text < length t → text_fault s es t ≡ or_else (tray_fault s es) (refusal 12 0)
unfolding text_fault tray_fault
text_long s es t h = rows_append (tray_rows s es) (text_rows t ++ (list_row (slips_of s es) t max_found ∷ [])) ∙ ap (or_else (first_row (tray_rows s es))) first
  where
    first : first_row (text_rows t ++ (list_row (slips_of s es) t max_found ∷ [])) ≡ refusal 12 0
    first = rw (lt-ltb max_text (length t) h)

-- the text lacks one byte of its file at most
text_least : (x : List ℕ) → length x - 1 ≤ length (text_in x)
text_least x =
    rw (length-map (text_of x) fold)
    (by_test (eqb (last_or 0 x) lf)
    (λ t. rw (t, text_of) (omega (arith, length-take-le (length x - 1) x (omega arith))))
    (λ t. rw (t, text_of) (omega arith)))

module _ (s : List ℕ) where
  -- what turns back a tray file beside a text that is too long
  abbrev fault : Refusal
  fault = or_else (read_fault s max_file ends_need ends_need) (or_else (tray_fault (letters_in s) (ends_in s)) (refusal 12 0))

  speaks : fault.number ≡ 0 → ⊥
  speaks h =
      let outer = both_silent (read_fault s max_file ends_need ends_need) (or_else (tray_fault (letters_in s) (ends_in s)) (refusal 12 0)) h in
      let inner : (refusal 12 0).number ≡ 0 = (both_silent (tray_fault (letters_in s) (ends_in s)) (refusal 12 0) outer.1).1 in
      omega arith

  find_text_long : (x : List ℕ) → max_text < length (text_in x) → find_sheet s x ≡ refused_line fault
  unfolding find_sheet find_sheet_fault
  find_text_long x h =
      ap (λ (f : Refusal). printed s x (or_else (read_fault s max_file ends_need ends_need) f)) (text_long (letters_in s) (ends_in s) (text_in x) h)
      ∙ go fault.number refl
    where
      go : (n : ℕ) → fault.number ≡ n → printed s x fault ≡ refused_line fault
      go zero e = absurd (speaks e)
      go (suc n) e = ap {B = List ℕ} (λ (m : ℕ). elim m [ zero ↦ find_sheet_of (slips_of (letters_in s) (ends_in s)) (text_in x) | suc k ↦ refused_line fault ]) e

  find_text_cut : (x : List ℕ) → find_sheet s (take (max_text + 2) x) ≡ find_sheet s x
  find_text_cut x =
      by_length (max_text + 2) x
      (λ h. rw (take_all (max_text + 2) x h))
      (λ h.
      find_text_long (take (max_text + 2) x) (omega (arith, text_least (take (max_text + 2) x), length-take-le (max_text + 2) x (omega arith)))
      ∙ sym (find_text_long x (omega (arith, text_least x))))

pub find_cut : (s x : List ℕ) → find_sheet (take (max_file + 1) s) (take (max_text + 2) x) ≡ find_sheet s x
find_cut s x =
    by_length max_file s
    (λ h. rw (take_all (max_file + 1) s (omega arith)) (find_text_cut s x))
    (λ h. find_file_long (take (max_file + 1) s) (take (max_text + 2) x) (cut_long max_file s h) ∙ sym (find_file_long s x h))
