-- What `find` is turned back by, and what is known where it is not.
--   TextAccepted, text_tells  == no row of 1 to 6, 12, 13, 14 speaks
--   text_refusal-fits         == the refusal's number and detail fit their columns
use mathlib.Core.Path.{◌≡◌, sym, ◌∙◌, ap}
use mathlib.Core.List.{List, [], ◌∷◌, ◌++◌}
use Prim.Native.Nat.{ℕ, ◌≤◌}
use borrow.Author.Tests.{ltb-false}
use native.Mathlib.Omega.{arith}
use lib.Dec.{ltb, leb}
use lib.ListN.{length}
use Rattle.trays.specs.declared.Refusal.{Refusal}
use Rattle.trays.specs.Limits.{max_text}
use Rattle.trays.specs.Slips.{slips_of}
use Rattle.trays.specs.Faults.{row, first_row, bad_place, tray_rows, tray_fault, text_rows}
use Rattle.trays.proofs.Rows.{both_silent, rows_append}
use Rattle.trays.proofs.Accepted.{rows_silent, row_silent}
use Rattle.matching.specs.Occurrences.{occurrences}
use Rattle.answers.specs.Finding.{list_row}
use Rattle.sheet_rule.specs.Sheets.{max_found}
use Rattle.sheet_rule.specs.Programs.{text_fault}
use Rattle.sheet_sizes.specs.Fits.{RefusalFits}
use Rattle.sheet_sizes.proofs.Fitting.{find_fits}
use Rattle.sheet_sizes.proofs.RefusalsFit.{row_fits, or_fits, rows_fit, bad_place-most, tray_refusal-fits}

pub record TextAccepted (s es t : List ℕ) : Type 0 where
  pub tray : (tray_fault s es).number ≡ 0
  pub short : length t ≤ max_text
  pub few : length (occurrences (slips_of s es) t) ≤ max_found

module _ (s es t : List ℕ) where
  abbrev n : ℕ
  n = length (occurrences (slips_of s es) t)

  abbrev rows : List Refusal
  rows = text_rows t ++ (list_row (slips_of s es) t max_found ∷ [])

  pub text_tells : (text_fault s es t).number ≡ 0 → TextAccepted s es t
  unfolding text_fault tray_fault
  text_tells h =
      let b = both_silent (first_row (tray_rows s es)) (first_row rows) (ap (λ (f : Refusal). f.number) (sym (rows_append (tray_rows s es) rows)) ∙ h) in
      let r = rows_silent rows b.1 in
      record {
        tray = b.0;
        short = ltb-false max_text (length t) (row_silent 11 (ltb max_text (length t)) 0 r.0);
        few = ltb-false max_found n (row_silent 13 (ltb max_found n) n r.1.1.0);
      }

  -- behind 12 the text is short, so that its places and its occurrences are few
  pub text_refusal-fits : RefusalFits (text_fault s es t)
  unfolding text_fault tray_fault
  text_refusal-fits =
      rw (rows_append (tray_rows s es) rows)
      (or_fits (tray_fault s es) (first_row rows) (tray_refusal-fits s es)
      (λ z.
      or_fits (row 12 (ltb max_text (length t)) 0) _ (row_fits 12 (ltb max_text (length t)) 0 (omega arith) (omega arith))
      (λ y.
      let short : length t ≤ max_text = ltb-false max_text (length t) (row_silent 11 (ltb max_text (length t)) 0 y) in
      rows_fit
      (row 13 (leb 1 (bad_place 1 t)) (bad_place 1 t) ∷ (row 14 (ltb max_found n) n ∷ [])) (
        row_fits 13 (leb 1 (bad_place 1 t)) (bad_place 1 t) (omega arith) (omega (arith, bad_place-most 0 t)),
        (row_fits 14 (ltb max_found n) n (omega arith) (omega (arith, (find_fits s es t z short).count)), tt),
      ))))
