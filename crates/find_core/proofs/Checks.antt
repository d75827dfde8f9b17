-- The rows before place C, one after another.
--   before-..       == the ways through check_find
--   silent-..       == what holds where none of them turns the call back
--   fault_is        == then only 14 is left
use mathlib.Core.Path.{◌≡◌, sym, ◌∙◌}
use mathlib.Core.List.{List, [], ◌∷◌, ◌++◌}
use Prim.Native.Nat.{ℕ, suc, ◌+◌, ◌≤◌, ◌<◌}
use borrow.Author.Tests.{ltb-false, lt-ltb, le-ltb, le-leb}
use native.Mathlib.Omega.{arith}
use lib.Dec.{ltb, leb}
use lib.ListN.{length}
use Rattle.words.proofs.Tests.{by_test}
use Rattle.trays.specs.declared.Refusal.{Refusal}
use Rattle.trays.specs.Limits.{max_text, work_need}
use Rattle.trays.specs.Slips.{slips_of, is_letter}
use Rattle.trays.specs.Faults.{refusal, accepted, row, or_else, first_row, bad_place, tray_rows, tray_fault}
use Rattle.trays.specs.declared.fault.Fault.{Fault}
use Rattle.trays.specs.Told.{told}
use Rattle.trays.proofs.Told.{told-first, told_next}
use Rattle.trays.proofs.Rows.{or_zero, or_some, both_silent, rows_append}
use Rattle.trays.proofs.Accepted.{row_silent}
use Rattle.matching.specs.Occurrences.{occurrences}
use Rattle.answers.specs.WorkArea.{work_row}
use Rattle.trie_build.specs.Steps.Built.{Buildable}
use Rattle.answers.specs.Finding.{text_rows, find_rows, find_before, list_row, find_fault}
use Rattle.find_core.specs.Steps.Searching.{Clear}

module _ (s es t : List ℕ) (cells : ℕ) where
  before_is : find_before s es t cells ≡ or_else (tray_fault s es) (first_row (text_rows t ++ (work_row cells ∷ [])))
  unfolding find_before tray_fault
  before_is = rows_append (tray_rows s es) (text_rows t ++ (work_row cells ∷ []))

  pub before_tray : (x : Fault) → told x ≡ tray_fault s es → told x ≡ find_before s es t cells
  before_tray x e = told-first x (tray_fault s es) _ e ∙ sym before_is

  module _ (e : accepted ≡ tray_fault s es) where
    behind_tray : find_before s es t cells ≡ or_else (first_row (text_rows t)) (or_else (work_row cells) accepted)
    behind_tray = before_is ∙ sym (told_next (tray_fault s es) _ e) ∙ rows_append (text_rows t) (work_row cells ∷ [])

    pub before_text : (x : Fault) → told x ≡ first_row (text_rows t) → told x ≡ find_before s es t cells
    before_text x f = told-first x (first_row (text_rows t)) _ f ∙ sym behind_tray

    module _ (f : accepted ≡ first_row (text_rows t)) where
      behind_text : find_before s es t cells ≡ or_else (work_row cells) accepted
      behind_text = behind_tray ∙ sym (told_next (first_row (text_rows t)) _ f)

      pub before_room : cells < work_need → refusal 7 0 ≡ find_before s es t cells
      before_room l = sym (behind_text ∙ rw (lt-ltb cells work_need l))

      pub before_none : work_need ≤ cells → accepted ≡ find_before s es t cells
      before_none l = sym (behind_text ∙ rw (le-ltb cells work_need l))

-- none of them turns the call back
module _ {s es t w : List ℕ} (c : Clear s es t w) where
  parts : ((tray_fault s es).number ≡ 0) × ((first_row (text_rows t ++ (work_row (length w) ∷ []))).number ≡ 0)
  unfolding find_before tray_fault
  parts = both_silent (first_row (tray_rows s es)) (first_row (text_rows t ++ (work_row (length w) ∷ [])))
      (rw (← (rows_append (tray_rows s es) (text_rows t ++ (work_row (length w) ∷ [])))) c.silent)

  text_parts : ((row 12 (ltb max_text (length t)) 0).number ≡ 0) ×
      ((or_else (row 13 (leb 1 (bad_place 1 t)) (bad_place 1 t)) (or_else (work_row (length w)) accepted)).number ≡ 0)
  text_parts = both_silent (row 12 (ltb max_text (length t)) 0)
      (or_else (row 13 (leb 1 (bad_place 1 t)) (bad_place 1 t)) (or_else (work_row (length w)) accepted)) parts.1

  work_parts : (work_row (length w)).number ≡ 0
  work_parts =
      (both_silent (work_row (length w)) accepted
      (both_silent (row 13 (leb 1 (bad_place 1 t)) (bad_place 1 t)) (or_else (work_row (length w)) accepted) text_parts.1).1).0

  pub silent_short : length t ≤ max_text
  silent_short = ltb-false max_text (length t) (row_silent 11 (ltb max_text (length t)) 0 text_parts.0)

  pub silent_builds : Buildable s es w
  silent_builds = record { tray = parts.0; room = ltb-false (length w) work_need (row_silent 6 (ltb (length w) work_need) 0 work_parts) }

-- behind them only 14 is left
pub fault_or : (s es t : List ℕ) (w k : ℕ) → find_fault s es t w k ≡ or_else (find_before s es t w) (or_else (list_row (slips_of s es) t k) accepted)
unfolding find_fault find_before
fault_or s es t w k = rows_append (find_rows s es t w) (list_row (slips_of s es) t k ∷ [])

pub fault_before : (s es t : List ℕ) (w k : ℕ) → 1 ≤ (find_before s es t w).number → find_fault s es t w k ≡ find_before s es t w
fault_before s es t w k h = fault_or s es t w k ∙ or_some (find_before s es t w) (or_else (list_row (slips_of s es) t k) accepted) h

module _ (s es t : List ℕ) (w k : ℕ) (h : (find_before s es t w).number ≡ 0) where
  only_list : find_fault s es t w k ≡ or_else (list_row (slips_of s es) t k) accepted
  only_list = fault_or s es t w k ∙ or_zero (find_before s es t w) (or_else (list_row (slips_of s es) t k) accepted) h

  pub fault_list : k < length (occurrences (slips_of s es) t) → find_fault s es t w k ≡ refusal 14 (length (occurrences (slips_of s es) t))
  fault_list l = only_list ∙ rw (lt-ltb k (length (occurrences (slips_of s es) t)) l)

  pub fault_none : length (occurrences (slips_of s es) t) ≤ k → find_fault s es t w k ≡ accepted
  fault_none l = only_list ∙ rw (le-ltb k (length (occurrences (slips_of s es) t)) l)
