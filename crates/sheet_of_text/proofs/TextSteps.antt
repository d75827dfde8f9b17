-- From the answer of finding to the sheet of a tray and a text.
--   own_fault    == with room enough row 7 is silent
--   text-..      == the two ways through text_sheet
use mathlib.Core.Path.{◌≡◌, refl, sym, ◌∙◌, ap}
use mathlib.Core.Bool.{Bool}
use mathlib.Core.List.{List, [], ◌∷◌, ◌++◌}
use Prim.Native.Nat.{ℕ, zero, suc, ◌*◌, ◌/◌, ◌^◌, ◌≤◌, ◌<◌}
use borrow.Author.Tests.{le-ltb}
use native.Mathlib.Omega.{arith}
use lib.ListN.{length, take}
use lib.Seq.{take_at}
use Rattle.words.specs.Lists.{over}
use Rattle.words.proofs.Buffers.{length_over}
use Rattle.trays.specs.declared.Refusal.{Refusal}
use Rattle.trays.specs.Limits.{work_need}
use Rattle.trays.specs.Slips.{slips_of}
use Rattle.trays.specs.Faults.{refusal, accepted, row, or_else, first_row, tray_rows, text_rows}
use Rattle.trays.proofs.Rows.{by_number, written_none}
use Rattle.matching.specs.Occurrences.{occurrences}
use Rattle.answers.specs.declared.Search.{Search}
use Rattle.answers.specs.Finding as F
use Rattle.answers.specs.Finding.{list_row, flat_found}
use Rattle.answers.specs.Finding.{search_outcome, search_refused}
use Rattle.answers.specs.Finding.{FindFlat}
use Rattle.find_core.proofs.Answering.{answer_found, answer_refused}
use Rattle.sheet_rule.specs.Sheets.{detail_width, refused_line, refused_size, find_lines, find_sheet_of, max_found}
use Rattle.sheet_lines.specs.Steps.Lines.{FindAsks}
use Rattle.sheet_rule.specs.Lent.{Printed}
use Rattle.sheet_rule.specs.Programs.{text_fault, text_sheet}
use Rattle.answers.proofs.FlatLists.{found_length}
use Rattle.sheet_sizes.proofs.Printing.{printed_is, find_ready, find_printed}
use Rattle.sheet_sizes.proofs.TextRows.{TextAccepted, text_tells, text_refusal-fits}
use Rattle.sheet_of_text.specs.Steps.Lent.{TextRoom, TextSheetSays}

-- a silent row among others
drop_silent : (xs ys : List Refusal) → first_row ((xs ++ (accepted ∷ [])) ++ ys) ≡ first_row (xs ++ ys)
drop_silent [] ys = refl
drop_silent (x ∷ xs) ys = ap (or_else x) (drop_silent xs ys)

-- what is printed, where the refusal has the number n
abbrev numbered : List ℕ → List ℕ → List ℕ → ℕ → List ℕ
numbered s es t n = elim n [ zero ↦ find_sheet_of (slips_of s es) t | suc k ↦ refused_line (text_fault s es t) ]

module _ (s es t w f o : List ℕ) (room : TextRoom w f o) where
  abbrev ss : List (List ℕ)
  ss = slips_of s es

  own_fault : F.find_fault s es t (length w) (length f / 2) ≡ text_fault s es t
  unfolding F.find_fault text_fault
  own_fault =
      let k : length f / 2 ≡ max_found = omega (arith, room.found) in
      ap (λ (b : Bool). first_row ((tray_rows s es ++ (text_rows t ++ (row 7 b 0 ∷ []))) ++ (list_row ss t (length f / 2) ∷ [])))
      (le-ltb (length w) work_need room.work)
      ∙ drop_silent (tray_rows s es ++ text_rows t) (list_row ss t (length f / 2) ∷ [])
      ∙ ap (λ (m : ℕ). first_row (tray_rows s es ++ (text_rows t ++ (list_row ss t m ∷ [])))) k

  module _ (w' f' : List ℕ) (r : Search) (a : FindFlat s es t w w' f f' r) where
    found_as : (text_fault s es t).number ≡ 0 → r ≡ search_outcome ss t
    found_as h = a.answered.answer-is ∙ answer_found s es t (length w) (length f / 2) (ap (λ (g : Refusal). g.number) own_fault ∙ h)

    refused_by_lem : 1 ≤ (text_fault s es t).number → r ≡ search_refused (text_fault s es t)
    refused_by_lem h =
        a.answered.answer-is ∙ answer_refused s es t (length w) (length f / 2) (rw own_fault h) ∙ ap search_refused own_fault

    -- turned back: the line of the refusal
    module _ (z : r.number ≡ 0 → ⊥) where
      speaks : 1 ≤ (text_fault s es t).number
      speaks = by_number (text_fault s es t) (λ h. absurd (z (ap (λ (c : Search). c.number) (found_as h)))) (λ p. p)

      refused_as : refusal r.number r.detail ≡ text_fault s es t
      refused_as = ap (λ (c : Search). refusal c.number c.detail) (refused_by_lem speaks)

      pub refused_can : (r.detail < 10 ^ detail_width) × (refused_size ≤ length o)
      refused_can = (
        rw (ap (λ (g : Refusal). g.detail) refused_as) (text_refusal-fits s es t).detail_fits,
        omega (arith, room.sheet),
      )

      pub text_refused : (o' : List ℕ) (k : ℕ) → Printed (refused_line (refusal r.number r.detail)) o o' k
          → TextSheetSays s es t w w' f f' o o' k
      text_refused o' k p =
          record {
            sheet = printed_is (refused_line (refusal r.number r.detail)) (text_sheet s es t) o o' k
                (ap refused_line refused_as ∙ sym (go (text_fault s es t).number refl)) p;
            work = a.answered.work_is.same;
            found = ap length (a.found_are ∙ written_none (F.find_fault s es t (length w) (length f / 2)) (flat_found (occurrences ss t)) f (rw own_fault speaks));
          }
        where
          go : (n : ℕ) → (text_fault s es t).number ≡ n → text_sheet s es t ≡ refused_line (text_fault s es t)
          go zero h = absurd (no (text_fault s es t).number speaks h)
            where
              no : (n : ℕ) → 1 ≤ n → n ≡ 0 → ⊥
              no n x y = omega arith
          go (suc n) h = ap (numbered s es t) h

    -- occurrence: the sheet
    module _ (z : r.number ≡ 0) where
      silent : (text_fault s es t).number ≡ 0
      silent = by_number (text_fault s es t) (λ h. h) (λ p. absurd (no (text_fault s es t).number p (sym (ap (λ (c : Search). c.number) (refused_by_lem p)) ∙ z)))
        where
          no : (n : ℕ) → 1 ≤ n → n ≡ 0 → ⊥
          no n x y = omega arith

      answer : r ≡ search_outcome ss t
      answer = found_as silent

      tells : TextAccepted s es t
      tells = text_tells s es t silent

      stored : f' ≡ over (flat_found (occurrences ss t)) f
      stored =
          a.found_are
          ∙ ap {B = List ℕ} (λ (m : ℕ). elim m [ zero ↦ over (flat_found (occurrences ss t)) f | suc n ↦ f ])
          (ap (λ (g : Refusal). g.number) own_fault ∙ silent)

      count_is : r.count ≡ length (occurrences ss t)
      count_is = ap (λ (c : Search). c.count) answer

      flat_long : length (flat_found (occurrences ss t)) ≡ 2 * r.count
      flat_long = rw count_is (found_length (occurrences ss t))

      found_here : take (2 * r.count) f' ≡ flat_found (occurrences ss t)
      found_here = rw stored (take_at (flat_found (occurrences ss t)) _ (2 * r.count) flat_long)

      pub found_count : 2 * r.count ≡ length (take (2 * r.count) f')
      found_count = rw found_here (sym flat_long)

      count_few : r.count ≤ max_found
      count_few = rw count_is tells.few

      found_long : length f' ≡ length f
      found_long = ap length stored ∙ length_over (flat_found (occurrences ss t)) f (omega (arith, flat_long, count_few, room.found))

      pub found_within : 2 * r.count ≤ length f'
      found_within = omega (arith, count_few, found_long, room.found)

      pub lines_can : FindAsks (length t) r.moves r.count (take (2 * r.count) f') (length o)
      lines_can =
          find_ready s es tells.tray t (length t) r.moves r.count (take (2 * r.count) f')
          refl (ap (λ (c : Search). c.moves) answer) count_is found_here tells.short (rw count_is tells.few) (length o) room.sheet

      pub text_printed : (o' : List ℕ) (k : ℕ) → Printed (find_lines (length t) r.moves r.count (take (2 * r.count) f')) o o' k →
          TextSheetSays s es t w w' f f' o o' k
      text_printed o' k p =
          record {
            sheet = printed_is (find_sheet_of ss t) (text_sheet s es t) o o' k (sym (ap (numbered s es t) silent))
                (find_printed s es tells.tray t (length t) r.moves r.count (take (2 * r.count) f')
                refl (ap (λ (c : Search). c.moves) answer) count_is found_here o o' k p);
            work = a.answered.work_is.same;
            found = found_long;
          }
