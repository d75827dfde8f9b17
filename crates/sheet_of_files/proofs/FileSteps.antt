-- From reading the tray file to the two sheets.
--   file-..                   == a file that is turned back, or read
--   compose-.., find-..       == the two ways through compose_sheet and find_sheet
-- Refusal 15 is silent: the lent letters, ends and sides are enough. So is 22 of the tray that is read: column 9 of a file without a fault holds sides.
use mathlib.Core.Path.{◌≡◌, refl, sym, ◌∙◌, ap}
use mathlib.Core.Bool.{◌||◌}
use mathlib.Core.List.{List, [], ◌∷◌, ◌++◌}
use Prim.Native.Nat.{ℕ, zero, suc, ◌^◌, ◌≤◌, ◌<◌, ◌*◌}
use borrow.Author.Tests.{le-ltb}
use native.Mathlib.Omega.{arith}
use lib.Dec.{ltb}
use lib.Seq.{length-take-le}
use lib.ListN.{length, take, drop, length-append, length-drop}
use Rattle.trays.specs.declared.Refusal.{Refusal}
use Rattle.trays.specs.declared.Written.{Written}
use Rattle.trays.specs.Limits.{max_file, ends_need}
use Rattle.trays.specs.Slips.{slips_of}
use Rattle.trays.specs.Faults.{refusal, accepted, row, or_else, first_row, tray_rows, tray_fault}
use Rattle.trays.specs.Sides.{sides_row, sided_tray_rows}
use Rattle.trays.specs.Written.{TrayWritten}
use Rattle.trays.proofs.Rows.{or_zero, or_some, by_number, rows_append, speaking}
use Rattle.trays.proofs.Accepted.{rows_silent}
use Rattle.trays.proofs.WrittenSlips.{refused_as, silent, letters-first, ends-first, sides_first, sides_within}
use Rattle.file_rule.specs.Lines.{lines_of}
use Rattle.file_rule.specs.Faults.{lines_fault, read_fault}
use Rattle.file_rule.specs.Answers.{slips_in, sides_in, ReadSays}
use Rattle.file_rule.proofs.LineFaults.{lines-accepted}
use Rattle.file_rule.proofs.SideColumns.{sides_count, sides_silent}
use Rattle.sheet_rule.specs.Sheets.{detail_width, refused_line, refused_size, find_sheet_of, max_found}
use Rattle.sheet_rule.specs.Sides.{sheets_of}
use Rattle.sheet_rule.specs.Lent.{FileRoom, ComposeRoom, FindRoom, Printed, TrayRead, ComposeSheetSays, FindSheetSays}
use Rattle.sheet_rule.specs.Programs.{letters_in, ends_in, tray_sheets, compose_sheet_fault, compose_sheet, text_in, text_fault, text_sheet, find_sheet_fault, find_sheet}
use Rattle.sheet_sizes.proofs.RefusalsFit.{read_refusal-fits}
use Rattle.sheet_sizes.proofs.Printing.{printed_is}
use Rattle.sheet_of_tray.specs.Steps.Lent.{TraySheetsSays}
use Rattle.sheet_of_text.specs.Steps.Lent.{TextRoom, TextSheetSays, Filed}

-- what turns the file itself back, whatever is lent
abbrev own : List ℕ → Refusal
own s = read_fault s max_file ends_need ends_need

module _ (s a b d : List ℕ) (room : FileRoom a b d) where
  fault_own : read_fault s (length a) (length b) (length d) ≡ own s
  unfolding read_fault
  fault_own = rw (le-ltb (length a) max_file room.letters, le-ltb (length b) ends_need room.ends, le-ltb (length d) ends_need room.sides)

  module _ (a' b' d' : List ℕ) (r : Written) (t : ReadSays s a a' b b' d d' r) where
    -- the promise, for what turns the file itself back
    read : TrayWritten (own s) (slips_in s) (sides_in s) a a' b b' d d' r
    read = rw fault_own at t

    -- turned back
    module _ (z : r.number ≡ 0 → ⊥) where
      file_refused : refusal r.number r.detail ≡ own s
      file_refused = refused_as (own s) (slips_in s) (sides_in s) a a' b b' d d' r read z

      file_speaks : (own s).number ≡ 0 → ⊥
      file_speaks e = z (ap (λ (f : Refusal). f.number) file_refused ∙ e)

      refused_can : (o : List ℕ) → refused_size ≤ length o → (r.detail < 10 ^ detail_width) × (refused_size ≤ length o)
      refused_can o h = (rw (ap (λ (f : Refusal). f.detail) file_refused) (read_refusal-fits s max_file ends_need ends_need).detail_fits, h)

    -- read
    file_silent : r.number ≡ 0 → (own s).number ≡ 0
    file_silent z = silent (own s) (slips_in s) (sides_in s) a a' b b' d d' r read z

tray_read : (s a a' b b' d d' : List ℕ) (r : Written) → ReadSays s a a' b b' d d' r → TrayRead s a a' b b' d d'
tray_read s a a' b b' d d' r t = record { letters_are = t.letters_are; ends_are = t.ends_are; sides_are = t.sides_are }

-- there is a side for each slip
pub sides_there : (s a a' b b' d d' : List ℕ) (r : Written) → ReadSays s a a' b b' d d' r → r.number ≡ 0 → r.slips ≤ length d'
sides_there s a a' b b' d d' r t z = sides_within _ _ _ a a' b b' d d' r t z (sides_count s)

-- what `compose` prints, where f turns the file back
abbrev composed : List ℕ → Refusal → List ℕ
composed s f = elim f.number [ zero ↦ sheets_of (sides_in s) (slips_of (letters_in s) (ends_in s)) | suc n ↦ refused_line f ]

module _ (s : List ℕ) where
  abbrev judged : Refusal
  judged = tray_fault (letters_in s) (ends_in s)

  abbrev sided : Refusal
  sided = first_row (sided_tray_rows (letters_in s) (ends_in s) (sides_in s))

  -- the sides are those of lines without a fault
  sides_good : (own s).number ≡ 0 → (sides_row (ends_in s) (sides_in s)).number ≡ 0
  unfolding read_fault
  sides_good h =
      let short = ltb max_file max_file || (ltb ends_need ends_need || ltb ends_need ends_need) in
      let silent = rows_silent (row 15 short 0 ∷ (row 16 (ltb max_file (length s)) 0 ∷ (lines_fault 1 (lines_of s) ∷ []))) h in
      sides_silent s (lines-accepted 1 (lines_of s) silent.1.1.0)

  -- so that the rows of the tray with its sides are those of the tray
  sided-is : (own s).number ≡ 0 → sided ≡ or_else judged accepted
  unfolding tray_fault
  sided-is h =
      rows_append (tray_rows (letters_in s) (ends_in s)) (sides_row (ends_in s) (sides_in s) ∷ [])
      ∙ ap (or_else judged) (or_zero (sides_row (ends_in s) (sides_in s)) accepted (sides_good h))

  same_sheets : (own s).number ≡ 0 → composed s judged ≡ tray_sheets (letters_in s) (ends_in s) (sides_in s)
  same_sheets h =
      by_number judged
      (λ z. rw (z, composed) (sym (ap (composed s) (sided-is h ∙ or_zero judged accepted z))))
      (λ o. sym (ap (composed s) (sided-is h ∙ or_some judged accepted o)))

  compose_silent : (own s).number ≡ 0 → compose_sheet s ≡ tray_sheets (letters_in s) (ends_in s) (sides_in s)
  unfolding compose_sheet compose_sheet_fault
  compose_silent h = ap (composed s) (or_zero (own s) judged h) ∙ same_sheets h

  compose_speaks : (n : ℕ) → (own s).number ≡ suc n → compose_sheet s ≡ refused_line (own s)
  unfolding compose_sheet compose_sheet_fault
  compose_speaks n h =
      ap (composed s) (or_some (own s) (tray_fault (letters_in s) (ends_in s)) (omega arith))
      ∙ ap {B = List ℕ} (λ (m : ℕ). elim m [ zero ↦ sheets_of (sides_in s) (slips_of (letters_in s) (ends_in s)) | suc k ↦ refused_line (own s) ]) h

  module _ (a b d w l o : List ℕ) (room : ComposeRoom a b d w l o) (a' b' d' : List ℕ) (r : Written) (t : ReadSays s a a' b b' d d' r) where
    pub compose_can : (r.number ≡ 0 → ⊥) → (r.detail < 10 ^ detail_width) × (refused_size ≤ length o)
    compose_can z = refused_can s a b d room.file a' b' d' r t z o (omega (arith, room.tray.sheet))

    pub compose_refused : (r.number ≡ 0 → ⊥) → (o' : List ℕ) (k : ℕ) → Printed (refused_line (refusal r.number r.detail)) o o' k →
        ComposeSheetSays s a a' b b' d d' w w l l o o' k
    compose_refused z o' k p =
        let (n, h) = speaking (own s) (file_speaks s a b d room.file a' b' d' r t z) in
        record {
          sheet = printed_is (refused_line (refusal r.number r.detail)) (compose_sheet s) o o' k
              (ap refused_line (file_refused s a b d room.file a' b' d' r t z) ∙ sym (compose_speaks n (ap (λ (f : Refusal). f.number) h))) p;
          tray = tray_read s a a' b b' d d' r t;
          work = refl;
          legend = refl;
        }

    pub compose_printed : r.number ≡ 0 → (w' l' o' : List ℕ) (k : ℕ) →
        TraySheetsSays (take r.letters a') (take r.slips b') (take r.slips d') w w' l l' o o' k → ComposeSheetSays s a a' b b' d d' w w' l l' o o' k
    compose_printed z w' l' o' k p =
        record {
          sheet = printed_is (tray_sheets (take r.letters a') (take r.slips b') (take r.slips d')) (compose_sheet s) o o' k
              (rw (
                letters-first _ _ _ a a' b b' d d' r t z,
                ends-first _ _ _ a a' b b' d d' r t z,
                sides_first _ _ _ a a' b b' d d' r t z (sides_count s),
              )
              (sym (compose_silent (file_silent s a b d room.file a' b' d' r t z)))) p.sheet;
          tray = tray_read s a a' b b' d d' r t;
          work = p.work;
          legend = p.legend;
        }

-- what `find` prints, where f turns the files back
abbrev found : List ℕ → List ℕ → Refusal → List ℕ
found s x f = elim f.number [ zero ↦ find_sheet_of (slips_of (letters_in s) (ends_in s)) (text_in x) | suc n ↦ refused_line f ]

-- of a list that takes at least as many occurrences as `find` lists, just so many are lent
pub found_lent : (a b d w f o : List ℕ) → FindRoom a b d w f o → 2 * max_found ≡ length (take (2 * max_found) f)
found_lent a b d w f o room = sym (length-take-le (2 * max_found) f room.found)

pub text_room : (a b d w f o : List ℕ) → FindRoom a b d w f o → TextRoom w (take (2 * max_found) f) o
text_room a b d w f o room = record { work = room.work; found = sym (found_lent a b d w f o room); sheet = room.sheet }

pub find_can : (s a b d w f o : List ℕ) → FindRoom a b d w f o → (a' b' d' : List ℕ) (r : Written) → ReadSays s a a' b b' d d' r → (r.number ≡ 0 → ⊥)
    → (r.detail < 10 ^ detail_width) × (refused_size ≤ length o)
find_can s a b d w f o room a' b' d' r t z = refused_can s a b d room.file a' b' d' r t z o (omega (arith, room.sheet))

module _ (s x : List ℕ) where
  find_silent : (own s).number ≡ 0 → find_sheet s x ≡ text_sheet (letters_in s) (ends_in s) (text_in x)
  unfolding find_sheet find_sheet_fault
  find_silent h = ap (found s x) (or_zero (own s) (text_fault (letters_in s) (ends_in s) (text_in x)) h)

  find_speaks : (n : ℕ) → (own s).number ≡ suc n → find_sheet s x ≡ refused_line (own s)
  unfolding find_sheet find_sheet_fault
  find_speaks n h =
      ap (found s x) (or_some (own s) (text_fault (letters_in s) (ends_in s) (text_in x)) (omega arith))
      ∙ ap {B = List ℕ} (λ (m : ℕ). elim m [ zero ↦ find_sheet_of (slips_of (letters_in s) (ends_in s)) (text_in x) | suc k ↦ refused_line (own s) ]) h

  module _ (a b d w f o : List ℕ) (room : FindRoom a b d w f o) (a' b' d' : List ℕ) (r : Written) (t : ReadSays s a a' b b' d d' r) where
    pub find_refused : (r.number ≡ 0 → ⊥) → (o' : List ℕ) (k : ℕ) → Printed (refused_line (refusal r.number r.detail)) o o' k →
        FindSheetSays s x x a a' b b' d d' w w f f o o' k
    find_refused z o' k p =
        let (n, h) = speaking (own s) (file_speaks s a b d room.file a' b' d' r t z) in
        record {
          sheet = printed_is (refused_line (refusal r.number r.detail)) (find_sheet s x) o o' k
              (ap refused_line (file_refused s a b d room.file a' b' d' r t z) ∙ sym (find_speaks n (ap (λ (f : Refusal). f.number) h))) p;
          tray = tray_read s a a' b b' d d' r t;
          text = refl;
          work = refl;
          found = refl;
        }

    -- the list of occurrences comes back in two parts: what was lent, and the rest
    pub find_printed : r.number ≡ 0 → (x' : List ℕ) (m : ℕ) → Filed x x' m → (w' f' o' : List ℕ) (k : ℕ) →
        TextSheetSays (take r.letters a') (take r.slips b') (take m x') w w' (take (2 * max_found) f) f' o o' k →
        FindSheetSays s x x' a a' b b' d d' w w' f (f' ++ drop (2 * max_found) f) o o' k
    find_printed z x' m q w' f' o' k p =
        record {
          sheet = printed_is (text_sheet (take r.letters a') (take r.slips b') (take m x')) (find_sheet s x) o o' k
              (rw (letters-first _ _ _ a a' b b' d d' r t z, ends-first _ _ _ a a' b b' d d' r t z, q.is)
              (sym (find_silent (file_silent s a b d room.file a' b' d' r t z)))) p.sheet;
          tray = tray_read s a a' b b' d d' r t;
          text = q.same;
          work = p.work;
          found = rw (length-append, length-drop, p.found, length-take-le (2 * max_found) f room.found) (omega (arith, room.found));
        }
