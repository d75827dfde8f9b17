-- Which sides have a sheet, and the sheets of all sides one after another.
--   shown-..      == the three ways through is_shown
--   sheet_none, sheet_some == the two ways through add_sheet
--   tray_refused, first-room, second_room, third_room, three_printed == the two ways through tray_sheets
-- Each sheet is written into a part of the buffer that takes the longest one, so that none has to be measured before.
use mathlib.Core.Path.{◌≡◌, refl, sym, ◌∙◌, ap}
use mathlib.Core.Bool.{Bool, true, false, cond}
use mathlib.Core.List.{List, [], ◌∷◌, ◌++◌, append_assoc, append-nil}
use Prim.Native.Nat.{ℕ, zero, suc, ◌+◌, ◌-◌, ◌^◌, ◌≤◌, ◌<◌}
use borrow.Author.Tests.{le-leb, eq-eqb, ne_eqb}
use borrow.Rule.Slice.PartMut.{put_mid}
use native.Mathlib.Omega.{arith}
use lib.Dec.{eqb}
use lib.ListN.{length, take, drop, take-append-drop, length-drop}
use lib.Seq.{length-take-le, drop-append-le}
use Rattle.words.specs.Lists.{each, those, over}
use Rattle.words.proofs.Members.{those-yes, those_no}
use Rattle.words.proofs.Tests.{by_test}
use Rattle.trays.specs.declared.Refusal.{Refusal}
use Rattle.trays.specs.Limits.{max_slips}
use Rattle.trays.specs.Slips.{slips_of}
use Rattle.trays.specs.Faults.{refusal, first_row}
use Rattle.trays.specs.Sides.{blank_side, obverse, reverse, of_side, sided_fault, sided_tray_rows, AcceptedSides}
use Rattle.trays.proofs.Rows.{speaking}
use Rattle.trays.proofs.Accepted.{accepted_tells}
use Rattle.trays.proofs.SidedTrays.{sides_tell, sided_tells}
use Rattle.greedy.specs.Composing.{usual_of, sided}
use Rattle.tray_cut.specs.declared.Chosen.{Chosen}
use Rattle.tray_cut.specs.Choosing.{SideSlips}
use Rattle.sheet_rule.specs.Sheets.{side_sheet_of, sheet_room, detail_width, refused_line, refused_size}
use Rattle.sheet_rule.specs.Sides.{is_shown, sheets_of}
use Rattle.sheet_rule.specs.Programs.{tray_sheets}
use Rattle.sheet_rule.specs.Lent.{TrayRoom, Printed}
use Rattle.sheet_columns.proofs.Puts.{put_is, put_none, put_more}
use Rattle.sheet_lines.proofs.Lines.{printed}
use Rattle.sheet_sizes.proofs.RefusalsFit.{sided-refusal-fits}
use Rattle.sheet_sizes.proofs.Printing.{printed_is}
use Rattle.sheet_of_tray.specs.Steps.Lent.{SideRoom, SideSheetSays, shown_sheet, SheetAdded, TraySheetsSays}

-- which sides have a sheet
module _ (cs : List ℕ) (b : ℕ) (few : length cs ≤ max_slips) (h : Chosen) (S : SideSlips cs b h) where
  count_is : h.count ≡ length (of_side cs b)
  count_is = sym (length-take-le h.count h.slips (omega (arith, S.few, S.size))) ∙ ap length S.slips_are

  pub shown_some : (h.count ≡ 0 → ⊥) → true ≡ is_shown cs b
  shown_some n = rw (le-leb 1 (length (of_side cs b)) (omega (arith, n, count_is)))

  none : h.count ≡ 0 → length (of_side cs b) ≡ 0
  none z = sym count_is ∙ z

  pub shown_other : h.count ≡ 0 → (b ≡ blank_side → ⊥) → false ≡ is_shown cs b
  shown_other z n = rw (none z, ne_eqb b blank_side n)

  pub shown_empty : h.count ≡ 0 → b ≡ blank_side → eqb (length cs) 0 ≡ is_shown cs b
  shown_empty z e = rw (none z, eq-eqb b blank_side e)

-- one sheet more
module _ (s es cs : List ℕ) (b : ℕ) (w l : List ℕ) (room : SideRoom s es cs b w l) where
  pub sides_few : length cs ≤ max_slips
  sides_few = omega (arith, (sides_tell es cs room.tray.sides).0, (accepted_tells s es room.tray.tray).few)

  module _ (o : List ℕ) (at : ℕ) (h : at + sheet_room ≤ length o) (t : Bool) (e : t ≡ is_shown cs b) where
    pub sheet_none : t ≡ false → SheetAdded s es cs b w w l l o o at at
    sheet_none f =
        let n : is_shown cs b ≡ false = sym e ∙ f in
        record { wrote = rw n (put_none at o (omega arith)); few = omega arith; work = refl; legend = refl }

    -- what is printed into the lent part is written after what stands before that part
    module _ (w' l' p' : List ℕ) (end n : ℕ) (ee : end ≡ at + sheet_room)
        (q : SideSheetSays s es cs b w w' l l' (take (end - at) (drop at o)) p' n) where
      abbrev part : List ℕ
      part = take (end - at) (drop at o)

      part_length : length part ≡ sheet_room
      part_length = length-take-le (end - at) (drop at o) (rw length-drop (omega arith)) ∙ omega arith

      pub sheet_fits : n ≤ sheet_room
      sheet_fits = omega (arith, q.sheet.count, q.sheet.fits, part_length)

      over_all : (ys : List ℕ) → length ys ≤ length part → over ys part ++ drop (end - at) (drop at o) ≡ over ys (drop at o)
      over_all ys f =
          append_assoc ys (drop (length ys) part) _
          ∙ ap (λ (r : List ℕ). ys ++ r)
          (sym (drop-append-le (length ys) part (drop (end - at) (drop at o)) f) ∙ ap (drop (length ys)) (take-append-drop (end - at) (drop at o)))

      -- the part comes back where it was lent
      back : put_mid at (end - at) o p' ≡ take at o ++ over (side_sheet_of b (sided (usual_of b) cs (slips_of s es))) (drop at o)
      back = ap (λ (x : List ℕ). take at o ++ x)
          (ap (λ (x : List ℕ). x ++ drop (end - at) (drop at o)) q.sheet.is
          ∙ over_all (side_sheet_of b (sided (usual_of b) cs (slips_of s es))) q.sheet.fits)

      pub sheet_some : t ≡ true → (r : ℕ) → r ≡ at + n → SheetAdded s es cs b w w' l l' o (put_mid at (end - at) o p') at r
      sheet_some y r er =
          let shown : is_shown cs b ≡ true = sym e ∙ y in
          let ys = side_sheet_of b (sided (usual_of b) cs (slips_of s es)) in
          let wide : at + length ys ≤ length o = omega (arith, q.sheet.fits, part_length) in
          let next : r ≡ at + length ys = er ∙ ap (λ (x : ℕ). at + x) q.sheet.count in
          record {
            wrote = rw (shown, next) (put_is at (length ys) ys o (put_mid at (end - at) o p') back refl wide);
            few = omega (arith, sheet_fits);
            work = q.work;
            legend = q.legend;
          }

-- all sheets
each_shown : (f : ℕ → List ℕ) (t : ℕ → Bool) (xs : List ℕ) → each f (those t xs) ≡ each (λ b. cond (t b) (f b) []) xs
each_shown f t [] = refl
each_shown f t (x ∷ xs) =
    by_test (t x) (λ y. rw (those-yes t x xs y, y) (ap (λ (r : List ℕ). f x ++ r) (each_shown f t xs)))
    (λ n. rw (those_no t x xs n, n) (each_shown f t xs))

module _ (s es cs : List ℕ) where
  abbrev own : Refusal
  own = first_row (sided_tray_rows s es cs)

  abbrev sheet : ℕ → List ℕ
  sheet b = shown_sheet cs (slips_of s es) b

  sheets_are : sheets_of cs (slips_of s es) ≡ sheet blank_side ++ (sheet obverse ++ sheet reverse)
  sheets_are = each_shown _ (is_shown cs) (blank_side ∷ (obverse ∷ (reverse ∷ []))) ∙ rw (append-nil (sheet reverse))

  -- with a least overlap of 1 and the blank side named, only the tray and its sides can be turned back
  module _ (f : Refusal) (e : f ≡ sided_fault 1 blank_side s es cs) where
    fault_own : f ≡ own
    unfolding sided_fault
    fault_own = e

    module _ (w l o : List ℕ) (room : TrayRoom w l o) where
      -- turned back: the line of the refusal
      module _ (z : f.number ≡ 0 → ⊥) where
        pub refused_can : (f.detail < 10 ^ detail_width) × (refused_size ≤ length o)
        refused_can = (rw fault_own (sided-refusal-fits s es cs).detail_fits, omega (arith, room.sheet))

        pub tray_refused : (o' : List ℕ) (k : ℕ) → Printed (refused_line (refusal f.number f.detail)) o o' k → TraySheetsSays s es cs w w l l o o' k
        tray_refused o' k p =
            let (n, h) = speaking f z in
            record { sheet = printed_is _ (tray_sheets s es cs) o o' k (line n (ap (λ (g : Refusal). g.number) h)) p; work = refl; legend = refl }
          where
            line : (n : ℕ) → f.number ≡ suc n → refused_line f ≡ tray_sheets s es cs
            line n h =
                ap refused_line fault_own
                ∙ sym (ap {B = List ℕ} (λ (m : ℕ). elim m [ zero ↦ sheets_of cs (slips_of s es) | suc k ↦ refused_line own ])
                (ap (λ (g : Refusal). g.number) (sym fault_own) ∙ h))

      -- accepted: one sheet after another
      module _ (z : f.number ≡ 0) where
        tray : AcceptedSides s es cs
        tray = (sided_tells 1 blank_side s es cs (ap (λ (g : Refusal). g.number) (sym e) ∙ z)).accepted

        pub first-room : SideRoom s es cs blank_side w l × (0 + sheet_room ≤ length o)
        first-room = (record { tray = tray; side = refl; work = room.work; legend = room.legend }, omega (arith, room.sheet))

        module _ (w₁ l₁ o₁ : List ℕ) (n₁ : ℕ) (p : SheetAdded s es cs blank_side w w₁ l l₁ o o₁ 0 n₁) where
          pub second_room : SideRoom s es cs obverse w₁ l₁ × (n₁ + sheet_room ≤ length o₁)
          second_room = (
            record { tray = tray; side = refl; work = omega (arith, room.work, p.work); legend = omega (arith, room.legend, p.legend) },
            omega (arith, room.sheet, p.few, p.wrote.size),
          )

          module _ (w₂ l₂ o₂ : List ℕ) (n₂ : ℕ) (q : SheetAdded s es cs obverse w₁ w₂ l₁ l₂ o₁ o₂ n₁ n₂) where
            pub third_room : SideRoom s es cs reverse w₂ l₂ × (n₂ + sheet_room ≤ length o₂)
            third_room = (
              record {
                tray = tray;
                side = refl;
                work = omega (arith, room.work, p.work, q.work);
                legend = omega (arith, room.legend, p.legend, q.legend);
              },
              omega (arith, room.sheet, p.few, q.few, p.wrote.size, q.wrote.size),
            )

            pub three_printed : (w₃ l₃ o₃ : List ℕ) (r : ℕ) → SheetAdded s es cs reverse w₂ w₃ l₂ l₃ o₂ o₃ n₂ r → TraySheetsSays s es cs w w₃ l l₃ o o₃ r
            three_printed w₃ l₃ o₃ r u =
                let silent : own.number ≡ 0 = ap (λ (g : Refusal). g.number) (sym fault_own) ∙ z in
                let all = printed _ r _ o o₃ (put_more p.wrote (put_more q.wrote u.wrote)) in
                record {
                  sheet = printed_is _ (tray_sheets s es cs) o o₃ r (sym sheets_are ∙ sym (rw (silent, tray_sheets))) all;
                  work = u.work ∙ q.work ∙ p.work;
                  legend = u.legend ∙ q.legend ∙ p.legend;
                }
