-- What refuses a merge, row by row: before the outcome is known, and then by its size.
--   lent_few, lent_enough == the ways through check_lent; lent_room == where 15 is silent, room for any tray is lent
--   one_is        == the rows of one tray are those that the check of a tray with its sides decides
--   one_many      == where one tray is not refused, it has a side for each slip
--   fault_is      == what refuses the call: 15, the two trays, and then 1 and 4 of the outcome
--   size_silent   == where 1 and 4 are silent, the outcome is within the limits
use mathlib.Core.Path.{◌≡◌, sym, ◌∙◌, ap}
use mathlib.Core.Bool.{◌||◌}
use mathlib.Core.List.{List, [], ◌∷◌, ◌++◌}
use mathlib.Core.Logic.{◌⊎◌, inl, inr}
use Prim.Native.Nat.{ℕ, ◌≤◌, ◌<◌}
use borrow.Author.Tests.{lt-ltb, le-ltb, ltb-false}
use lib.Dec.{ltb}
use lib.ListN.{length}
use Rattle.words.proofs.Tests.{neither}
use Rattle.trays.specs.declared.Refusal.{Refusal}
use Rattle.trays.specs.Limits.{max_slips, max_letters}
use Rattle.trays.specs.Faults.{refusal, accepted, row, or_else, first_row}
use Rattle.trays.specs.Written.{letters_of, size_rows}
use Rattle.trays.specs.Sides.{sided_tray_rows, sided_tray_fault}
use Rattle.trays.proofs.Accepted.{row_silent}
use Rattle.trays.proofs.Rows.{or_assoc, both_silent, rows_append}
use Rattle.trays.proofs.SidedTrays.{sides_tell, rows-accepted}
use Rattle.merge_rule.specs.Merging.{letters_among, merged_sides, lent_row, merge_fault}
use Rattle.merge_rule.proofs.MergedTrays.{merge_fault_lem}
use Rattle.merge_trays.specs.Steps.Merging.{lent_fault, one_fault, both_fault, size_fault, Room}

-- 15
module _ (a b d : ℕ) where
  pub lent_few : (a < max_letters) ⊎ (((max_letters ≤ a) × (b < max_slips)) ⊎ ((max_letters ≤ a) × (max_slips ≤ b) × (d < max_slips)))
      → refusal 15 0 ≡ lent_fault a b d
  unfolding lent_fault
  lent_few (inl h) = rw (lt-ltb a max_letters h)
  lent_few (inr (inl (h, l))) = rw (le-ltb a max_letters h, lt-ltb b max_slips l)
  lent_few (inr (inr (h, l, k))) = rw (le-ltb a max_letters h, le-ltb b max_slips l, lt-ltb d max_slips k)

  pub lent_enough : max_letters ≤ a → max_slips ≤ b → max_slips ≤ d → accepted ≡ lent_fault a b d
  unfolding lent_fault
  lent_enough h l k = rw (le-ltb a max_letters h, le-ltb b max_slips l, le-ltb d max_slips k)

  pub lent_room : accepted ≡ lent_fault a b d → Room a b d
  unfolding lent_fault
  lent_room e =
      let silent : (lent_fault a b d).number ≡ 0 = ap (λ (r : Refusal). r.number) (sym e) in
      let (letters, rest) = neither (ltb a max_letters) (ltb b max_slips || ltb d max_slips) (row_silent 14 _ 0 silent) in
      let (ends, sides) = neither (ltb b max_slips) (ltb d max_slips) rest in
      record { letters = ltb-false a max_letters letters; ends = ltb-false b max_slips ends; sides = ltb-false d max_slips sides }

-- one tray
module _ (s es cs : List ℕ) where
  pub one_is : (r : Refusal) → r ≡ sided_tray_fault s es cs → r ≡ one_fault s es cs
  unfolding sided_tray_fault one_fault
  one_is r e = e

  pub one_many : accepted ≡ sided_tray_fault s es cs → length cs ≡ length es
  unfolding sided_tray_fault
  one_many e =
      let silent : (sided_tray_fault s es cs).number ≡ 0 = ap (λ (r : Refusal). r.number) (sym e) in
      (sides_tell es cs (rows-accepted s es cs silent).sides).0

-- the whole call
module _ (s es cs t fs ds : List ℕ) where
  pub fault_is : (a b d : ℕ) →
      let ms = letters_among (merged_sides s es cs t fs ds) in
      merge_fault a b d s es cs t fs ds ≡ or_else (lent_fault a b d) (or_else (both_fault s es cs t fs ds) (size_fault (length (letters_of ms)) (length ms)))
  unfolding lent_fault one_fault
  fault_is a b d =
      let size = size_rows (letters_among (merged_sides s es cs t fs ds)) in
      let one = sided_tray_rows s es cs in
      let two = sided_tray_rows t fs ds in
      merge_fault_lem a b d s es cs t fs ds
      ∙ ap (or_else (lent_row a b d))
      (rows_append one (two ++ size) ∙ ap (or_else (first_row one)) (rows_append two size) ∙ sym (or_assoc (first_row one) (first_row two) (first_row size)))

-- the outcome
pub size_silent : (n k : ℕ) → accepted ≡ size_fault n k → (n ≤ max_letters) × (k ≤ max_slips)
size_silent n k e =
    let silent : (size_fault n k).number ≡ 0 = ap (λ (r : Refusal). r.number) (sym e) in
    let (many, long) = both_silent (row 1 (ltb max_slips k) 0) (first_row (row 4 (ltb max_letters n) 0 ∷ [])) silent in
    let letters = (both_silent (row 4 (ltb max_letters n) 0) accepted long).0 in
    (ltb-false max_letters n (row_silent 3 _ 0 letters), ltb-false max_slips k (row_silent 0 _ 0 many))
