-- Row 22, and the ways through the functions that decide it.
--   sides-..  == the ways through check_sides
--   sided-..  == the ways through check_sided_tray
--   whole-..  == the ways through check_tray_sides
use mathlib.Core.Path.{◌≡◌, refl, sym, ◌∙◌}
use mathlib.Core.Bool.{Bool, true, false, not, ◌||◌}
use mathlib.Core.List.{List, [], ◌∷◌}
use Prim.Native.Nat.{ℕ, suc, ◌+◌, ◌-◌, ◌≤◌, ◌<◌}
use borrow.Author.Tests.{eq-eqb, ne_eqb}
use native.Mathlib.Omega.{arith}
use lib.Dec.{eqb}
use lib.ListN.{length, get_or, drop, drop_of_length-le}
use lib.Seq.{drop-cons}
use Rattle.words.specs.Lists.{any}
use Rattle.trays.specs.declared.Refusal.{Refusal}
use Rattle.trays.specs.Faults.{refusal, accepted, or_else, first_row, tray_rows, tray_fault, set_rows, set_fault}
use Rattle.trays.specs.Sides.{blank_side, obverse, reverse, is_side, sides_row, side_row, side_fault, sided_fault, sided_tray_fault}
use Rattle.trays.specs.Told.{told}
use Rattle.trays.specs.declared.fault.Fault.{Fault}
use Rattle.trays.proofs.Rows.{rows_append}
use Rattle.trays.proofs.Told.{told-first, told_next}
use Rattle.words.proofs.Tests.{by_test}
use Rattle.std.specs.List.{list_all}

module _ (es cs : List ℕ) (b : ℕ) (all : Bool) (q : all ≡ list_all is_side cs) where
  any_other : any (λ x. not (is_side x)) cs ≡ not all
  any_other = rw q (go cs)
    where
      go : (xs : List ℕ) → any (λ x. not (is_side x)) xs ≡ not (list_all is_side xs)
      go [] = refl
      go (x ∷ xs) = by_test (is_side x) (λ t. rw (t, any, list_all) (go xs)) (λ t. rw (t, any, list_all))

  pub sides_good : length cs ≡ length es → all ≡ true → is_side b ≡ true → accepted ≡ side_fault es cs b
  unfolding side_fault
  sides_good e a k = rw (eq-eqb (length cs) (length es) e, any_other, a, k)

  pub sides_other : all ≡ false → refusal 22 0 ≡ side_fault es cs b
  unfolding side_fault
  sides_other a = by_test (eqb (length cs) (length es)) (λ t. rw (t, any_other, a)) (λ t. rw t)

module _ (es cs : List ℕ) (b : ℕ) where
  pub sides_long : (length cs ≡ length es → ⊥) → refusal 22 0 ≡ side_fault es cs b
  unfolding side_fault
  sides_long n = rw (ne_eqb (length cs) (length es) n)

  pub sides_named : false ≡ is_side b → refusal 22 0 ≡ side_fault es cs b
  unfolding side_fault
  sides_named k =
      by_test (eqb (length cs) (length es))
      (λ t. by_test (any (λ x. not (is_side x)) cs) (λ a. rw (t, a)) (λ a. rw (t, a, ← k)))
      (λ t. rw t)

-- the sides are asked after the tray
module _ (m b : ℕ) (s es cs : List ℕ) where
  sided_is : sided_fault m b s es cs ≡ or_else (set_fault m s es) (side_fault es cs b)
  unfolding sided_fault set_fault side_fault
  sided_is = rows_append (set_rows m s es) (sides_row es cs ∷ (side_row b ∷ []))

  pub sided-set : (f : Fault) → told f ≡ set_fault m s es → told f ≡ sided_fault m b s es cs
  sided-set f e = told-first f (set_fault m s es) (side_fault es cs b) e ∙ sym sided_is

  pub sided_sides : accepted ≡ set_fault m s es → (r : Refusal) → r ≡ side_fault es cs b → r ≡ sided_fault m b s es cs
  sided_sides e r q = q ∙ told_next (set_fault m s es) (side_fault es cs b) e ∙ sym sided_is

-- where no side is named, a blank is handed in, which is a side
module _ (s es cs : List ℕ) where
  whole_is : sided_tray_fault s es cs ≡ or_else (tray_fault s es) (side_fault es cs blank_side)
  unfolding sided_tray_fault tray_fault side_fault
  whole_is = rows_append (tray_rows s es) (sides_row es cs ∷ [])

  pub whole_tray : (f : Fault) → told f ≡ tray_fault s es → told f ≡ sided_tray_fault s es cs
  whole_tray f e = told-first f (tray_fault s es) (side_fault es cs blank_side) e ∙ sym whole_is

  pub whole_sides : accepted ≡ tray_fault s es → (r : Refusal) → r ≡ side_fault es cs blank_side → r ≡ sided_tray_fault s es cs
  whole_sides e r q = q ∙ told_next (tray_fault s es) (side_fault es cs blank_side) e ∙ sym whole_is
