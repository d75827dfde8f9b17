-- Rows of the table, and what those of a line and of lines say.
--   or_accepted   == where two rows turn nothing back, neither does
--   or_last       == no row behind the last one
--   rows a b c    == the rows 17, 18, 19 of line k, where a, b, c say whether each holds
--   fault_detail  == a fault of line k has k as its detail
--   laid_out      == a line without a fault has the layout of a tray line; long_enough == and at least 10 bytes
use mathlib.Core.Path.{◌≡◌, refl, sym, ◌∙◌, ap}
use mathlib.Core.Bool.{Bool, true, false, not}
use mathlib.Core.List.{List, [], ◌∷◌}
use Prim.Native.Nat.{ℕ, suc, ◌-◌, ◌≤◌}
use borrow.Author.Tests.{leb-true, not-false}
use native.Mathlib.Omega.{arith}
use lib.Dec.{eqb, leb}
use lib.ListN.{length, length-take, length-drop, length-map}
use Rattle.words.proofs.Tests.{both}
use Rattle.trays.specs.declared.Refusal.{Refusal}
use Rattle.trays.specs.Faults.{refusal, accepted, row, or_else, first_row}
use Rattle.trays.proofs.Rows.{by_number, or_zero, or_some}
use Rattle.file_rule.specs.Lines.{is_laid_out, slip_field, length_field, letters}
use Rattle.file_rule.specs.Faults.{line_fault, lines_fault}

pub or_accepted : (f g : Refusal) → or_else f g ≡ accepted → (f.number ≡ 0) × (g ≡ accepted)
or_accepted f g h =
    by_number f (λ z. (z, sym (or_zero f g z) ∙ h))
    (λ s. let q : f.number ≡ 0 = ap (λ (r : Refusal). r.number) (sym (or_some f g s) ∙ h) in absurd (omega arith))

pub or_last : (f : Refusal) → (f.number ≡ 0 → f ≡ accepted) → or_else f accepted ≡ f
or_last f a = by_number f (λ z. or_zero f accepted z ∙ sym (a z)) (λ h. or_some f accepted h)

-- a line of the layout has 10 bytes beside its letters
pub letters-length : (l : List ℕ) → length (letters l) ≡ length l - 10
letters-length l = rw (length-map, length-take, length-drop) (omega arith)

module _ (k : ℕ) where
  abbrev rows : Bool → Bool → Bool → Refusal
  rows a b c = first_row (row 17 a k ∷ (row 18 b k ∷ (row 19 c k ∷ [])))

  detail : (a b c : Bool) → ((rows a b c).number ≡ 0 → ⊥) → refusal (rows a b c).number k ≡ rows a b c
  detail true b c z = refl
  detail false true c z = refl
  detail false false true z = refl
  detail false false false z = absurd (z refl)

  silent : (a b c : Bool) → (rows a b c).number ≡ 0 → a ≡ false
  silent true b c z = absurd (omega arith)
  silent false b c z = refl

  module _ (l : List ℕ) where
    abbrev misnumbered : Bool
    misnumbered = not (eqb (slip_field l) (suc k))

    abbrev mismeasured : Bool
    mismeasured = not (eqb (length_field l) (suc (length (letters l))))

    pub fault_detail : ((line_fault k l).number ≡ 0 → ⊥) → refusal (line_fault k l).number k ≡ line_fault k l
    fault_detail = detail (not (is_laid_out l)) misnumbered mismeasured

    pub laid_out : (line_fault k l).number ≡ 0 → is_laid_out l ≡ true
    laid_out z = not-false (is_laid_out l) (silent (not (is_laid_out l)) misnumbered mismeasured z)

    pub long_enough : (line_fault k l).number ≡ 0 → 10 ≤ length l
    long_enough z = leb-true 10 (length l) (both (leb 10 (length l)) _ (laid_out z)).0

pub lines-accepted : (k : ℕ) (ls : List (List ℕ)) → (lines_fault k ls).number ≡ 0 → lines_fault k ls ≡ accepted
lines-accepted k [] z = refl
lines-accepted k (l ∷ ls) z =
    by_number (line_fault k l)
    (λ e. or_zero (line_fault k l) _ e ∙ lines-accepted (suc k) ls (rw (or_zero (line_fault k l) _ e) at z))
    (λ h. let q : (line_fault k l).number ≡ 0 = rw (or_some (line_fault k l) _ h) at z in absurd (omega arith))
