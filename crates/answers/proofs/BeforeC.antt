-- The rows before place C: those of settings, tray and whatever else is judged before 7, then 7. What follows them is judged where these are silent.
--   rows-first   == one of the rows before 7 speaks
--   work_first   == these are silent, and 7 speaks; rows_left == none does
--   work_same, work_kept == what is left of the work area: it is as it was; nothing was turned back before place C
use mathlib.Core.Path.{◌≡◌, refl, ◌∙◌, ap}
use mathlib.Core.List.{List, [], ◌∷◌, ◌++◌}
use Prim.Native.Nat.{ℕ, ◌≤◌, ◌<◌}
use borrow.Author.Tests.{lt-ltb, le-ltb}
use native.Mathlib.Omega.{arith}
use lib.ListN.{length}
use Rattle.trays.specs.declared.Refusal.{Refusal}
use Rattle.trays.specs.Limits.{work_need}
use Rattle.trays.specs.Faults.{refusal, first_row}
use Rattle.trays.proofs.Rows.{or_zero, or_some, rows_append}
use Rattle.answers.specs.WorkArea.{work_row, WorkKept}

pub work_same : (f : Refusal) (w : List ℕ) → WorkKept f w w
work_same f w = record { same = refl; untouched = λ h. refl }

module _ (before : List Refusal) where
  pub rows-first : (rs : List Refusal) (f : Refusal) → f ≡ first_row before → (f.number ≡ 0 → ⊥) → first_row (before ++ rs) ≡ f
  rows-first rs f e z = rows_append before rs ∙ rw (← e) (or_some f (first_row rs) (omega arith))

  module _ (silent : (first_row before).number ≡ 0) (w : ℕ) (rs : List Refusal) where
    behind : first_row (before ++ (work_row w ∷ rs)) ≡ first_row (work_row w ∷ rs)
    behind = rows_append before (work_row w ∷ rs) ∙ or_zero (first_row before) (first_row (work_row w ∷ rs)) silent

    pub work_first : w < work_need → first_row (before ++ (work_row w ∷ rs)) ≡ refusal 7 0
    work_first h = behind ∙ rw (lt-ltb w work_need h)

    pub rows_left : work_need ≤ w → first_row (before ++ (work_row w ∷ rs)) ≡ first_row rs
    rows_left h = behind ∙ rw (le-ltb w work_need h)

  pub work_kept : (first_row before).number ≡ 0 → (w w' : List ℕ) → work_need ≤ length w → length w' ≡ length w
      → WorkKept (first_row (before ++ (work_row (length w) ∷ []))) w w'
  work_kept silent w w' room e =
      let none : (first_row (before ++ (work_row (length w) ∷ []))).number ≡ 0 = ap (λ (f : Refusal). f.number) (rows_left silent (length w) [] room) in
      record { same = e; untouched = λ h. absurd (omega arith) }
