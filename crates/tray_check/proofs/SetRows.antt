-- Row 21, before those of the tray.
use mathlib.Core.Path.{◌≡◌, ◌∙◌}
use mathlib.Core.Bool.{true}
use mathlib.Core.Logic.{◌⊎◌, inl, inr}
use mathlib.Core.List.{List}
use Prim.Native.Nat.{ℕ, ◌≤◌, ◌<◌}
use borrow.Author.Tests.{eq-eqb, ne_eqb, leb-true, lt-ltb, le-ltb}
use native.Mathlib.Omega.{arith}
use lib.Dec.{leb}
use Rattle.trays.specs.declared.Refusal.{Refusal}
use Rattle.trays.specs.Limits.{max_least}
use Rattle.trays.specs.Faults.{refusal, tray_fault, set_fault}

module _ (m : ℕ) (s es : List ℕ) where
  -- over any number that is no smaller than the limit: that it is the limit is for `set_good`
  pub set-over : (n : ℕ) → leb max_least n ≡ true → (m ≡ 0) ⊎ ((m ≡ 0 → ⊥) × (n < m)) → refusal 21 0 ≡ set_fault m s es
  unfolding set_fault
  set-over n l (inl e) = rw (eq-eqb m 0 e)
  set-over n l (inr (z, h)) = rw (ne_eqb m 0 z, lt-ltb max_least m (omega (arith, leb-true max_least n l)))

  pub set_good : (m ≡ 0 → ⊥) → m ≤ max_least → (r : Refusal) → r ≡ tray_fault s es → r ≡ set_fault m s es
  unfolding set_fault tray_fault
  set_good z h r q = q ∙ rw (ne_eqb m 0 z, le-ltb max_least m h)
