-- What folding makes of signs and of other bytes.
--   fold_sign  == a byte is outside the signs once it is folded, so that 6 or 13 turns it back, just where it is folded to 0
--   sign_fold  == a sign is folded to a sign
use mathlib.Core.Path.{◌≡◌, refl}
use mathlib.Core.Bool.{Bool, true, false, ◌&&◌, not, cond}
use mathlib.Core.Logic.{inl, inr}
use Prim.Native.Nat.{ℕ, ◌≤◌}
use borrow.Author.Tests.{eqb-true, leb-true, ne_eqb, not-false}
use native.Mathlib.Omega.{arith}
use lib.Dec.{eqb, leb}
use Rattle.words.proofs.Tests.{by_test, both, either}
use Rattle.trays.specs.Slips.{stop, is_letter}
use Rattle.fold_rule.specs.Folding.{upper, die_sign, fold}
use Rattle.fold_rule.specs.Claims.{FoldSign}
use Rattle.fold_rule.proofs.Bytes.{at_byte}

-- where the signs stand among the bytes
sign_range : (b : ℕ) → is_letter b ≡ true → (stop ≤ b) × (b ≤ 90)
sign_range b e =
    elim (either (eqb b stop) (leb 65 b && leb b 90) e) [
      | inl h ↦ omega (arith, eqb-true b stop h)
      | inr h ↦ let (l, m) = both (leb 65 b) (leb b 90) h in omega (arith, leb-true 65 b l, leb-true b 90 m)
    ]

pub fold_sign : FoldSign
unfolding fold
fold_sign b = kept (die_sign (upper b))
  where
    kept : (c : ℕ) → is_letter (cond (is_letter c) c 0) ≡ not (eqb (cond (is_letter c) c 0) 0)
    kept c = by_test (is_letter c) (λ t. rw (t, t, ne_eqb c 0 (λ z. omega (arith, sign_range c t)))) (λ f. rw f)

-- a sign that would be lost; antt computes that no byte is one
lost : ℕ → Bool
lost b = is_letter b && not (is_letter (fold b))

pub sign_fold : (b : ℕ) → is_letter b ≡ true → is_letter (fold b) ≡ true
unfolding fold lost
sign_fold b e =
    let n : lost b ≡ false = at_byte lost refl b (omega (arith, sign_range b e)) in
    not-false (is_letter (fold b)) (rw e at n)
