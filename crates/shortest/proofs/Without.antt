-- A list less its first x: members, order, sums, length.
--   without-yes, without_no == its two clauses
--   without_sum             == x and the list less x add up to the list
-- Only the first x goes, so the sums and the length need no distinct members.
use mathlib.Core.Path.{◌≡◌, sym, ap}
use mathlib.Core.Bool.{true, false}
use mathlib.Core.Logic.{inl, inr}
use mathlib.Core.List.Memᴰ
use mathlib.Core.List.{List, [], ◌∷◌}
use Prim.Native.Nat.{ℕ, suc, ◌+◌}
use native.Mathlib.Omega.{arith}
use lib.Dec.{eqb}
use lib.ListN.{length}
use borrow.Author.Tests.{eqb-true, eqb-false}
use Rattle.words.proofs.Tests.{tell}
use Rattle.words.proofs.Members.{In, Asc, by_in}
use Rattle.words.proofs.Sums.{sum, length_sum}
use Rattle.shortest.specs.Orders.{without}

pub without-yes : (x y : ℕ) (ys : List ℕ) → eqb x y ≡ true → without x (y ∷ ys) ≡ ys
without-yes x y ys e = rw (e, without)

pub without_no : (x y : ℕ) (ys : List ℕ) → eqb x y ≡ false → without x (y ∷ ys) ≡ y ∷ without x ys
without_no x y ys e = rw (e, without)

pub without_in : {y : ℕ} (x : ℕ) (R : List ℕ) → In y (without x R) → In y R
without_in x [] m = m
without_in x (z ∷ R) m =
    elim (tell (eqb x z)) [
      | inl e ↦ Memᴰ.tail (rw (without-yes x z R e) at m)
      | inr e ↦ by_in (rw (without_no x z R e) at m) Memᴰ.head (λ i. Memᴰ.tail (without_in x R i))
    ]

pub without_asc : (S : ℕ → ℕ → Type 0) (x : ℕ) (R : List ℕ) → Asc S R → Asc S (without x R)
without_asc S x [] a = tt
without_asc S x (z ∷ R) a =
    elim (tell (eqb x z)) [
      | inl e ↦ rw (without-yes x z R e) a.1
      | inr e ↦ rw (without_no x z R e) ((λ y m. a.0 y (without_in x R m)), without_asc S x R a.1)
    ]

pub without_sum : (g : ℕ → ℕ) (x : ℕ) (R : List ℕ) → In x R → sum g R ≡ g x + sum g (without x R)
without_sum g x [] m = absurd (Memᴰ.not-nil m)
without_sum g x (z ∷ R) m =
    elim (tell (eqb x z)) [
      | inl e ↦ rw (without-yes x z R e) (ap (λ y. g y + sum g R) (sym (eqb-true x z e)))
      | inr e ↦
          rw (without_no x z R e) (by_in m (λ d. absurd (eqb-false x z e d)) (λ i. omega (arith, without_sum g x R i)))
    ]

pub without-length : (x : ℕ) (R : List ℕ) → In x R → suc (length (without x R)) ≡ length R
without-length x R m = omega (arith, without_sum (λ y. 1) x R m, length_sum R, length_sum (without x R))
