-- Comparing two strings: the ways through `below`, by the order of their letters and by the bound.
--   starts-begins == the library's word for a prefix
--   below-..     == what `below` answers, by the bound
use mathlib.Core.Path.{◌≡◌, refl, sym, ap}
use mathlib.Core.Bool.{Bool, true, false, ◌&&◌}
use mathlib.Core.List.{List, [], ◌∷◌}
use Prim.Native.Nat.{ℕ}
use native.Mathlib.Omega.{arith}
use lib.Dec.{ltb, eqb}
use Rattle.std.proofs.Common.{Ordering, Less, Equal, Greater}
use Rattle.std.proofs.lemmas.Bool.Decides.{nat_tests}
use Rattle.std.specs.Cmp.Lexicographic.{slice_cmp}
use Rattle.std.specs.List.{starts_with}
use Rattle.std.specs.Ordering.{nat_cmp, is_lt, is_eq}
use Rattle.std.proofs.lemmas.Cmp.{same_from_slice_cmp}
use Rattle.words.specs.Words.{same, begins, before}
use Rattle.words.proofs.Orders.{same-is}
use Rattle.words.proofs.Strings.{begins-refl}
use Rattle.trie_order.specs.declared.Bound.{Bound}
use Rattle.trie_order.specs.declared.Bound.TheVariants.{Lower, Upper, Number}
use Rattle.trie_order.specs.Order.{below}

pub starts-begins : (x t : List ℕ) → starts_with eqb x t ≡ begins t x
starts-begins x [] = refl
starts-begins [] (y ∷ t) = refl
starts-begins (z ∷ x) (y ∷ t) = ap (λ b. eqb y z && b) (starts-begins x t)

module _ (x t : List ℕ) (i : ℕ) (b : Bound) (r : Ordering) (e : r ≡ slice_cmp nat_cmp x t) where
  is_before : is_lt r ≡ before x t
  is_before = same_from_slice_cmp nat_cmp is_lt before refl (λ _ _. refl) (λ _ _. refl) (λ x y xs ys o h. grind (arith, nat_tests)) x t r e

  is_same : is_eq r ≡ same x t
  is_same = same_from_slice_cmp nat_cmp is_eq same refl (λ _ _. refl) (λ _ _. refl) (λ x y xs ys o h. grind (arith, nat_tests)) x t r e

  pub below-less : r ≡ Less → true ≡ below b t x i
  below-less h = go b
    where
      first : before x t ≡ true
      first = sym (rw h at is_before)

      go : (b : Bound) → true ≡ below b t x i
      go Lower = sym first
      go Upper = rw first
      go (Number k) = rw first

  module _ (h : r ≡ Equal) where
    not-first : before x t ≡ false
    not-first = sym (rw h at is_before)

    alike : same x t ≡ true
    alike = sym (rw h at is_same)

    pub below-lower : b ≡ Lower → false ≡ below b t x i
    below-lower u = rw u (sym not-first)

    pub below-upper : b ≡ Upper → true ≡ below b t x i
    below-upper u = rw (u, not-first, same-is x t alike, begins-refl t)

    pub below-number : (k : ℕ) → b ≡ Number k → ltb i k ≡ below b t x i
    below-number k u = rw (u, not-first, alike)

  module _ (h : r ≡ Greater) where
    not-less : before x t ≡ false
    not-less = sym (rw h at is_before)

    unlike : same x t ≡ false
    unlike = sym (rw h at is_same)

    pub below-begun : b ≡ Upper → (v : Bool) → v ≡ starts_with eqb x t → v ≡ below b t x i
    below-begun u v w = rw (u, not-less, w) (starts-begins x t)

    pub below_none : (b ≡ Upper → ⊥) → false ≡ below b t x i
    below_none n = go b n
      where
        go : (b : Bound) → (b ≡ Upper → ⊥) → false ≡ below b t x i
        go Lower n = sym not-less
        go Upper n = absurd (n refl)
        go (Number k) n = rw (not-less, unlike)
