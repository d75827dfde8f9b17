-- Lists that hold a row of c numbers for each element of another list.
--   flat-length == how many numbers they hold
--   flat_at     == number j of the row of element i
use mathlib.Core.Path.{◌≡◌, refl, sym, ◌∙◌}
use mathlib.Core.List.{List, [], ◌∷◌}
use Prim.Native.Nat.{ℕ, zero, suc, ◌+◌, ◌*◌, ◌<◌}
use native.Mathlib.Nat.{mul-zero, mul-suc}
use native.Mathlib.Omega.{arith}
use lib.ListN.{length, get_or, length-append, get_or-append}
use lib.Seq.{get_or-append-add}
use Rattle.words.specs.Lists.{each}

module _ {A : Type 0} (c : ℕ) (f : A → List ℕ) (wide : (x : A) → length (f x) ≡ c) where
  pub flat-length : (xs : List A) → length (each f xs) ≡ c * length xs
  flat-length [] = sym (mul-zero c)
  flat-length (x ∷ xs) = length-append (f x) (each f xs) ∙ omega (arith, wide x, flat-length xs, mul-suc c (length xs))

  pub flat_at : (d : A) (xs : List A) (i j at : ℕ) → i < length xs → j < c → at ≡ c * i + j → get_or (each f xs) at 0 ≡ get_or (f (get_or xs i d)) j 0
  flat_at d [] i j at h l e = absurd (omega arith)
  flat_at d (x ∷ xs) zero j at h l e =
      let n : at ≡ j = omega (arith, mul-zero c) in
      rw n (get_or-append (f x) (each f xs) 0 j (omega (arith, wide x)))
  flat_at d (x ∷ xs) (suc i) j at h l e =
      let n : at ≡ length (f x) + (c * i + j) = omega (arith, wide x, mul-suc c i) in
      rw n (get_or-append-add (f x) (each f xs) (c * i + j) 0) ∙ flat_at d xs i j (c * i + j) (omega arith) l refl
