-- The first member of a list that passes a test: as the library answers it, and as a function that counts from a number, 0 for none.
--   first_found  == the two agree, where the number is 1
use Rattle.std.proofs.Common.{◌≡◌, ◌∙◌, refl, sym, ap, ℕ, suc, ◌+◌, ◌<◌, Bool, true, false, cond, List, [], ◌∷◌, length, ltb, Option, None, Some, add-one, arith}
use Rattle.std.specs.List.{position_from, position_or_len}
use Rattle.std.proofs.lemmas.Iterator.Adapters.{position_from-zero}
use Rattle.words.proofs.Tests.{by_test}
use Rattle.trays.specs.Told.{place_of}

module _ (p : ℕ → Bool) (F : ℕ → List ℕ → ℕ) (nil : (i : ℕ) → F i [] ≡ 0) (hit : (i x : ℕ) (xs : List ℕ) → p x ≡ true → F i (x ∷ xs) ≡ i)
    (miss : (i x : ℕ) (xs : List ℕ) → p x ≡ false → F i (x ∷ xs) ≡ F (suc i) xs) where
  from : (i : ℕ) (xs : List ℕ) → place_of (position_from p i xs) ≡ F (i + 1) xs
  from i [] = sym (nil (i + 1))
  from i (x ∷ xs) =
      by_test (p x)
      (λ t. rw (t, hit (i + 1) x xs t))
      (λ t. rw (t, miss (i + 1) x xs t) (from (i + 1) xs ∙ ap (λ n. F n xs) (omega arith)))

  pub first_found : (r : Option ℕ) (xs : List ℕ) → r ≡ cond (ltb (position_or_len p xs) (length xs)) (Some (position_or_len p xs)) None → place_of r ≡ F 1 xs
  first_found r xs e = rw (e, position_from-zero p xs) (from 0 xs)
