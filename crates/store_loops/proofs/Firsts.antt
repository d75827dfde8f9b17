-- Laws on the first elements of a lent list, stored one after another (specs/Firsts.antt).
--   firsts-suc              == one more of the first elements
--   firsts_are              == the first elements are a list ys, where they agree with it place by place
--   stored_set              == storing f i at place i goes from i elements stored to i + 1
use mathlib.Core.Path.{◌≡◌, sym, ap, ◌∙◌}
use mathlib.Core.List.{List, [], ◌∷◌, ◌++◌, map, map-append}
use Prim.Native.Nat.{ℕ, zero, suc, ◌+◌, ◌≤◌, ◌<◌}
use native.Mathlib.Nat.{zero-add}
use native.Mathlib.Numerals.{add-one}
use native.Mathlib.Omega.{arith}
use lib.ListN.{length, get_or, set, length-map}
use Rattle.words.specs.Lists.{over, up_from}
use Rattle.words.proofs.Buffers.{length_over, over-set}
use Rattle.words.proofs.Runs.{length-up_from, up_from_more, map_places}
use Rattle.store_loops.specs.Firsts.{firsts}

module _ {A : Type 0} (f : ℕ → A) where
  pub get_or-map-up_from : (d : A) (k n i : ℕ) → i < n → get_or (map f (up_from k n)) i d ≡ f (k + i)
  get_or-map-up_from d k zero i h = absurd (omega arith)
  get_or-map-up_from d k (suc n) zero h = ap f (omega arith)
  get_or-map-up_from d k (suc n) (suc i) h = get_or-map-up_from d (suc k) n i (omega arith) ∙ ap f (omega arith)

  pub length-firsts : (n : ℕ) → length (firsts f n) ≡ n
  length-firsts n = length-map (up_from 0 n) f ∙ length-up_from 0 n

  pub firsts-suc : (n : ℕ) → firsts f (suc n) ≡ firsts f n ++ (f n ∷ [])
  firsts-suc n = ap (map f) (up_from_more 0 n) ∙ map-append f (up_from 0 n) ((0 + n) ∷ []) ∙ ap (λ (k : ℕ). firsts f n ++ (f k ∷ [])) (zero-add n)

  pub firsts_are : (d : A) (ys : List A) → ((i : ℕ) → i < length ys → f i ≡ get_or ys i d) → firsts f (length ys) ≡ ys
  firsts_are d ys h = map_places d f 0 ys (λ i l. ap f (zero-add i) ∙ h i l)

  module _ (xs : List A) where
    pub length_stored : (n : ℕ) → n ≤ length xs → length (over (firsts f n) xs) ≡ length xs
    length_stored n h = length_over (firsts f n) xs (omega (arith, length-firsts n))

    pub stored_set : (i : ℕ) → i < length xs → set (over (firsts f i) xs) i (f i) ≡ over (firsts f (i + 1)) xs
    stored_set i h =
        over-set (f i) (firsts f i) xs i (f i) (length-firsts i) h ∙ ap (λ (ys : List A). over ys xs) (sym (ap (firsts f) (add-one i) ∙ firsts-suc i))
