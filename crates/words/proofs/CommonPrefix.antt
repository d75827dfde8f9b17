-- The longest common prefix of two strings, and what its length tells of prefixes and of dictionary order.
--   common x y  == how many letters the longest common prefix of x and y has
-- The first `common x y` letters agree, and behind them one of the strings ends or the letters differ. So `begins`, `same` and `before` are decided
-- by `common x y`, the two lengths and the two letters at `common x y`.
use mathlib.Core.Path.{◌≡◌, refl, sym}
use mathlib.Core.Bool.{true, false, cond, ◌&&◌, ◌||◌}
use mathlib.Core.Logic.{inl, inr}
use mathlib.Core.List.{List, [], ◌∷◌, ◌++◌}
use Prim.Native.Nat.{ℕ, zero, suc, ◌≤◌, ◌<◌}
use native.Mathlib.Omega.{arith}
use lib.Dec.{eqb, ltb, leb-suc-suc, eqb-zero-suc, eqb-suc-suc}
use lib.ListN.{length, get_or, take}
use borrow.Author.Tests.{eqb-true, eqb-false, eq-eqb, le-ltb, lt-ltb}
use Rattle.words.specs.Words.{same, begins, before, common}
use Rattle.words.proofs.Tests.{tell, by_test}

-- the two clauses of `common` at letters
pub common-same : (x y : ℕ) (xs ys : List ℕ) → eqb x y ≡ true → common (x ∷ xs) (y ∷ ys) ≡ suc (common xs ys)
common-same x y xs ys e = rw (e, common)

pub common_other : (x y : ℕ) (xs ys : List ℕ) → eqb x y ≡ false → common (x ∷ xs) (y ∷ ys) ≡ 0
common_other x y xs ys e = rw (e, common)

pub common-take : (x y : List ℕ) → take (common x y) x ≡ take (common x y) y
common-take [] y = refl
common-take (x ∷ xs) [] = refl
common-take (x ∷ xs) (y ∷ ys) =
    elim (tell (eqb x y)) [
      | inl e ↦ rw (common-same x y xs ys e, eqb-true x y e, common-take xs ys)
      | inr e ↦ rw (common_other x y xs ys e)
    ]

pub common_at_most : (x y : List ℕ) → (common x y ≤ length x) × (common x y ≤ length y)
common_at_most [] y = omega arith
common_at_most (x ∷ xs) [] = omega arith
common_at_most (x ∷ xs) (y ∷ ys) =
    elim (tell (eqb x y)) [
      | inl e ↦ omega (arith, common-same x y xs ys e, common_at_most xs ys)
      | inr e ↦ omega (arith, common_other x y xs ys e)
    ]

pub common-most : (n : ℕ) (x y : List ℕ) → n ≤ length x → n ≤ length y → take n x ≡ take n y → n ≤ common x y
common-most zero x y h i e = omega arith
common-most (suc n) [] y h i e = h
common-most (suc n) (x ∷ xs) [] h i e = i
common-most (suc n) (x ∷ xs) (y ∷ ys) h i e =
    let p : x ≡ y = cc in
    let q : take n xs ≡ take n ys = cc in
    omega (arith, common-same x y xs ys (eq-eqb x y p), common-most n xs ys (omega arith) (omega arith) q)

pub common-sym : (x y : List ℕ) → common x y ≡ common y x
common-sym x y =
    let p = common_at_most x y in
    let q = common_at_most y x in
    omega (arith, common-most (common x y) y x p.1 p.0 (sym (common-take x y)), common-most (common y x) x y q.1 q.0 (sym (common-take y x)))

-- the letters behind the common prefix differ
pub common_stops : (x y : List ℕ) → common x y < length x → common x y < length y → get_or x (common x y) 0 ≡ get_or y (common x y) 0 → ⊥
common_stops [] y h i e = omega arith
common_stops (x ∷ xs) [] h i e = omega arith
common_stops (x ∷ xs) (y ∷ ys) h i e =
    elim (tell (eqb x y)) [
      | inl t ↦ let c = common-same x y xs ys t in common_stops xs ys (omega arith) (omega arith) (rw c at e)
      | inr t ↦ let c = common_other x y xs ys t in eqb-false x y t (rw c at e)
    ]

-- one letter more at the end of two strings of one length
pub common_snoc : (x y : List ℕ) (a b : ℕ) → length x ≡ length y →
    common (x ++ (a ∷ [])) (y ++ (b ∷ [])) ≡ cond (eqb (common x y) (length x)) (cond (eqb a b) (suc (length x)) (length x)) (common x y)
common_snoc [] [] a b h = by_test (eqb a b) (λ e. rw (common-same a b [] [] e, e)) (λ e. rw (common_other a b [] [] e, e))
common_snoc [] (y ∷ ys) a b h = absurd (omega arith)
common_snoc (x ∷ xs) [] a b h = absurd (omega arith)
common_snoc (x ∷ xs) (y ∷ ys) a b h =
    elim (tell (eqb x y)) [
      | inl e ↦
          rw (common-same x y (xs ++ (a ∷ [])) (ys ++ (b ∷ [])) e, common-same x y xs ys e, eqb-suc-suc, common_snoc xs ys a b (omega arith))
          (by_test (eqb (common xs ys) (length xs)) (λ t. rw t (by_test (eqb a b) (λ q. rw q) (λ q. rw q))) (λ t. rw t))
      | inr e ↦ rw (common_other x y (xs ++ (a ∷ [])) (ys ++ (b ∷ [])) e, common_other x y xs ys e, eqb-zero-suc)
    ]

pub begins-common : (x y : List ℕ) → begins x y ≡ eqb (common x y) (length x)
begins-common [] y = refl
begins-common (x ∷ xs) [] = sym (eqb-zero-suc (length xs))
begins-common (x ∷ xs) (y ∷ ys) =
    elim (tell (eqb x y)) [
      | inl e ↦ rw (common-same x y xs ys e, e, eqb-suc-suc) (begins-common xs ys)
      | inr e ↦ rw (common_other x y xs ys e, e) (sym (eqb-zero-suc (length xs)))
    ]

pub same-common : (x y : List ℕ) → same x y ≡ eqb (common x y) (length x) && eqb (common x y) (length y)
same-common [] [] = refl
same-common [] (y ∷ ys) = sym (eqb-zero-suc (length ys))
same-common (x ∷ xs) [] = rw (eqb-zero-suc (length xs))
same-common (x ∷ xs) (y ∷ ys) =
    elim (tell (eqb x y)) [
      | inl e ↦ simp (common-same x y xs ys e, e, eqb-suc-suc) (same-common xs ys)
      | inr e ↦ rw (common_other x y xs ys e, e, eqb-zero-suc (length xs))
    ]

pub before-common : (x y : List ℕ) →
    before x y ≡ ltb (common x y) (length y) && (eqb (common x y) (length x) || ltb (get_or x (common x y) 0) (get_or y (common x y) 0))
before-common [] [] = refl
before-common [] (y ∷ ys) = rw (lt-ltb 0 (suc (length ys)) (omega arith))
before-common (x ∷ xs) [] = refl
before-common (x ∷ xs) (y ∷ ys) =
    elim (tell (eqb x y)) [
      | inl e ↦ rw (common-same x y xs ys e, e, le-ltb x y (omega (arith, eqb-true x y e)), leb-suc-suc, eqb-suc-suc) (before-common xs ys)
      | inr e ↦ rw (common_other x y xs ys e, e, lt-ltb 0 (suc (length ys)) (omega arith), eqb-zero-suc) (by_test (ltb x y) (λ t. rw t) (λ t. rw t))
    ]
