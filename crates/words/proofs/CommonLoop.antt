-- One turn of the loop that counts common letters.
use mathlib.Core.Path.{◌≡◌, refl, sym}
use mathlib.Core.List.{List, [], ◌∷◌}
use Prim.Native.Nat.{ℕ, suc, ◌+◌, ◌≤◌, ◌<◌, min}
use borrow.Author.Tests.{eq-eqb, ne_eqb, leb-true, leb-false}
use lib.Dec.{leb}
use Rattle.words.proofs.Tests.{by_test}
use native.Mathlib.Numerals.{add-one}
use native.Mathlib.Omega.{arith}
use lib.ListN.{length, get_or, drop, drop_of_length-le}
use lib.Seq.{drop-cons}
use Rattle.words.specs.Words.{common}

common_nil : (xs : List ℕ) → common xs [] ≡ 0
common_nil [] = refl
common_nil (x ∷ xs) = refl

-- the letters at n agree
pub common_more : (a b : List ℕ) (n : ℕ) → n < length a → n < length b → get_or a n 0 ≡ get_or b n 0 → common a b ≡ n + common (drop n a) (drop n b) →
    common a b ≡ (n + 1) + common (drop (n + 1) a) (drop (n + 1) b)
common_more a b n ha hb e h =
    let g : common (drop n a) (drop n b) ≡ suc (common (drop (suc n) a) (drop (suc n) b)) =
    rw (drop-cons a n 0, drop-cons b n 0, common, eq-eqb _ _ e) in
    rw add-one (omega arith)

-- the letters at n differ
pub common-differs : (a b : List ℕ) (n : ℕ) → n < length a → n < length b → (get_or a n 0 ≡ get_or b n 0 → ⊥) →
    common a b ≡ n + common (drop n a) (drop n b) → n ≡ common a b
common-differs a b n ha hb e h =
    let g : common (drop n a) (drop n b) ≡ 0 = rw (drop-cons a n 0, drop-cons b n 0, common, ne_eqb _ _ e) in
    omega arith

-- one of the strings ends at n
pub common_all : (a b : List ℕ) (m n : ℕ) → m ≡ min (length a) (length b) → m ≤ n → common a b ≡ n + common (drop n a) (drop n b) → n ≤ m → m ≡ common a b
common_all a b m n e l h u =
    by_test (leb (length a) n)
    (λ t. at_end (rw (drop_of_length-le a (leb-true (length a) n t))))
    (λ t. let f = leb-false (length a) n t in let g : length b ≤ n = omega arith in at_end (rw (drop_of_length-le b g, common_nil)))
  where
    at_end : common (drop n a) (drop n b) ≡ 0 → m ≡ common a b
    at_end g = omega arith
