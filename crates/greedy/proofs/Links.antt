-- The links of an order of chains: what two chains lose that are taken out of it and put back as one.
--   links w p X q   == the weights of the seams of p, the chains X, and q
--   Below w c p X q == no seam there weighs more than c
-- A join from a to b of weight c takes out the chain A that ends in a and the chain B that b begins. If A comes first, in X A M B Y,
-- then M X AB Y loses at most the two seams of M. If B comes first, in X B M A Y, then M AB X Y loses the seam of B and M, and the
-- seams at b and a for the one of X and Y, which the exchange inequality bounds.
use mathlib.Core.Path.{◌≡◌, refl}
use mathlib.Core.List.{List, [], ◌∷◌, ◌++◌}
use Prim.Native.Nat.{ℕ, ◌+◌, ◌*◌, ◌≤◌}
use native.Mathlib.Omega.{arith}
use Rattle.greedy.specs.Orders.{along}
use Rattle.greedy.proofs.Chains.{Chain, end, last_append}
use Rattle.greedy.proofs.Represent.{merged, singles}
use Rattle.words.specs.Lists.{last_or}

abbrev pub links : (ℕ → ℕ → ℕ) → ℕ → List Chain → ℕ → ℕ
links w p [] q = w p q
links w p (C ∷ X) q = w p C.first + links w (end C) X q

abbrev pub Below : (ℕ → ℕ → ℕ) → ℕ → ℕ → List Chain → ℕ → Type 0
Below w c p [] q = w p q ≤ c
Below w c p (C ∷ X) q = (w p C.first ≤ c) × Below w c (end C) X q

module _ (w : ℕ → ℕ → ℕ) where
  links_append :
      (p : ℕ) (X : List Chain) (C : Chain) (Y : List Chain) (q : ℕ)
      → links w p (X ++ (C ∷ Y)) q ≡ links w p X C.first + links w (end C) Y q
  links_append p [] C Y q = refl
  links_append p (D ∷ X) C Y q = omega (arith, links_append (end D) X C Y q)

  below_split :
      (c p : ℕ) (X : List Chain) (C : Chain) (Y : List Chain) (q : ℕ)
      → Below w c p (X ++ (C ∷ Y)) q → Below w c p X C.first × Below w c (end C) Y q
  below_split c p [] C Y q h = h
  below_split c p (D ∷ X) C Y q h = let r = below_split c (end D) X C Y q h.1 in ((h.0, r.0), r.1)

  pub links_none : (p : ℕ) (X : List Chain) (q : ℕ) → Below w 0 p X q → links w p X q ≡ 0
  links_none p [] q h = omega arith
  links_none p (C ∷ X) q h = omega (arith, links_none (end C) X q h.1)

  pub links_singles : (p : ℕ) (xs : List ℕ) (q : ℕ) → links w p (singles xs) q ≡ along w p xs + w (last_or p xs) q
  links_singles p [] q = omega arith
  links_singles p (x ∷ xs) q = omega (arith, links_singles x xs q)

  -- the order X, b and the order a, Y become X, Y, where the seams at b and a can be exchanged for c
  seam :
      (a b c : ℕ) → ((p d : ℕ) → w p b ≤ c → w a d ≤ c → w p b + w a d ≤ w p d + c) → (p : ℕ) (X Y : List Chain) (q : ℕ)
      → Below w c p X b → Below w c a Y q → links w p X b + links w a Y q ≤ links w p (X ++ Y) q + c
  seam a b c h p [] [] q x y = omega (arith, h p q x y)
  seam a b c h p [] (D ∷ Y) q x y = omega (arith, h p D.first x y.0)
  seam a b c h p (C ∷ X) Y q x y = omega (arith, seam a b c h (end C) X Y q x.1 y)

-- z has weight 0 before every slip
module _ (w : ℕ → ℕ → ℕ) (z : ℕ) (low : (x : ℕ) → w z x ≡ 0) where
  -- only the first seam depends on what comes before
  links_low : (p : ℕ) (X : List Chain) (q : ℕ) → links w z X q ≤ links w p X q
  links_low p [] q = omega (arith, low q)
  links_low p (C ∷ X) q = omega (arith, low C.first)

  links_high : (c p : ℕ) (X : List Chain) (q : ℕ) → Below w c p X q → links w p X q ≤ links w z X q + c
  links_high c p [] q h = omega arith
  links_high c p (C ∷ X) q h = omega arith

  below_low : (c p : ℕ) (X : List Chain) (q : ℕ) → Below w c p X q → Below w c z X q
  below_low c p [] q h = omega (arith, low q)
  below_low c p (C ∷ X) q h = (omega (arith, low C.first), h.1)

  module _ (c : ℕ) (X M Y : List Chain) (A B : Chain) where
    end_merged : end (merged A B) ≡ end B
    end_merged = last_append A.first A.rest B.first B.rest

    pub links_forth :
        Below w c z ((X ++ (A ∷ M)) ++ (B ∷ Y)) z
        → links w z ((X ++ (A ∷ M)) ++ (B ∷ Y)) z ≤ links w z ((M ++ X) ++ (merged A B ∷ Y)) z + 2 * c
    links_forth h =
        let b = B.first in
        let (x, m) = below_split w c z X A M b (below_split w c z (X ++ (A ∷ M)) B Y z h).0 in
        rw (links_append w z (X ++ (A ∷ M)) B Y z, links_append w z X A M b, links_append w z (M ++ X) (merged A B) Y z, end_merged)
        (omega (
          arith,
          links_high c (end A) M b m,
          seam w z b c (λ p d k l. omega (arith, low d)) z M X A.first (below_low c (end A) M b m) x,
        ))

    pub links_back :
        ((p d : ℕ) → w p B.first ≤ c → w (end A) d ≤ c → w p B.first + w (end A) d ≤ w p d + c)
        → Below w c z (X ++ (B ∷ (M ++ (A ∷ Y)))) z
        → links w z (X ++ (B ∷ (M ++ (A ∷ Y)))) z ≤ links w z (M ++ (merged A B ∷ (X ++ Y))) z + 2 * c
    links_back exchange h =
        let (x, u) = below_split w c z X B (M ++ (A ∷ Y)) z h in
        let (m, y) = below_split w c (end B) M A Y z u in
        rw (links_append w z X B (M ++ (A ∷ Y)) z, links_append w (end B) M A Y z, links_append w z M (merged A B) (X ++ Y) z, end_merged)
        (omega (
          arith,
          links_high c (end B) M A.first m,
          seam w (end A) B.first c exchange z X Y z x y,
          links_low (end B) (X ++ Y) z,
        ))
