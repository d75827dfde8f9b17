-- The lists of neighbours give the pieces of the joins.
use mathlib.Core.Path.{◌≡◌, refl, ap, ap₂}
use mathlib.Core.Bool.{true, false}
use mathlib.Core.List.Memᴰ
use mathlib.Core.List.{List, [], ◌∷◌, ◌++◌}
use Prim.Native.Nat.{ℕ, zero, suc, ◌-◌, ◌≤◌, ◌<◌}
use native.Mathlib.Numerals.{sub-one}
use native.Mathlib.Omega.{arith}
use lib.Dec.{eqb, eqb-suc-zero}
use lib.ListN.{length, get_or}
use Rattle.words.proofs.Members.{In}
use Rattle.words.proofs.Tests.{by_test}
use Rattle.trays.specs.Limits.{max_slips}
use Rattle.greedy.specs.Joins.{Join, right_of, left_of}
use Rattle.greedy.specs.Legends.{Piece, piece, overlap_after, chain_from, chain_at, pieces}
use Rattle.legend_chains.specs.Chains.{chain_by, chain_of, pieces_by}

module _ (js : List Join) (left right overs : List ℕ)
    (left_is : (i : ℕ) → i < max_slips → get_or left i 0 ≡ left_of (suc i) js)
    (right_is : (i : ℕ) → i < max_slips → get_or right i 0 ≡ right_of (suc i) js)
    (overlap-is : (i : ℕ) → i < max_slips → get_or overs i 0 ≡ overlap_after (suc i) js)
    (small : (i : ℕ) → right_of i js ≤ max_slips) where
  chain_by_lem : (n i o : ℕ) → i ≤ max_slips → chain_by right overs n i o ≡ chain_from n js i o
  chain_by_lem zero i o h = refl
  chain_by_lem (suc n) zero o h = refl
  chain_by_lem (suc n) (suc i) o h =
      rw (eqb-suc-zero i, chain_from, right_is i h, overlap-is i h)
      (ap (λ (l : List Piece). piece (suc i) o ∷ l) (chain_by_lem n (right_of (suc i) js) (overlap_after (suc i) js) (small (suc i))))

  chain_of_lem : (i : ℕ) → 1 ≤ i → i ≤ max_slips → chain_of left right overs (suc (length js)) i ≡ chain_at js i
  chain_of_lem zero p h = absurd (omega arith)
  chain_of_lem (suc i) p h =
      let e : get_or left (suc i - 1) 0 ≡ left_of (suc i) js = rw sub-one (left_is i h) in
      by_test (eqb (left_of (suc i) js) 0)
      (λ t.
      let u : eqb (get_or left (suc i - 1) 0) 0 ≡ true = rw e t in
      rw (u, chain_of, t, chain_at) (chain_by_lem (suc (length js)) (suc i) 0 h))
      (λ t.
      let u : eqb (get_or left (suc i - 1) 0) 0 ≡ false = rw e t in
      rw (u, chain_of, t, chain_at))

  pub pieces-by : (K : List ℕ) → ((i : ℕ) → In i K → (1 ≤ i) × (i ≤ max_slips)) → pieces_by left right overs (suc (length js)) K ≡ pieces js K
  pieces-by [] real = refl
  pieces-by (i ∷ K) real =
      let r = real i (Memᴰ.head refl) in
      ap₂ ◌++◌ (chain_of_lem i r.0 r.1) (pieces-by K (λ k h. real k (Memᴰ.tail h)))
