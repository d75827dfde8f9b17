-- A chain put behind other pieces: its first slip, then the rest in the same manner.
use mathlib.Core.Path.{◌≡◌, refl, ◌∙◌, ap}
use mathlib.Core.List.{List, [], ◌∷◌}
use Prim.Native.Nat.{ℕ, zero, suc, ◌+◌, ◌-◌, ◌*◌, ◌<◌}
use native.Mathlib.Numerals.{sub-one}
use native.Mathlib.Omega.{arith}
use lib.ListN.{length, get_or}
use Rattle.greedy.specs.Legends.{piece}
use Rattle.legend_chains.specs.Pieces.{PiecesBehind}
use Rattle.legend_chains.specs.Chains.{chain_by}
use Rattle.legend_chains.specs.Steps.Following.{ChainAsks}
use Rattle.legend_chains.proofs.Behind.{behind_none, behind_append}

chain_none : (right overs : List ℕ) (n o : ℕ) → chain_by right overs n 0 o ≡ []
chain_none right overs zero o = refl
chain_none right overs (suc n) o = refl

chain_next : (right overs : List ℕ) (n i o : ℕ) → (n ≡ 0 → ⊥) → (i ≡ 0 → ⊥)
    → chain_by right overs n i o ≡ piece i o ∷ chain_by right overs (n - 1) (get_or right (i - 1) 0) (get_or overs (i - 1) 0)
chain_next right overs zero i o turn some = absurd (turn refl)
chain_next right overs (suc n) zero o turn some = absurd (some refl)
chain_next right overs (suc n) (suc i) o turn some = rw (sub-one (suc n), sub-one (suc i))

-- The chain from slip i₀ on, as far as it is put: what putting the rest of it asks, and that with the rest it is whole.
pub record Going (right overs : List ℕ) (n₀ i₀ o₀ : ℕ) (xs₀ : List ℕ) (m₀ : ℕ) (n i o : ℕ) (xs : List ℕ) (m : ℕ) : Type 0 where
  pub asks : ChainAsks right overs n i o xs m
  pub whole :
      (zs : List ℕ) (r : ℕ) → PiecesBehind (chain_by right overs n i o) m xs zs r → PiecesBehind (chain_by right overs n₀ i₀ o₀) m₀ xs₀ zs r

pub chain_start : (right overs : List ℕ) (n i o : ℕ) (xs : List ℕ) (m : ℕ) → ChainAsks right overs n i o xs m → Going right overs n i o xs m n i o xs m
chain_start right overs n i o xs m a = record { asks = a; whole = λ zs r f. f }

module _ (right overs : List ℕ) (n₀ i₀ o₀ : ℕ) (xs₀ : List ℕ) (m₀ n i o : ℕ) (xs : List ℕ) (m : ℕ)
    (G : Going right overs n₀ i₀ o₀ xs₀ m₀ n i o xs m) where
  a : ChainAsks right overs n i o xs m
  a = G.asks

  -- no turn or no slip is left
  pub chain_end : n ≡ 0 → PiecesBehind (chain_by right overs n₀ i₀ o₀) m₀ xs₀ xs m
  chain_end z = G.whole xs m (rw z (behind_none xs m))

  pub chain_stop : i ≡ 0 → PiecesBehind (chain_by right overs n₀ i₀ o₀) m₀ xs₀ xs m
  chain_stop z = G.whole xs m (rw (z, chain_none right overs n o) (behind_none xs m))

  -- the first slip is put, and then the rest
  module _ (turn : n ≡ 0 → ⊥) (some : i ≡ 0 → ⊥) where
    next : chain_by right overs n i o ≡ piece i o ∷ chain_by right overs (n - 1) (get_or right (i - 1) 0) (get_or overs (i - 1) 0)
    next = chain_next right overs n i o turn some

    pub chain_cells : 2 * m + 1 < length xs
    chain_cells = omega (arith, ap length next, a.room, a.cells)

    pub chain_more :
        (ys : List ℕ) (i' o' : ℕ) → PiecesBehind (piece i o ∷ []) m xs ys (m + 1) → i' ≡ get_or right (i - 1) 0 → o' ≡ get_or overs (i - 1) 0 → o' < 65536
        → Going right overs n₀ i₀ o₀ xs₀ m₀ (n - 1) i' o' ys (m + 1)
    chain_more ys i' o' p r q l =
        let rest : chain_by right overs n i o ≡ piece i o ∷ chain_by right overs (n - 1) i' o' = next ∙ rw (r, q) in
        record {
          asks = record {
            rights = a.rights;
            overlaps = a.overlaps;
            right_small = a.right_small;
            small = rw r (a.right_small (i - 1) (omega (arith, a.small)));
            overlap_small = l;
            cells = omega (arith, a.cells, p.same);
            room = omega (arith, a.room, ap length rest);
          };
          whole =
              λ zs k g.
              G.whole zs k
              (rw rest (behind_append (piece i o ∷ []) (chain_by right overs (n - 1) i' o') m (m + 1) k xs ys zs p g));
        }
