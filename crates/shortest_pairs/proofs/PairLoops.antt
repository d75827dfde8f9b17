-- The table of pairs before the first row.
use mathlib.Core.Path.{◌≡◌, refl, sym, ◌∙◌}
use mathlib.Core.Logic.{◌⊎◌, inl, inr}
use mathlib.Core.List.{List}
use Prim.Native.Nat.{ℕ, ◌+◌, ◌*◌, ◌<◌}
use native.Mathlib.Nat.{zero-add}
use native.Mathlib.Omega.{arith}
use lib.ListN.{get_or, replicate}
use Rattle.tables.specs.Tables.{Filled}
use Rattle.tables.proofs.Tables.{filled_at, replicate_at}
use Rattle.trays.specs.Limits.{max_shortest}
use Rattle.shortest_groups.specs.Groups.{pair_cells}
use Rattle.shortest_pairs.specs.Pairs.{PairsAsk}
use Rattle.shortest_pairs.specs.Steps.Pairing.{PairedTo}

-- w₁ is the table when the loop begins
module _ (least : ℕ) (s es xs : List ℕ) (k : ℕ) (w₀ : List ℕ) (A : PairsAsk s es xs k w₀) (n : ℕ) (w₁ : List ℕ) (F : Filled 0 n (replicate n 0) w₀ w₁) where
  pub rows_none : n ≡ pair_cells → PairedTo least s es xs k 0 0 w₁ w₁
  rows_none e =
      record {
        same = refl;
        pairs = λ x y q u. absurd (none x y u);
        start = λ y q. zeros (max_shortest * max_shortest + y) (omega (arith, A.few));
        small = λ i q. omega (arith, zeros i q);
      }
    where
      none : (x y : ℕ) → (x < 0) ⊎ ((x ≡ 0) × (y < 0)) → ⊥
      none x y (inl u) = omega arith
      none x y (inr u) = omega (arith, u.1)

      zeros : (i : ℕ) → i < pair_cells → get_or w₁ i 0 ≡ 0
      zeros i q = (rw zero-add at (filled_at i F (omega arith))) ∙ sym (replicate_at n i 0 (omega arith))
