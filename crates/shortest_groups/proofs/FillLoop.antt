-- The table of groups, filled by counts of places, from all k places down to one.
--   try_few, try_ready, try_done == one group: what counting its places and filling its row ask; its row filled
--   count_start, groups_start    == before the first group of a count, and of all
use mathlib.Core.Path.{◌≡◌, refl, sym, subst, ◌∙◌}
use mathlib.Core.List.{List}
use Prim.Native.Nat.{ℕ, suc, ◌+◌, ◌*◌, ◌^◌, ◌<◌}
use native.Mathlib.Omega.{arith}
use lib.Count.{ones}
use lib.ListN.{take}
use lib.Pow.{pow_mono}
use Rattle.trays.specs.Limits.{max_shortest}
use Rattle.shortest_groups.specs.Groups.{pair_cells, pairs_of, Paired}
use Rattle.shortest_groups.specs.Steps.NextPlace.{cell_of}
use Rattle.shortest_groups.specs.Steps.Working.{Worked, Begun, Filling, Ready, Storing}
use Rattle.shortest_groups.proofs.Pairs.{pairs_kept, pairs_same}
use Rattle.shortest_groups.proofs.Worked.{worked_start, worked_group, worked_right}

-- one group
pub try_few : {w : List ℕ} {k n g : ℕ} → Begun w k n g × (g < 2 ^ k) → g < 2 ^ max_shortest
try_few B = omega (arith, B.1, pow_mono B.0.paired.few)

module _ (w : List ℕ) (k n g m : ℕ) (B : Begun w k n g × (g < 2 ^ k)) (e : m ≡ ones g) where
  module _ (z : m ≡ n) where
    pub try_ready : Ready w k g
    try_ready =
        record {
          paired = B.0.paired;
          below = B.1;
          behind = worked_right (pairs_of w) k (cell_of w) n g g B.0.worked B.1 (omega arith);
        }

    pub try_done : (w' : List ℕ) → Storing w k g k w' → Filling w k n (suc g) w'
    try_done w' s =
        let pairs : take pair_cells w' ≡ take pair_cells w = pairs_kept s.only (λ p l c. omega arith) in
        let before : Worked (pairs_of w') k (cell_of w) n g =
        subst (λ u. Worked u k (cell_of w) n g) (sym (pairs_same w w' pairs)) B.0.worked in
        record {
          size = s.only.same;
          pairs = pairs;
          begun =
              record {
                paired = s.ready.paired;
                worked =
                    worked_group (pairs_of w') k (cell_of w) n g (cell_of w') (sym e ∙ z) before
                    (λ h a ne l.
                    s.only.kept (pair_cells + (max_shortest * h + a))
                    (λ c. ne (omega (arith, c.from, c.below, s.ready.paired.few))))
                    s.done;
              };
        }

-- the groups of one count
pub count_start : (w : List ℕ) (k n : ℕ) → Begun w k n 0 → Filling w k n 0 w
count_start w k n b = record { size = refl; pairs = refl; begun = b }

-- all groups
pub groups_start : (w : List ℕ) (k : ℕ) → Paired w k → Filling w k k 0 w
groups_start w k p = count_start w k k (record { paired = p; worked = worked_start (pairs_of w) k (cell_of w) })
