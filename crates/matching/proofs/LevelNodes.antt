-- The nodes by levels are the numbered nodes of the patterns, and longest first those of the walk.
--   Sorted ps zs D   == zs has the patterns ps in dictionary order, each of at most D letters
-- A string begins a pattern exactly if it begins a string of zs, and then it is found at its length. What is shown of `levels_down` is what
-- the walk asks of the strings that it goes over (`Nodes` of the crate greedy; `higher` is its `sooner`).
use mathlib.Core.Path.{◌≡◌, refl, sym}
use mathlib.Core.Bool.{true}
use mathlib.Core.List.Memᴰ
use mathlib.Core.List.{List, [], ◌∷◌, map}
use Prim.Native.Nat.{ℕ, zero, suc, ◌≤◌}
use native.Mathlib.Omega.{arith}
use lib.ListN.{length, get_or}
use Rattle.words.specs.Words.{begins}
use Rattle.words.proofs.Members.{In, Asc, Less, Sorts, in_any, any_in}
use Rattle.words.proofs.Strings.{begins-length}
use Rattle.words.proofs.Picks.{get_or_in}
use Rattle.trays.specs.Slips.{slip}
use Rattle.matching.specs.Moves.{begins_some}
use Rattle.matching.proofs.Levels.{NotAfter}
use Rattle.matching.proofs.Numbering.{higher, levels_up, levels_down, Prefix, in_levels_up, levels_up_in}
use Rattle.matching.proofs.Numbering.{in_levels_down, levels_down_in, nodes_asc, levels_down_asc}
use Rattle.matching.proofs.Ranking.{ranks, ranks_asc}
use Rattle.matching.proofs.Numbered.{str, Num, Numbered}

pub record Sorted (ps zs : List (List ℕ)) (D : ℕ) : Type 0 where
  pub asc : Asc NotAfter zs
  pub into : (x : List ℕ) → In x ps → In x zs
  pub back : (x : List ℕ) → In x zs → In x ps
  pub fits : (x : List ℕ) → In x zs → length x ≤ D

module _ (ps zs : List (List ℕ)) (D : ℕ) (S : Sorted ps zs D) where
  prefix_some : (w : List ℕ) → Prefix D zs w → begins_some w ps ≡ true
  prefix_some w p = let (x, i, b) = p.2 in in_any (begins w) (S.back x i) b

  some_prefix : (w : List ℕ) → 1 ≤ length w → begins_some w ps ≡ true → Prefix D zs w
  some_prefix w h b =
      let (x, i, e) = any_in (begins w) ps b in
      let m = S.into x i in
      (h, omega (arith, begins-length w x e, S.fits x m), (x, m, e))

  pub levels_numbered : Numbered ps ([] ∷ levels_up D zs)
  levels_numbered =
      record {
        root = refl;
        asc = nodes_asc zs S.asc D;
        node = λ v n. node v n;
        all = λ w h b. Memᴰ.tail (levels_up_in zs D w (some_prefix w h b));
      }
    where
      node : (v : ℕ) → Num ([] ∷ levels_up D zs) v
          → (1 ≤ length (str ([] ∷ levels_up D zs) v)) × (begins_some (str ([] ∷ levels_up D zs) v) ps ≡ true)
      node zero n = absurd (omega arith)
      node (suc v) n =
          let p = in_levels_up zs D (get_or (levels_up D zs) v []) (get_or_in [] (levels_up D zs) v (omega arith)) in
          (p.0, prefix_some (get_or (levels_up D zs) v []) p)

  -- longest first: ascending by the order of visits, without the empty string, with every prefix
  pub down_asc : Asc (Less higher) (levels_down D zs)
  down_asc = levels_down_asc zs S.asc D

  pub in_down : (w : List ℕ) → In w (levels_down D zs) → (1 ≤ length w) × (begins_some w ps ≡ true)
  in_down w m = let p = in_levels_down zs D w m in (p.0, prefix_some w p)

  pub down_in : (w : List ℕ) → 1 ≤ length w → begins_some w ps ≡ true → In w (levels_down D zs)
  down_in w h b = levels_down_in zs D w (some_prefix w h b)

-- the slips of the members, in the order is
module _ (ss : List (List ℕ)) (M is : List ℕ) (S : Sorts (Less (ranks ss)) M is) where
  pub members_sorted : (D : ℕ) → ((k : ℕ) → In k M → length (slip ss k) ≤ D) → Sorted (map (slip ss) M) (map (slip ss) is) D
  members_sorted D fits =
      record {
        asc = ranks_asc ss is S.asc;
        into = λ x m. let (k, i, e) = Memᴰ.of_map (slip ss) M m in Memᴰ.cast (sym e) (Memᴰ.map (slip ss) (S.into k i));
        back = λ x m. let (k, i, e) = Memᴰ.of_map (slip ss) is m in Memᴰ.cast (sym e) (Memᴰ.map (slip ss) (S.back k i));
        fits = λ x m. let (k, i, e) = Memᴰ.of_map (slip ss) is m in rw (← e) (fits k (S.back k i));
      }
