-- Joins in the work area, `join_cells` cells each.
--   joins_length   == k joins are k
--   joins_more     == one join more is the last
--   joins_same     == the same cells have the same joins
--   join-put       == three stores behind the first joins
use mathlib.Core.Path.{◌≡◌, refl, ap, ap₂, ◌∙◌}
use mathlib.Core.List.{List, [], ◌∷◌, ◌++◌, map, map-append}
use Prim.Native.Nat.{ℕ, zero, suc, ◌+◌, ◌*◌, ◌≤◌, ◌<◌}
use native.Mathlib.Numerals.{add-one}
use native.Mathlib.Omega.{arith}
use lib.ListN.{length}
use Rattle.words.proofs.Runs.{up_from_more}
use Rattle.words.specs.Lists.{up_from}
use Rattle.tables.specs.Tables.{Put}
use Rattle.tables.proofs.Tables.{only-refl, cells-put, put-here, put_other}
use Rattle.answers.specs.Composing.{join_cells}
use Rattle.layout.specs.Layout.{JOINS}
use Rattle.layout.specs.Tables.{cell}
use Rattle.layout.specs.Staging.{join_in, joins_in}
use Rattle.walk_offer.specs.Steps.Offers.{CanJoin, JoinPut}

pub joins_length : (w : List ℕ) (k : ℕ) → length (joins_in w k) ≡ k
joins_length w k = count 0 k
  where
    count : (i n : ℕ) → length (map (join_in w) (up_from i n)) ≡ n
    count i zero = refl
    count i (suc n) = ap suc (count (suc i) n)

joins_more : (w : List ℕ) (k : ℕ) → joins_in w (suc k) ≡ joins_in w k ++ (join_in w k ∷ [])
joins_more w k =
    let e : 0 + k ≡ k = omega arith in
    ap (map (join_in w)) (up_from_more 0 k) ∙ map-append (join_in w) (up_from 0 k) ((0 + k) ∷ []) ∙ rw e

pub joins_same : (w w' : List ℕ) (k : ℕ) → ((p : ℕ) → p < join_cells * k → cell w' JOINS p ≡ cell w JOINS p) → joins_in w' k ≡ joins_in w k
joins_same w w' k h = at 0 k (omega arith)
  where
    at : (i n : ℕ) → i + n ≤ k → map (join_in w') (up_from i n) ≡ map (join_in w) (up_from i n)
    at i zero l = refl
    at i (suc n) l =
        ap₂ ◌∷◌
        (rw (h (join_cells * i) (omega arith), h (join_cells * i + 1) (omega arith), h (join_cells * i + 2) (omega arith)))
        (at (suc i) n (omega arith))

module _ (w : List ℕ) (count l r d : ℕ) (F : CanJoin w count l r d) where
  pub join-put : (a b w' : List ℕ) → Put w JOINS (join_cells * count) l a → Put a JOINS (join_cells * count + 1) r b → Put b JOINS (join_cells * count + 2) d w'
      → JoinPut w count l r d w' (count + 1)
  join-put a b w' p q o =
      let ha : JOINS + (join_cells * count) < length w = omega (arith, F.room, F.few) in
      let hb : JOINS + (join_cells * count + 1) < length a = omega (arith, p.same, F.room, F.few) in
      let hc : JOINS + (join_cells * count + 2) < length b = omega (arith, q.same, p.same, F.room, F.few) in
      let x : cell w' JOINS (join_cells * count) ≡ l =
      put_other o (join_cells * count) (λ e. omega arith) ∙ put_other q (join_cells * count) (λ e. omega arith) ∙ put-here p ha in
      let y : cell w' JOINS (join_cells * count + 1) ≡ r = put_other o (join_cells * count + 1) (λ e. omega arith) ∙ put-here q hb in
      let z : cell w' JOINS (join_cells * count + 2) ≡ d = put-here o hc in
      let old : (i : ℕ) → i < join_cells * count → cell w' JOINS i ≡ cell w JOINS i =
      λ i h. put_other o i (λ e. omega arith) ∙ put_other q i (λ e. omega arith) ∙ put_other p i (λ e. omega arith) in
      let f = F.few in
      record {
        joins_are = rw (add-one count) (joins_more w' count ∙ rw (x, y, z, joins_same w w' count old));
        only = cells-put (cells-put (cells-put only-refl p (omega arith)) q (omega arith)) o (omega arith);
      }
