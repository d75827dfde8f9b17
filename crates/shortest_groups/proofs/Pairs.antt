-- The table of pairs: what it says while the table of groups is filled.
--   pairs_kept   == stores behind it leave it as it was
--   pairs_same   == so what is saved by pairs is the same
--   pairs_bound  == no more than a slip has letters
--   paired_kept  == what the search asks still holds
use mathlib.Core.Path.{◌≡◌, ap, sym, ◌∙◌}
use mathlib.Core.List.{List}
use Prim.Native.Nat.{ℕ, ◌+◌, ◌*◌, ◌≤◌, ◌<◌}
use native.Mathlib.Decide.{dec_lt}
use native.Mathlib.Omega.{arith}
use lib.ListN.{length, get_or, take, get_or-eq_default}
use lib.Seq.{get_or-take, length-take-le}
use Rattle.trays.specs.Limits.{max_slip, max_shortest}
use Rattle.tables.specs.Tables.{table, Only}
use Rattle.tables.proofs.Tables.{only-table}
use Rattle.shortest_groups.specs.Groups.{pair_cells, pairs_of, Paired}

pub pairs_kept : {P : ℕ → Type 0} {w w' : List ℕ} → Only P w w' → ((p : ℕ) → p < pair_cells → P p → ⊥) → take pair_cells w' ≡ take pair_cells w
unfolding table
pairs_kept f d = only-table 0 pair_cells f (λ i h c. d (0 + i) (omega arith) c)

pub pairs_same : (w w' : List ℕ) → take pair_cells w' ≡ take pair_cells w → pairs_of w' ≡ pairs_of w
pairs_same w w' e = let read : List ℕ → ℕ → ℕ → ℕ = λ l a b. get_or l (max_shortest * a + b) 0 in ap read e

module _ {w : List ℕ} {k : ℕ} (p : Paired w k) where
  pub pairs_bound : (a b : ℕ) → pairs_of w a b ≤ max_slip
  pairs_bound a b =
      let i = max_shortest * a + b in
      elim (dec_lt i pair_cells) [
        | yes h ↦ rw (get_or-take pair_cells w i 0 h) (p.small i h)
        | no h ↦
            let l : length (take pair_cells w) ≤ i = omega (arith, length-take-le pair_cells w (omega (arith, p.room))) in
            rw (get_or-eq_default (take pair_cells w) 0 l) (omega arith)
      ]

  pub paired_kept : (w' : List ℕ) → length w' ≡ length w → take pair_cells w' ≡ take pair_cells w → Paired w' k
  paired_kept w' l e =
      record {
        room = rw l p.room;
        few = p.few;
        small =
            λ i h.
            let same : get_or w' i 0 ≡ get_or w i 0 =
            sym (get_or-take pair_cells w' i 0 h) ∙ ap (λ (v : List ℕ). get_or v i 0) e ∙ get_or-take pair_cells w i 0 h in
            rw same (p.small i h);
      }
