-- The table of the children of the first nodes by letters, filled row by row.
--   FillingRow .. w₀ w v c      == the cells of v for the letters below c are right, and only cells of its row have changed
--   FillingNear .. w₀ w v       == the rows of the nodes below v are right, and only cells of NEAR have changed
-- A row is 45 cells, so the cells of different rows differ.
use mathlib.Core.Path.{◌≡◌, ap}
use mathlib.Core.List.{List}
use Prim.Native.Nat.{ℕ, min, ◌+◌, ◌-◌, ◌*◌, ◌≤◌, ◌<◌}
use native.Mathlib.Decide.{ℕ_discrete}
use native.Mathlib.Omega.{arith}
use lib.ListN.{length}
use Rattle.tables.specs.Tables.{Cells, Only, Put, Room}
use Rattle.tables.proofs.Tables.{only-refl, only_trans, only_wider, only-put, put-here, put_other}
use Rattle.matching.specs.Steps.Nodes.{nodes_of}
use Rattle.layout.specs.Layout.{NEAR, near_nodes, near_letters, first_sign, last_sign}
use Rattle.layout.specs.Tables.{cell, Child}
use Rattle.layout.specs.Numbered.{patterns_in, Branched, SameBelow}
use Rattle.layout.proofs.Frames.{only_kept, patterns-kept, branched_kept}
use Rattle.trie_children.specs.Children.{CanFill, RowFilled, NearFilled}

-- one row
pub record FillingRow (s es : List ℕ) (n nodes : ℕ) (w₀ w : List ℕ) (v c : ℕ) : Type 0 where
  pub can : CanFill s es n nodes w₀ v
  pub only : Only (Cells (NEAR + near_letters * v) near_letters) w₀ w
  pub from : first_sign ≤ c
  pub done : (a : ℕ) → first_sign ≤ a → a < c → Child (patterns_in s es n w₀) v a (cell w NEAR (near_letters * v + (a - first_sign)))

pub row_start : {s es : List ℕ} {n nodes : ℕ} {w : List ℕ} {v : ℕ} → CanFill s es n nodes w v → FillingRow s es n nodes w w v first_sign
row_start C = record { can = C; only = only-refl; from = omega arith; done = λ a h l. absurd (omega arith) }

module _ {s es : List ℕ} {n nodes : ℕ} {w₀ w : List ℕ} {v c : ℕ} (F : FillingRow s es n nodes w₀ w v c) where
  row_kept : SameBelow NEAR w₀ w
  row_kept = only_kept NEAR F.only (λ p q. omega (arith, q.from))

  row-patterns : patterns_in s es n w ≡ patterns_in s es n w₀
  row-patterns = patterns-kept F.can.branched.numbered (omega arith) row_kept

  pub row_branched : Branched s es n nodes w
  row_branched = branched_kept row_kept F.can.branched

  module _ {u k : ℕ} (h : c ≤ last_sign) (i : Child (patterns_in s es n w) v c u) (e : k ≡ near_letters * v + (c - first_sign)) where
    pub row_room : Room w NEAR k u
    row_room =
        let N = F.can.branched.numbered in
        let f = N.few_nodes in
        record {
          within = omega (arith, F.only.same, N.room, F.can.close);
          small = elim (ℕ_discrete u 0) [
            | yes z ↦ omega arith
            | no z ↦ omega (arith, (i.node z).inside, ap (λ q. length (nodes_of q)) row-patterns, N.all_nodes)
          ];
        }

    pub row_put : {w' : List ℕ} (c' : ℕ) → Put w NEAR k u w' → c' ≡ c + 1 → FillingRow s es n nodes w₀ w' v c'
    row_put {w'} c' p q =
        record {
          can = F.can;
          only = only-put F.only p (record { from = omega (arith, F.from); below = omega (arith, F.from) });
          from = omega (arith, F.from);
          done = λ a b l. elim (ℕ_discrete a c) [
            | yes z ↦ rw (z, ← e, put-here p row_room.within) (rw row-patterns at i)
            | no ne ↦ rw (put_other p (near_letters * v + (a - first_sign)) (λ y. ne (omega (arith, F.from)))) (F.done a b (omega arith))
          ];
        }

-- all rows
pub record FillingNear (s es : List ℕ) (n nodes : ℕ) (w₀ w : List ℕ) (v : ℕ) : Type 0 where
  pub branched : Branched s es n nodes w₀
  pub only : Only (Cells NEAR (near_nodes * near_letters)) w₀ w
  pub done : (x c : ℕ) → x < v → x ≤ nodes → first_sign ≤ c → c ≤ last_sign → Child (patterns_in s es n w₀) x c (cell w NEAR (near_letters * x + (c - first_sign)))

module _ {s es : List ℕ} {n nodes : ℕ} {w₀ w : List ℕ} {v : ℕ} (F : FillingNear s es n nodes w₀ w v) where
  near_kept : SameBelow NEAR w₀ w
  near_kept = only_kept NEAR F.only (λ p q. q.from)

  near_patterns : patterns_in s es n w ≡ patterns_in s es n w₀
  near_patterns = patterns-kept F.branched.numbered (omega arith) near_kept

  pub near_can : v < near_nodes → v ≤ nodes → CanFill s es n nodes w v
  near_can h l = record { branched = branched_kept near_kept F.branched; node = l; close = h }

  pub near_more : {w' : List ℕ} (v' : ℕ) → v < near_nodes → RowFilled s es n nodes v w w' → v' ≡ v + 1 → FillingNear s es n nodes w₀ w' v'
  near_more {w'} v' h r e =
      record {
        branched = F.branched;
        only = only_trans F.only (only_wider r.only (λ p q. record { from = omega (arith, q.from); below = omega (arith, q.below) }));
        done = λ x c l k a b. elim (ℕ_discrete x v) [
          | yes z ↦ rw z (rw near_patterns at (r.row c a b))
          | no ne ↦
              let q = r.only.kept (NEAR + (near_letters * x + (c - first_sign))) (λ y. ne (omega (arith, y.from, y.below))) in
              rw q (F.done x c (omega arith) k a b)
        ];
      }

  filled : ((x : ℕ) → x < near_nodes → x ≤ nodes → x < v) → NearFilled s es n nodes w₀ w
  filled h =
      record {
        known = record {
          branched = branched_kept near_kept F.branched;
          near = rw near_patterns (λ x c l i a b.
              let k : x ≤ nodes = omega (arith, i, F.branched.numbered.all_nodes) in
              F.done x c (h x l k) k a b);
        };
        only = F.only;
      }

  pub near_all : min near_nodes (nodes + 1) ≤ v → NearFilled s es n nodes w₀ w
  near_all h = filled (λ x l k. omega arith)
