-- MARK: the nodes that are some node's failure link.
--   Marking .. w v   == the links of the nodes below v are marked, and no other node is
--   marking-..       == none, one more, all
use mathlib.Core.Path.{◌≡◌, sym, ap, ◌∙◌}
use mathlib.Core.List.{List}
use Prim.Native.Nat.{ℕ, ◌+◌, ◌≤◌, ◌<◌}
use native.Mathlib.Decide.{ℕ_discrete}
use native.Mathlib.Omega.{arith}
use lib.ListN.{length, replicate}
use Rattle.tables.specs.Tables.{Got, Put, Room, Filled}
use Rattle.tables.proofs.Tables.{put-here, put_other}
use Rattle.matching.specs.Steps.Nodes.{nodes_of, Num}
use Rattle.layout.specs.Layout.{FAIL, MARK}
use Rattle.layout.specs.Tables.{cell}
use Rattle.layout.specs.Numbered.{patterns_in, Numbered, SameBelow, Headed}
use Rattle.layout.proofs.Frames.{patterns-kept}
use Rattle.kept_slips.specs.Steps.Kept.{MarksFilled}
use Rattle.trie_heads.proofs.Keeping.{kept_trans, kept_filled, kept_put, cleared}
use Rattle.layout.proofs.Heads.{num_most}
use Rattle.trie_heads.proofs.MemberNodes.{node_most}
use Rattle.layout.proofs.Heads.{headed_kept}

pub record Marking (s es : List ℕ) (n nodes : ℕ) (w : List ℕ) (v : ℕ) : Type 0 where
  pub headed : Headed s es n nodes w
  pub some : 1 ≤ v
  pub upto : v ≤ nodes + 1
  pub into : (x : ℕ) → Num (patterns_in s es n w) x → x < v → cell w MARK (cell w FAIL x) ≡ 1
  pub back : (u : ℕ) → u < length (nodes_of (patterns_in s es n w)) → cell w MARK u ≡ 1 → (x : ℕ) × Num (patterns_in s es n w) x × (cell w FAIL x ≡ u)

module _ {s es : List ℕ} {n nodes : ℕ} {w : List ℕ} where
  pub marking_start : {w' : List ℕ} → Headed s es n nodes w → Filled MARK (nodes + 1) (replicate (nodes + 1) 0) w w' → Marking s es n nodes w' 1
  marking_start {w'} H f =
      let G = headed_kept (kept_filled f) H in
      let N = G.automaton.branched.numbered in
      record {
        headed = G;
        some = omega arith;
        upto = omega arith;
        into = λ x m l. absurd (omega (arith, m.some));
        back = λ u l e.
            let r : u < nodes + 1 = omega (arith, N.all_nodes) in
            absurd (omega (arith, e, cleared f r));
      }

  module _ {v : ℕ} (M : Marking s es n nodes w v) (h : v ≤ nodes) where
    abbrev N : Numbered s es n nodes w
    N = M.headed.automaton.branched.numbered

    marking_num : Num (patterns_in s es n w) v
    marking_num = record { some = M.some; inside = omega (arith, N.all_nodes) }

    module _ {u : ℕ} (g : Got w FAIL v u) where
      link_most : u ≤ nodes
      link_most = omega (arith, g.is, node_most N (M.headed.automaton.fails v marking_num))

      pub marking_can : Room w MARK u 1
      marking_can = record { within = omega (arith, link_most, N.few_nodes, N.room); small = omega arith }

      pub marking_more : {w' : List ℕ} → Put w MARK u 1 w' → (v' : ℕ) → v' ≡ v + 1 → Marking s es n nodes w' v'
      marking_more {w'} p v' e =
          let k : SameBelow MARK w w' = kept_put p in
          let f = patterns-kept N (omega arith) k in
          let same : (x : ℕ) → Num (patterns_in s es n w) x → cell w' FAIL x ≡ cell w FAIL x =
          λ x m. k.cells (FAIL + x) (omega (arith, num_most N x m, N.few_nodes)) in
          record {
            headed = headed_kept k M.headed;
            some = omega arith;
            upto = omega arith;
            into =
                rw f (λ x m l.
                rw (same x m) (elim (ℕ_discrete (cell w FAIL x) u) [
                  | yes q ↦ rw q (put-here p marking_can.within)
                  | no q ↦ put_other p (cell w FAIL x) q
                      ∙ M.into x m (elim (ℕ_discrete x v) [ yes z ↦ absurd (q (ap (cell w FAIL) z ∙ sym g.is)) | no z ↦ omega arith ])
                ]));
            back =
                rw f (λ y l q. elim (ℕ_discrete y u) [
                  | yes z ↦ (v, marking_num, same v marking_num ∙ sym g.is ∙ sym z)
                  | no z ↦ let (x, m, b) = M.back y l (sym (put_other p y z) ∙ q) in (x, m, same x m ∙ b)
                ]);
          }

  pub marking_all : {a w' : List ℕ} {v : ℕ} → Filled MARK (nodes + 1) (replicate (nodes + 1) 0) w a → SameBelow MARK a w' → Marking s es n nodes w' v →
      nodes < v → MarksFilled s es n nodes w w'
  marking_all f k M l =
      let N = M.headed.automaton.branched.numbered in
      record {
        marked =
            record {
              headed = M.headed;
              marks = record { into = λ x m. M.into x m (omega (arith, num_most N x m)); back = M.back };
            };
        below = kept_trans (kept_filled f) k;
      }
