-- Failure links, filled in the order of the nodes.
--   link-..                 == the link of one node, from those of the lower ones
--   FillingFails .. w₀ w v  == the links of the nodes below v are right, and only cells of FAIL have changed
-- The link of a node of one letter is the empty string. The link of any other node is one step on its letter from its parent's link, which has
-- a lower number, as has every node that this step drops to.
use mathlib.Core.Path.{◌≡◌, sym, ap, ◌∙◌}
use mathlib.Core.List.{List}
use Prim.Native.Nat.{ℕ, suc, ◌+◌, ◌≤◌, ◌<◌}
use native.Mathlib.Decide.{ℕ_discrete}
use native.Mathlib.Omega.{arith}
use lib.ListN.{length}
use Rattle.tables.specs.Tables.{Got, Cells, Only, Put, Room}
use Rattle.tables.proofs.Tables.{cells-put, put-here, put_other}
use Rattle.matching.specs.Steps.Nodes.{nodes_of, string, IsNode, Num}
use Rattle.matching.proofs.States.{fail, step_state}
use Rattle.matching.proofs.NodeLaws.{nodes_numbered, is_root, node_fails}
use Rattle.matching.proofs.Paths.{fail_root, fail_from}
use Rattle.layout.specs.Layout.{max_nodes, NEAR, FAIL}
use Rattle.layout.specs.Tables.{cell, FailUpTo}
use Rattle.layout.specs.Numbered.{patterns_in, SameBelow}
use Rattle.layout.proofs.Frames.{only_kept, kept-lower, patterns-kept, branched_kept, near_kept}
use Rattle.trie_children.specs.Children.{parent_of, letter_of, Near}
use Rattle.trie_links.specs.Links.{StepIs, LinkIs, CanStep, CanLink, FailsFilled}
use Rattle.trie_children.proofs.Parents.{parents_tree, parent_below}

module _ {s es : List ℕ} {n nodes : ℕ} {w : List ℕ} {v p : ℕ} (C : CanLink s es n nodes w v) (e : p ≡ parent_of w v) where
  abbrev ps : List (List ℕ)
  ps = patterns_in s es n w

  inside : v < length (nodes_of ps)
  inside = omega (arith, C.node, C.branched.numbered.all_nodes)

  pub link_root : p ≡ 0 → LinkIs ps v 0
  link_root z =
      rw (fail_root ps (nodes_of ps) (nodes_numbered ps) (parent_of w) (letter_of s w) (parents_tree C.branched.numbered) v (C.some, inside)
      (sym e ∙ z)) (is_root ps)

  above : p < v
  above = rw e (parent_below C.branched.numbered (record { some = C.some; inside = inside }))

  pub link_room : FAIL + p < length w
  link_room = omega (arith, above, C.node, C.branched.numbered.few_nodes, C.branched.numbered.room)

  module _ {f : ℕ} (z : p ≡ 0 → ⊥) (g : Got w FAIL p f) where
    parent : Num ps p
    parent = record { some = omega arith; inside = omega (arith, above, inside) }

    from : IsNode ps f (fail ps (string ps p))
    from = rw g.is (C.links p above p parent (omega arith))

    pub link_can : CanStep s es n nodes w f
    link_can =
        let l = node_fails ps p parent from in
        record {
          branched = C.branched;
          near = C.near;
          node = omega (arith, above, C.node);
          links = C.links f (omega (arith, above));
        }

    pub link_step : {c r d : ℕ} → c ≡ letter_of s w v → StepIs ps f c r d → LinkIs ps v r
    link_step {c} q i =
        let t = parents_tree C.branched.numbered in
        let x = string ps f in
        record {
          inside = i.state.inside;
          is = i.state.is ∙ step_state ps (suc (length x)) x c 0 (omega arith)
              ∙ sym (rw q (fail_from ps (nodes_of ps) (nodes_numbered ps) (parent_of w) (letter_of s w) t v f (C.some, inside) (rw e at parent.some)
              (rw e at from.is)));
        }

pub record FillingFails (s es : List ℕ) (n nodes : ℕ) (w₀ w : List ℕ) (v : ℕ) : Type 0 where
  pub known : Near s es n nodes w₀
  pub only : Only (Cells FAIL max_nodes) w₀ w
  pub some : 1 ≤ v
  pub upto : v ≤ nodes + 1
  pub links : (k : ℕ) → k < v → FailUpTo (patterns_in s es n w₀) k (cell w FAIL)

module _ {s es : List ℕ} {n nodes : ℕ} {w₀ w : List ℕ} {v : ℕ} (F : FillingFails s es n nodes w₀ w v) where
  kept : SameBelow FAIL w₀ w
  kept = only_kept FAIL F.only (λ p q. q.from)

  same-patterns : patterns_in s es n w ≡ patterns_in s es n w₀
  same-patterns = patterns-kept F.known.branched.numbered (omega arith) kept

  known : Near s es n nodes w
  known =
      let B = F.known.branched in
      record { branched = branched_kept (kept-lower NEAR (omega arith) kept) B; near = near_kept kept B.numbered F.known.near }

  pub fails_can : v ≤ nodes → CanLink s es n nodes w v
  fails_can h =
      record { branched = known.branched; near = known.near; some = F.some; node = h; links = rw same-patterns F.links }

  module _ {r : ℕ} (h : v ≤ nodes) (i : LinkIs (patterns_in s es n w) v r) where
    pub fails_room : Room w FAIL v r
    fails_room =
        let N = F.known.branched.numbered in
        let f = N.few_nodes in
        record {
          within = omega (arith, F.only.same, N.room);
          small = omega (arith, i.inside, ap (λ q. length (nodes_of q)) same-patterns, N.all_nodes);
        }

    pub fails_put : {w' : List ℕ} (v' : ℕ) → Put w FAIL v r w' → v' ≡ v + 1 → FillingFails s es n nodes w₀ w' v'
    fails_put v' p e =
        let here : FAIL + v < length w = fails_room.within in
        record {
          known = F.known;
          only = cells-put F.only p (omega (arith, F.known.branched.numbered.few_nodes));
          some = omega arith;
          upto = omega arith;
          links = λ k l x m q. elim (ℕ_discrete x v) [
            | yes z ↦ rw (z, put-here p here) (rw same-patterns at i)
            | no ne ↦ rw (put_other p x ne) (F.links x (omega arith) x m (omega arith))
          ];
        }

  pub fails_all : nodes < v → FailsFilled s es n nodes w₀ w
  fails_all h =
      record {
        automaton = record {
          branched = known.branched;
          near = known.near;
          fails = rw same-patterns (λ x m. F.links x (omega (arith, m.inside, F.known.branched.numbered.all_nodes)) x m (omega arith));
        };
        only = F.only;
      }
