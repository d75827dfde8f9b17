-- The table of children, filled in order.
--   First ps par v k     == k is the first node whose parent is not below v, one past the last if there is none
--   FillingKids .. v u   == the cells of the nodes below v are right, and the nodes below u have a parent below v
-- Parents ascend with their children, so the nodes with a parent below v are those below the first other one, and the children of v are
-- those from there up to the first one of v + 1.
use mathlib.Core.Path.{◌≡◌, sym, ap, ◌∙◌}
use mathlib.Core.Bool.{Bool, true, false, ◌&&◌}
use mathlib.Core.Logic.{inl, inr}
use mathlib.Core.List.{List, [], ◌∷◌, ◌++◌}
use Prim.Native.Nat.{ℕ, suc, ◌+◌, ◌≤◌, ◌<◌}
use native.Mathlib.Decide.{dec_lt, ℕ_discrete}
use native.Mathlib.Omega.{arith}
use lib.Dec.{ltb, leb}
use lib.ListN.{length}
use borrow.Author.Tests.{ltb-true, ltb-false, leb-true, leb-false}
use Rattle.words.proofs.Tests.{both, one_of}
use Rattle.tables.specs.Tables.{Cells, Only, Put}
use Rattle.tables.proofs.Tables.{cells-put, put-here, put_other}
use Rattle.matching.specs.Steps.Nodes.{nodes_of, string, Num}
use Rattle.layout.specs.Layout.{max_nodes, KID}
use Rattle.layout.specs.Tables.{cell, KidIs}
use Rattle.layout.specs.Numbered.{patterns_in, Numbered, SameBelow}
use Rattle.layout.proofs.Frames.{only_kept, patterns-kept, numbered-kept}
use Rattle.trie_children.specs.Children.{parent_of, letter_of, ParentCells, KidsFilled}
use Rattle.trie_children.proofs.Parents.{parents_tree, parents_ascend, child_parent, parent_kept, placed}

pub record First (ps : List (List ℕ)) (par : ℕ → ℕ) (v k : ℕ) : Type 0 where
  pub some : 1 ≤ k
  pub inside : k ≤ length (nodes_of ps)
  pub below : (x : ℕ) → Num ps x → x < k → par x < v
  pub from : (x : ℕ) → Num ps x → k ≤ x → v ≤ par x

module _ {s es : List ℕ} {n nodes : ℕ} {w : List ℕ} (N : Numbered s es n nodes w) where
  abbrev qs : List (List ℕ)
  qs = patterns_in s es n w

  -- a node behind one whose parent is not below v
  parent_from : (v u x : ℕ) → Num qs u → v ≤ parent_of w u → Num qs x → u ≤ x → v ≤ parent_of w x
  parent_from v u x m h k l =
      elim (ℕ_discrete u x) [
        | yes e ↦ rw e at h
        | no ne ↦ elim (parents_ascend N m k (omega arith)) [ inl q ↦ omega arith | inr q ↦ omega (arith, q.0) ]
      ]

  first_kids : (kid : ℕ → ℕ) → ((v : ℕ) → v ≤ length (nodes_of qs) → First qs (parent_of w) v (kid v)) → KidIs qs kid
  first_kids kid f =
      record {
        some = λ v h. ((f v h).some, (f v h).inside);
        into = λ v u c h m e.
            let p = (child_parent N v c m h e).0 in (
              elim (dec_lt u (kid v)) [ yes l ↦ absurd (omega (arith, (f v (omega arith)).below u m l)) | no l ↦ omega arith ],
              elim (dec_lt u (kid (suc v))) [ yes l ↦ l | no l ↦ absurd (omega (arith, (f (suc v) h).from u m (omega arith))) ],
            );
        back = λ v u h m a b.
            let p : parent_of w u ≡ v = omega (arith, (f v (omega arith)).from u m a, (f (suc v) h).below u m b) in
            (letter_of s w u, (parents_tree N).par_is u (m.some, m.inside) ∙ ap (λ y. string qs y ++ (letter_of s w u ∷ [])) p);
      }

pub record FillingKids (s es : List ℕ) (n nodes : ℕ) (w₀ w : List ℕ) (v u : ℕ) : Type 0 where
  pub numbered : Numbered s es n nodes w₀
  pub only : Only (Cells KID (max_nodes + 1)) w₀ w
  pub upto : v ≤ nodes + 2
  pub some : 1 ≤ u
  pub inside : u ≤ nodes + 1
  pub passed : (x : ℕ) → Num (patterns_in s es n w₀) x → x < u → parent_of w₀ x < v
  pub done : (y : ℕ) → y < v → First (patterns_in s es n w₀) (parent_of w₀) y (cell w KID y)

module _ {s es : List ℕ} {n nodes : ℕ} {w₀ w : List ℕ} {v u : ℕ} (F : FillingKids s es n nodes w₀ w v u) where
  abbrev ps : List (List ℕ)
  ps = patterns_in s es n w₀

  kids_kept : SameBelow KID w₀ w
  kids_kept = only_kept KID F.only (λ p q. q.from)

  pub kids_placed : u ≤ nodes → ParentCells w u
  kids_placed h = placed (numbered-kept kids_kept F.numbered) F.some h

  -- node u has a parent below v
  pub kids_pass : {b : Bool} (u' : ℕ) → b ≡ true → b ≡ leb u nodes && ltb (parent_of w u) v → u' ≡ u + 1 → FillingKids s es n nodes w₀ w v u'
  kids_pass u' t e q =
      let r = both (leb u nodes) (ltb (parent_of w u) v) (sym e ∙ t) in
      let h : u ≤ nodes = leb-true u nodes r.0 in
      let l : parent_of w₀ u < v = rw (parent_kept F.numbered w u kids_kept F.some h) at (ltb-true (parent_of w u) v r.1) in
      record {
        numbered = F.numbered;
        only = F.only;
        upto = F.upto;
        some = omega arith;
        inside = omega arith;
        passed = λ x m k. elim (ℕ_discrete x u) [ yes z ↦ rw z l | no ne ↦ F.passed x m (omega arith) ];
        done = F.done;
      }

  -- it has none, so it is the first
  kids_first : {b : Bool} → b ≡ false → b ≡ leb u nodes && ltb (parent_of w u) v → First ps (parent_of w₀) v u
  kids_first t e =
      record {
        some = F.some;
        inside = omega (arith, F.inside, F.numbered.all_nodes);
        below = F.passed;
        from = λ x m k.
            let h : u ≤ nodes = omega (arith, m.inside, F.numbered.all_nodes) in
            let i : Num ps u = record { some = F.some; inside = omega (arith, F.numbered.all_nodes) } in
            let l : v ≤ parent_of w u =
            elim (one_of (leb u nodes) (ltb (parent_of w u) v) (sym e ∙ t)) [
              | inl q ↦ absurd (omega (arith, leb-false u nodes q))
              | inr q ↦ ltb-false (parent_of w u) v q
            ] in
            parent_from F.numbered v u x i
            (rw (parent_kept F.numbered w u kids_kept F.some h) at l) m k;
      }

  pub kids_put : {b : Bool} {w' : List ℕ} (v' : ℕ) → v ≤ nodes + 1 → b ≡ false → b ≡ leb u nodes && ltb (parent_of w u) v → Put w KID v u w' → v' ≡ v + 1
      → FillingKids s es n nodes w₀ w' v' u
  kids_put {w' = w'} v' h t e p q =
      let f = F.numbered.few_nodes in
      let here : KID + v < length w = omega (arith, F.only.same, F.numbered.room) in
      record {
        numbered = F.numbered;
        only = cells-put F.only p (omega arith);
        upto = omega arith;
        some = F.some;
        inside = F.inside;
        passed = λ x m k. omega (arith, F.passed x m k);
        done = λ y k. elim (ℕ_discrete y v) [
          | yes z ↦ rw (z, put-here p here) (kids_first t e)
          | no ne ↦ rw (put_other p y ne) (F.done y (omega arith))
        ];
      }

  pub kids_all : nodes + 1 < v → KidsFilled s es n nodes w₀ w
  kids_all h =
      let N = F.numbered in
      record {
        branched = record {
          numbered = numbered-kept kids_kept N;
          kids = rw (patterns-kept N (omega arith) kids_kept)
              (first_kids N (cell w KID) (λ y k. F.done y (omega (arith, N.all_nodes))));
        };
        only = F.only;
      }
