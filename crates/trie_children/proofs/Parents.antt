-- A node's parent and letter, read off the cells of its place.
--   parents_tree        == the string of a node is its parent's with its letter
--   parents_ascend      == of two nodes the parents ascend, of two siblings the letters
--   child_parent        == a node whose string is that of v with the letter c has the parent v and the letter c
--   placed, lettered    == the cells that tell parent and letter are there
-- A node stands in some member as its first c + 1 letters. One letter shorter is the first c letters of that member: the empty string if c is
-- 0, which the first node of two letters tells, and else the node of the place before.
use mathlib.Core.Path.{◌≡◌, sym, ap, ◌∙◌}
use mathlib.Core.Logic.{◌⊎◌}
use mathlib.Core.List.{List, [], ◌∷◌, ◌++◌}
use Prim.Native.Nat.{ℕ, suc, ◌+◌, ◌-◌, ◌≤◌, ◌<◌}
use native.Mathlib.Decide.{dec_lt}
use native.Mathlib.Omega.{arith}
use lib.ListN.{length, get_or, take}
use lib.Seq.{take-suc}
use borrow.Author.Tests.{lt-ltb, le-ltb}
use Rattle.trays.specs.Slips.{slip, start_of}
use Rattle.matching.specs.Steps.Nodes.{nodes_of, string, IsNode, Num}
use Rattle.matching.proofs.NodeLaws.{nodes_numbered, is_root}
use Rattle.matching.proofs.Numbered as T
use Rattle.layout.specs.Layout.{AT, OWN, LEVEL, KID}
use Rattle.layout.specs.Tables.{cell, members, Owned}
use Rattle.layout.specs.Numbered.{Numbered, SameBelow}
use Rattle.layout.proofs.Frames.{letter_is}
use Rattle.layout.proofs.AreaSlips.{area_slips}
use Rattle.layout.proofs.OwnLaws.{owned-length, owned-place}
use Rattle.trie_children.specs.Children.{parent_of, letter_of, ParentCells, Lettered}

-- the two ways of `parent`
parent_one : (w : List ℕ) (u : ℕ) → u < cell w LEVEL 2 → parent_of w u ≡ 0
parent_one w u h = rw (lt-ltb u (cell w LEVEL 2) h)

parent_longer : (w : List ℕ) (u : ℕ) → cell w LEVEL 2 ≤ u → parent_of w u ≡ cell w AT (cell w OWN u - 1)
parent_longer w u h = rw (le-ltb u (cell w LEVEL 2) h)

module _ {s es : List ℕ} {n nodes : ℕ} {w : List ℕ} (N : Numbered s es n nodes w) where
  open area_slips s es n w use {ss, ps}

  -- a node where it stands: its string, its letter, its place
  module _ (v : ℕ) (m : Num ps v) where
    abbrev o : Owned ss es (members w n) (cell w OWN v) (string ps v)
    o = N.own v m

    owned-split : string ps v ≡ take o.letter (slip ss o.member) ++ (letter_of s w v ∷ [])
    owned-split =
        let x = slip ss o.member in
        let (h, l) = N.real o.member o.among in
        let e : letter_of s w v ≡ get_or x o.letter 0 =
        ap (λ p. get_or s p 0) o.place ∙ letter_is s es N.accepted o.member o.letter h l o.within in
        rw e (sym o.beginning ∙ take-suc x o.letter 0 o.within)

    parent_is : IsNode ps (parent_of w v) (take o.letter (slip ss o.member))
    parent_is =
        let x = slip ss o.member in
        let l = owned-length N v m in
        elim (dec_lt v (cell w LEVEL 2)) [
          | yes h ↦
              let e : o.letter ≡ 0 =
              elim (dec_lt o.letter 1)
              [ yes k ↦ omega arith | no k ↦ absurd (omega (arith, N.level.from 2 v (omega arith) (omega arith) m (omega arith))) ] in
              rw (parent_one w v h, e) (is_root ps)
          | no h ↦
              let k = N.level.back 2 v (omega arith) (omega arith) m (omega arith) in
              let d = o.letter - 1 in
              let e : start_of es o.member + d ≡ cell w OWN v - 1 = omega (arith, o.place) in
              let f : suc d ≡ o.letter = omega arith in
              rw (parent_longer w v (omega arith)) (rw (e, f) at (N.at o.member d o.among (omega (arith, o.within))))
        ]

  pub placed : {v : ℕ} → 1 ≤ v → v ≤ nodes → ParentCells w v
  placed {v} h l =
      let m : Num ps v = record { some = h; inside = omega (arith, N.all_nodes) } in
      let r = N.room in
      let f = N.few_nodes in
      let p = owned-place N v m in
      record {
        levels = omega arith;
        own = omega arith;
        before = λ k. (omega (arith, N.level.back 2 v (omega arith) (omega arith) m k, owned-length N v m, (N.own v m).place), omega (arith, p.1));
      }

  pub lettered : {v : ℕ} → 1 ≤ v → v ≤ nodes → Lettered s w v
  lettered {v} h l =
      let m : Num ps v = record { some = h; inside = omega (arith, N.all_nodes) } in
      record { own = (placed h l).own; within = (owned-place N v m).0 }

  -- cells above those of the numbering do not tell
  pub parent_kept : (w' : List ℕ) (v : ℕ) → SameBelow KID w w' → 1 ≤ v → v ≤ nodes → parent_of w' v ≡ parent_of w v
  parent_kept w' v k h l =
      let m : Num ps v = record { some = h; inside = omega (arith, N.all_nodes) } in
      let a : cell w' LEVEL 2 ≡ cell w LEVEL 2 = k.cells (LEVEL + 2) (omega arith) in
      let b : cell w' OWN v ≡ cell w OWN v = k.cells (OWN + v) (omega (arith, N.few_nodes)) in
      let c : cell w' AT (cell w OWN v - 1) ≡ cell w AT (cell w OWN v - 1) =
      k.cells (AT + (cell w OWN v - 1)) (omega (arith, (owned-place N v m).1)) in
      rw (a, b, c)

  pub parents_tree : T.Tree (nodes_of ps) (parent_of w) (letter_of s w)
  parents_tree =
      record {
        par_in = λ v m. (parent_is v (record { some = m.0; inside = m.1 })).inside;
        par_is = λ v m.
            let k : Num ps v = record { some = m.0; inside = m.1 } in
            owned-split v k ∙ ap (λ x. x ++ (letter_of s w v ∷ [])) (sym (parent_is v k).is);
      }

  -- what any numbering and tree have
  pub parent_below : {v : ℕ} → Num ps v → parent_of w v < v
  parent_below {v} m = T.par_below ps (nodes_of ps) (nodes_numbered ps) (parent_of w) (letter_of s w) parents_tree v (m.some, m.inside)

  pub parents_ascend : {u v : ℕ} → Num ps u → Num ps v → u < v →
      (parent_of w u < parent_of w v) ⊎ ((parent_of w u ≡ parent_of w v) × (letter_of s w u < letter_of s w v))
  parents_ascend {u} {v} m k h =
      T.par_last ps (nodes_of ps) (nodes_numbered ps) (parent_of w) (letter_of s w) parents_tree u v (m.some, m.inside) (k.some, k.inside) h

  pub child_parent : {u : ℕ} (v c : ℕ) → Num ps u → v < length (nodes_of ps) → string ps u ≡ string ps v ++ (c ∷ []) → (parent_of w u ≡ v) × (letter_of s w u ≡ c)
  child_parent {u} v c m h e = T.is_child ps (nodes_of ps) (nodes_numbered ps) (parent_of w) (letter_of s w) parents_tree v c u (m.some, m.inside) h e
