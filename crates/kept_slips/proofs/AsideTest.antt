-- A member is set aside, read off the tables of its node f.
--   aside_kid, aside_mark, aside_owner == it is: f has a child, is a failure link, or is the node of a lower member
--   aside_head                         == where it has no child and is no failure link, the owner alone decides
-- A member that stands in a longer one has a node that goes on by a letter or is the failure of a node. The members of f's letters ascend, so
-- one that is not the first of them has a lower one of its letters, and no other has.
use mathlib.Core.Path.{◌≡◌, refl, sym, ap, ◌∙◌}
use mathlib.Core.Bool.{true, false, not}
use mathlib.Core.Logic.{◌⊎◌, inl, inr}
use mathlib.Core.List.Memᴰ
use mathlib.Core.List.{List, [], ◌∷◌, ◌++◌}
use Prim.Native.Nat.{ℕ, suc, ◌+◌, ◌≤◌, ◌<◌}
use native.Mathlib.Numerals.{add-one}
use native.Mathlib.Omega.{arith}
use lib.Dec.{eqb}
use lib.ListN.{length, length-append}
use borrow.Author.Tests.{eqb-true, eqb-false}
use Rattle.words.specs.Lists.{head_or, tail_of}
use Rattle.words.specs.Words.{same}
use Rattle.words.proofs.Tests.{tell}
use Rattle.words.proofs.Orders.{same-is, same_at}
use Rattle.words.proofs.Members.{In, by_in, Asc, those_in, in_those, asc_those}
use Rattle.trays.specs.Slips.{slip}
use Rattle.trays.specs.Aside.{is_aside}
use Rattle.tables.specs.Tables.{Got}
use Rattle.matching.specs.Moves.{begins_some, longest_ending}
use Rattle.matching.specs.Steps.Nodes.{string, IsNode, Num}
use Rattle.matching.proofs.AsideNodes.{Inner, Earlier, aside_inner, inner_aside}
use Rattle.matching.proofs.NodeLaws.{node_some, node_of, node_one}
use Rattle.layout.specs.Layout.{KID, MARK, HEAD, FAIL}
use Rattle.layout.specs.Tables.{cell, owners}
use Rattle.layout.specs.Numbered.{Numbered}
use Rattle.kept_slips.specs.Steps.Kept.{Judged}
use Rattle.layout.proofs.Heads.{threaded_head}
use Rattle.layout.proofs.AreaSlips.{area_slips}
use Rattle.trie_heads.proofs.MemberNodes.{in_member, node_num}

-- the first of an ascending list
head_least : (xs : List ℕ) (k : ℕ) → Asc ◌<◌ xs → In k xs → head_or 0 xs ≤ k
head_least [] k a m = absurd (Memᴰ.not-nil m)
head_least (x ∷ xs) k a m = by_in m (λ e. omega arith) (λ i. let h = a.0 k i in omega arith)

head_in : (xs : List ℕ) (k : ℕ) → In k xs → In (head_or 0 xs) xs
head_in [] k m = absurd (Memᴰ.not-nil m)
head_in (x ∷ xs) k m = Memᴰ.head refl

fail_inner : (ps : List (List ℕ)) (y x : List ℕ) → 1 ≤ length y → begins_some y ps ≡ true → longest_ending (tail_of y) ps ≡ x → Inner ps x
fail_inner ps [] x h b e = absurd (omega arith)
fail_inner ps (a ∷ y) x h b e = inr (a, y, b, e)

module _ {s es : List ℕ} {n nodes : ℕ} {w : List ℕ} {i : ℕ} (J : Judged s es n nodes w i) where
  abbrev N : Numbered s es n nodes w
  N = J.marked.headed.automaton.branched.numbered

  open area_slips s es n w use {ss, M, ps}

  module _ {f : ℕ} (m : IsNode ps f (slip ss i)) where
    num : Num ps f
    num = node_num ps m (in_member N i J.member).letters

    -- the members of the same letters
    abbrev own : List ℕ
    own = owners ss M (string ps f)

    first : cell w HEAD f ≡ head_or 0 own
    first = threaded_head _ (cell w HEAD f) own (J.marked.headed.heads f num)

    own_in : (k : ℕ) → In k M → slip ss i ≡ slip ss k → In k own
    own_in k q e = those_in (λ k. same (slip ss k) (string ps f)) q (rw (m.is, e) (same_at (slip ss k)))

    in_own : {k : ℕ} → In k own → In k M × (slip ss i ≡ slip ss k)
    in_own {k} q =
        let (a, t) = in_those (λ k. same (slip ss k) (string ps f)) M q in
        (a, sym (same-is (slip ss k) (string ps f) t ∙ m.is))

    least : (k : ℕ) → In k own → head_or 0 own ≤ k
    least k q = head_least own k (asc_those ◌<◌ (λ k. same (slip ss k) (string ps f)) M N.ascending) q

    pub aside_kid : {a b : ℕ} → Got w KID f a → Got w KID (f + 1) b → a < b → true ≡ is_aside ss M i
    aside_kid {a} {b} g h l =
        let K = J.marked.headed.automaton.branched.kids in
        let e : cell w KID (suc f) ≡ b = rw (← add-one f) (sym h.is) in
        let q : Num ps (cell w KID f) =
        record { some = (K.some f (omega (arith, m.inside))).0; inside = omega (arith, g.is, e, (K.some (suc f) m.inside).1) } in
        let (c, t) = K.back f (cell w KID f) m.inside q (omega arith) (omega (arith, g.is, e)) in
        sym (inner_aside ss i M (inl (inl (c, rw (t, m.is) at (node_some ps (cell w KID f) q).1))))

    pub aside_mark : {a : ℕ} → Got w MARK f a → a ≡ 1 → true ≡ is_aside ss M i
    aside_mark g l =
        let (v, q, e) = J.marked.marks.back f m.inside (sym g.is ∙ l) in
        let (h, b) = node_some ps v q in
        let z = (J.marked.headed.automaton.fails v q).is in
        sym (inner_aside ss i M (inl (fail_inner ps (string ps v) (slip ss i) h b (sym z ∙ ap (string ps) e ∙ m.is))))

    aside_owner : {a : ℕ} → Got w HEAD f a → (a ≡ i → ⊥) → true ≡ is_aside ss M i
    aside_owner {a} g ne =
        let o = own_in i J.member refl in
        let (q, e) = in_own (head_in own i o) in
        let d : head_or 0 own ≡ i → ⊥ = λ z. ne (g.is ∙ first ∙ z) in
        sym (inner_aside ss i M (inr (head_or 0 own, q, omega (arith, least i o), e)))

    module _
        {a b c d : ℕ} (kid : Got w KID f a) (end : Got w KID (f + 1) b) (no-kid : b ≤ a)
        (mark : Got w MARK f c) (no-mark : c ≡ 1 → ⊥) (lowest : Got w HEAD f d) where
      none : d ≡ i → Inner ps (slip ss i) ⊎ Earlier ss M i → ⊥
      none itself (inl (inl r)) =
          let x = r.0 in
          let (u, q, z) = node_of ps (slip ss i ++ (x ∷ [])) (omega (arith, length-append (slip ss i) (x ∷ []))) r.1 in
          let (h, l) = J.marked.headed.automaton.branched.kids.into f u x m.inside q (z ∙ ap (λ y. y ++ (x ∷ [])) (sym m.is)) in
          omega (arith, kid.is, rw add-one at end.is)
      none itself (inl (inr r)) =
          let (x, t, y, e) = r in
          let (u, q, z) = node_of ps (x ∷ t) (omega arith) y in
          let link : IsNode ps (cell w FAIL u) (slip ss i) = rw (z, e) at (J.marked.headed.automaton.fails u q) in
          no-mark (mark.is ∙ ap (cell w MARK) (sym (node_one ps link m)) ∙ J.marked.marks.into u q)
      none itself (inr r) =
          let (k, q, l, e) = r in
          omega (arith, least k (own_in k q e), lowest.is, first)

      aside_none : d ≡ i → false ≡ is_aside ss M i
      aside_none z = elim (tell (is_aside ss M i)) [ inl t ↦ absurd (none z (aside_inner ss i M J.member t)) | inr t ↦ sym t ]

      pub aside_head : not (eqb d i) ≡ is_aside ss M i
      aside_head =
          elim (tell (eqb d i)) [
            | inl t ↦ rw t (aside_none (eqb-true d i t))
            | inr t ↦ rw t (aside_owner lowest (eqb-false d i t))
          ]
