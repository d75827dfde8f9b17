-- The child of a node by a letter, found by a scan over its children.
--   Scanning .. v c e u   == the children of v end at e, u is one of them or e, and the child by c is not below u
-- The children of a node are consecutive numbers and ascend by their letters. So the child by c is none of those passed, whose letters differ
-- from c, and there is none where a child has a letter above c.
use mathlib.Core.Path.{◌≡◌, sym, ap, ◌∙◌}
use mathlib.Core.Logic.{inl, inr}
use mathlib.Core.List.{List, [], ◌∷◌, ◌++◌}
use Prim.Native.Nat.{ℕ, suc, ◌+◌, ◌≤◌, ◌<◌}
use native.Mathlib.Decide.{ℕ_discrete}
use native.Mathlib.Omega.{arith}
use lib.ListN.{length, length-append}
use Rattle.words.proofs.Tests.{by_test}
use Rattle.matching.specs.Moves.{begins_some}
use Rattle.matching.specs.Steps.Nodes.{nodes_of, string, Num}
use Rattle.matching.proofs.NodeLaws.{node_of}
use Rattle.layout.specs.Layout.{KID}
use Rattle.layout.specs.Tables.{cell, Child}
use Rattle.layout.specs.Numbered.{patterns_in, Branched}
use Rattle.trie_children.specs.Children.{parent_of, letter_of, Lettered}
use Rattle.trie_children.proofs.Parents.{parents_ascend, child_parent, lettered}

-- no node has the string of v with the letter c
child_none : (ps : List (List ℕ)) (v c : ℕ) → ((x : ℕ) → Num ps x → string ps x ≡ string ps v ++ (c ∷ []) → ⊥) → Child ps v c 0
child_none ps v c f =
    record {
      node = λ h. absurd (h (omega arith));
      none = λ e. by_test (begins_some (string ps v ++ (c ∷ [])) ps)
          (λ b. let (x, m, q) = node_of ps (string ps v ++ (c ∷ [])) (omega (arith, length-append (string ps v) (c ∷ []))) b in absurd (f x m q))
          (λ b. b);
    }

pub record Scanning (s es : List ℕ) (n nodes : ℕ) (w : List ℕ) (v c e u : ℕ) : Type 0 where
  pub branched : Branched s es n nodes w
  pub node : v ≤ nodes
  pub some : 1 ≤ u
  pub low : cell w KID v ≤ u
  pub end : e ≡ cell w KID (suc v)
  pub last : e ≤ nodes + 1
  pub passed : (x : ℕ) → Num (patterns_in s es n w) x → string (patterns_in s es n w) x ≡ string (patterns_in s es n w) v ++ (c ∷ []) → u ≤ x

module _ {s es : List ℕ} {n nodes : ℕ} {w : List ℕ} {v c e u : ℕ} (S : Scanning s es n nodes w v c e u) where
  abbrev ps : List (List ℕ)
  ps = patterns_in s es n w

  inside : v < length (nodes_of ps)
  inside = omega (arith, S.node, S.branched.numbered.all_nodes)

  pub scan_none : e ≤ u → Child ps v c 0
  scan_none h = child_none ps v c (λ x m q. omega (arith, S.passed x m q, S.end, (S.branched.kids.into v x c inside m q).1))

  pub scan_lettered : u < e → Lettered s w u
  scan_lettered h = lettered S.branched.numbered S.some (omega (arith, S.last))

  -- u is a child of v
  module _ (h : u < e) where
    here : Num ps u
    here = record { some = S.some; inside = omega (arith, S.last, S.branched.numbered.all_nodes) }

    here-is : (parent_of w u ≡ v) × (string ps u ≡ string ps v ++ (letter_of s w u ∷ []))
    here-is =
        let (a, q) = S.branched.kids.back v u inside here S.low (omega (arith, S.end)) in
        let (p, l) = child_parent S.branched.numbered v a here inside q in
        (p, q ∙ ap (λ y. string ps v ++ (y ∷ [])) (sym l))

    pub scan_hit : {b : ℕ} → b ≡ letter_of s w u → b ≡ c → Child ps v c u
    scan_hit q r =
        record {
          node = λ z. record { inside = here.inside; is = here-is.1 ∙ ap (λ y. string ps v ++ (y ∷ [])) (sym q ∙ r) };
          none = λ z. absurd (omega (arith, S.some));
        }

    -- the child by c, if there is one
    after : (x : ℕ) → Num ps x → string ps x ≡ string ps v ++ (c ∷ []) → (u ≡ x → letter_of s w u ≡ c) × (u < x → letter_of s w u < c)
    after x m q =
        let N = S.branched.numbered in
        let (p, l) = child_parent N v c m inside q in (
          (λ k. rw k l),
          (λ k. elim (parents_ascend N here m k) [ inl z ↦ absurd (omega (arith, here-is.0)) | inr z ↦ omega (arith, z.1) ]),
        )

    pub scan_past : {b : ℕ} → b ≡ letter_of s w u → c < b → Child ps v c 0
    scan_past q r =
        child_none ps v c (λ x m z. elim (ℕ_discrete u x) [
          | yes k ↦ omega (arith, (after x m z).0 k)
          | no k ↦ omega (arith, (after x m z).1 (omega (arith, S.passed x m z)))
        ])

    pub scan_more : {b : ℕ} (u' : ℕ) → b ≡ letter_of s w u → (b ≡ c → ⊥) → u' ≡ u + 1 → Scanning s es n nodes w v c e u'
    scan_more u' q r k =
        record {
          branched = S.branched;
          node = S.node;
          some = omega arith;
          low = omega (arith, S.low);
          end = S.end;
          last = S.last;
          passed = λ x m z. elim (ℕ_discrete u x) [ yes i ↦ absurd (r (q ∙ (after x m z).0 i)) | no i ↦ omega (arith, S.passed x m z) ];
        }
