-- ENDS and ENDS_NEXT: a kept member goes into the lists of the nodes that it properly ends with, from the longest on.
--   Falling .. w u d     == as before the j-th kept member i was added, in w₀, but for the nodes of more than d letters; those of its proper
--                           endings that are left are the endings of node u, which has at most d letters
--   falling-..           == none of the lengths, one without a node, one with a node, all
-- A proper ending of a slip that is a node ends the failure of the slip's node. If the node u has d letters, then the shorter ones end its failure;
-- if it has fewer, then there is none of that length.
use mathlib.Core.Path.{◌≡◌, sym, ap, ◌∙◌}
use mathlib.Core.Bool.{true}
use mathlib.Core.Logic.{inl, inr}
use mathlib.Core.List.{List, [], ◌∷◌}
use Prim.Native.Nat.{ℕ, ◌+◌, ◌-◌, ◌≤◌, ◌<◌}
use native.Mathlib.Decide.{dec_lt}
use native.Mathlib.Omega.{arith}
use lib.Dec.{ltb}
use lib.ListN.{length}
use borrow.Author.Tests.{ltb-true, ltb-false, lt-ltb, le-ltb, le-leb}
use Rattle.words.specs.Lists.{tail_of}
use Rattle.words.specs.Words.{ends, ends_properly}
use Rattle.words.proofs.Tests.{tell, same_test}
use Rattle.words.proofs.Strings.{ends-length, ends-refl, ends_properly-ends}
use Rattle.trays.specs.Limits.{max_slip}
use Rattle.trays.specs.Slips.{slips_of, slip, end_of, span_of}
use Rattle.trays.specs.declared.Span.{Span}
use Rattle.tables.specs.Tables.{Got}
use Rattle.matching.specs.Moves.{begins_some, longest_ending}
use Rattle.matching.specs.Steps.Nodes.{nodes_of, string, IsNode, Num}
use Rattle.matching.proofs.Finds.{ends_properly_fail}
use Rattle.matching.proofs.Numbered.{fail_shorter}
use Rattle.matching.proofs.NodeLaws.{node_root, node_some}
use Rattle.layout.specs.Layout.{AT, FAIL, LEVEL, KEPT, ENDS, ENDS_NEXT}
use Rattle.layout.specs.Tables.{cell}
use Rattle.layout.specs.Numbered.{patterns_in, Numbered}
use Rattle.layout.proofs.Heads.{num_most}
use Rattle.layout.proofs.AreaSlips.{area_slips}
use Rattle.kept_lists.specs.Steps.KeptLists.{endings, Listing, ListedTo}
use Rattle.trie_heads.specs.Steps.Heads.{CanPush, Pushed}
use Rattle.trie_heads.proofs.MemberNodes.{Member, member_node, node_num, node_most}
use Rattle.kept_lists.proofs.AffixLoop.{OneMore, Adding, added}
use Rattle.kept_lists.proofs.AffixLoop.{adding_none, adding_skip, adding_can, adding_more, adding_all}

-- proper endings and failures
proper_ends : (x y : List ℕ) → length x < length y → ends_properly x y ≡ ends x y
proper_ends x y h = rw (lt-ltb (length x) (length y) h, le-leb (length x) (length y) (omega arith))

proper_fail : (ps : List (List ℕ)) (x y : List ℕ) → begins_some x ps ≡ true → 1 ≤ length y → ends_properly x y ≡ ends x (longest_ending (tail_of y) ps)
proper_fail ps x [] b h = absurd (omega arith)
proper_fail ps x (a ∷ y) b h = ends_properly_fail ps x a y b

one_shorter : (d : ℕ) → 1 ≤ d → OneMore d (ltb d) (ltb (d - 1))
one_shorter d h =
    record {
      now = lt-ltb (d - 1) d (omega arith);
      before = le-ltb d d (omega arith);
      others = λ m ne. same_test (ltb (d - 1) m) (ltb d m) (λ t. lt-ltb d m (omega (arith, ltb-true (d - 1) m t)))
          (λ t. lt-ltb (d - 1) m (omega (arith, ltb-true d m t)));
    }

pub record Falling (s es : List ℕ) (n k nodes : ℕ) (w₀ : List ℕ) (j i end : ℕ) (w : List ℕ) (u d : ℕ) : Type 0 where
  pub last : end ≡ end_of es i
  pub node : u < length (nodes_of (patterns_in s es n w₀))
  pub short : length (string (patterns_in s es n w₀) u) ≤ d
  pub most : d < length (slip (slips_of s es) i)
  pub path : (v : ℕ) → Num (patterns_in s es n w₀) v → length (string (patterns_in s es n w₀) v) ≤ d →
      ends_properly (string (patterns_in s es n w₀) v) (slip (slips_of s es) i) ≡ ends (string (patterns_in s es n w₀) v) (string (patterns_in s es n w₀) u)
  pub adding : Adding endings s es n k w₀ j i w (ltb d)

module _ {s es : List ℕ} {n k nodes : ℕ} {w₀ : List ℕ} {j i : ℕ} (E : Listing endings s es n k nodes w₀ (j + 1)) (g : Got w₀ KEPT j i) where
  open area_slips s es n w₀ use {ss, ps}

  abbrev N : Numbered s es n nodes w₀
  N = E.staged.automaton.branched.numbered

  here : Member s es n w₀ i
  here = added E g

  module _ (x : Span) (e : x ≡ span_of es i) where
    pub falling_end : 1 ≤ x.end
    falling_end = rw e (omega (arith, here.letters, here.size))

    pub falling_place : AT + (x.end - 1) < length w₀
    falling_place = rw e (omega (arith, here.fits, N.room))

    pub falling_letters : x.start ≤ x.end
    falling_letters = rw e (omega (arith, here.size))

    module _ {f : ℕ} (a : Got w₀ AT (x.end - 1) f) where
      whole : IsNode ps f (slip ss i)
      whole = rw (a.is, e) (member_node N here)

      pub falling_fail : FAIL + f < length w₀
      falling_fail = omega (arith, node_most N whole, N.few_nodes, N.room)

      pub falling_start : {u : ℕ} → Got w₀ FAIL f u → Falling s es n k nodes w₀ j i x.end w₀ u (x.end - x.start - 1)
      falling_start {u} b =
          let link : IsNode ps u (longest_ending (tail_of (slip ss i)) ps) =
          rw (b.is, ← whole.is) (E.staged.automaton.fails f (node_num ps whole here.letters)) in
          let d : x.end - x.start - 1 ≡ length (slip ss i) - 1 = rw e (omega (arith, here.size)) in
          rw d
          (record {
            last = ap (λ x. x.end) e;
            node = link.inside;
            short = rw link.is (omega (arith, fail_shorter ps (slip ss i) here.letters));
            most = omega (arith, here.letters);
            path = λ v m l. rw link.is (proper_fail ps (string ps v) (slip ss i) (node_some ps v m).1 here.letters);
            adding =
                adding_none E g (ltb (length (slip ss i) - 1))
                (λ v m t. le-ltb (length (slip ss i) - 1) (length (string ps v)) (omega (arith, (ends_properly-ends (string ps v) (slip ss i) t).0)));
          })

  slip_short : length (slip ss i) ≤ max_slip
  slip_short =
      let m = member_node N here in
      omega (arith, ap length m.is, N.level.all _ (node_num ps m here.letters))

  -- one length
  module _ {end : ℕ} {w : List ℕ} {u d : ℕ} (F : Falling s es n k nodes w₀ j i end w u d) where
    module _ (h : 0 < u) where
      num : Num ps u
      num = record { some = h; inside = F.node }

      falling_left : 1 ≤ d
      falling_left = omega (arith, (node_some ps u num).0, F.short)

      pub falling_level : LEVEL + d < length w
      falling_level = omega (arith, F.most, slip_short, N.room, F.adding.below.same)

      module _ {a : ℕ} (b : Got w LEVEL d a) where
        level-is : cell w₀ LEVEL d ≡ a
        level-is = sym (b.is ∙ F.adding.below.cells (LEVEL + d) (omega (arith, F.most, slip_short)))

        pub falling_skip : (d' : ℕ) → u < a → d' ≡ d - 1 → Falling s es n k nodes w₀ j i end w u d'
        falling_skip d' l e =
            let shorter : length (string ps u) < d =
            elim (dec_lt (length (string ps u)) d) [
              | yes q ↦ q
              | no q ↦ absurd (omega (arith, level-is, N.level.from d u falling_left (omega (arith, F.most, slip_short)) num (omega arith)))
            ] in
            rw e
            (record {
              last = F.last;
              node = F.node;
              short = omega arith;
              most = omega (arith, F.most);
              path = λ v m q. F.path v m (omega arith);
              adding =
                  adding_skip E g F.adding (one_shorter d falling_left)
                  (λ v m q. F.path v m (omega arith) ∙ elim (tell (ends (string ps v) (string ps u))) [
                    | inl t ↦ absurd (omega (arith, ends-length (string ps v) (string ps u) t))
                    | inr t ↦ t
                  ]);
            })

        module _ (l : a ≤ u) where
          long : length (string ps u) ≡ d
          long = omega (arith, F.short, N.level.back d u falling_left (omega (arith, F.most, slip_short)) num (omega (arith, level-is)))

          proper : ends_properly (string ps u) (slip ss i) ≡ true
          proper = F.path u num (omega (arith, long)) ∙ ends-refl (string ps u)

          pub falling_can : CanPush w ENDS u ENDS_NEXT (end - d) i
          falling_can = rw F.last (adding_can E g F.adding num long proper)

          module _ {w' : List ℕ} (x : Pushed w ENDS u ENDS_NEXT (end - d) i w') where
            more : Adding endings s es n k w₀ j i w' (ltb (d - 1))
            more = adding_more E g F.adding num long proper (one_shorter d falling_left) x (rw F.last)

            pub falling_more : {u' : ℕ} (d' : ℕ) → Got w' FAIL u u' → d' ≡ d - 1 → Falling s es n k nodes w₀ j i end w' u' d'
            falling_more {u'} d' b e =
                let c : cell w₀ FAIL u ≡ u' = sym (b.is ∙ more.below.cells (FAIL + u) (omega (arith, num_most N u num, N.few_nodes))) in
                let link : IsNode ps u' (longest_ending (tail_of (string ps u)) ps) = rw c at (E.staged.automaton.fails u num) in
                rw e
                (record {
                  last = F.last;
                  node = link.inside;
                  short = rw link.is (omega (arith, fail_shorter ps (string ps u) (node_some ps u num).0, long));
                  most = omega (arith, F.most);
                  path = λ v m q.
                      rw link.is
                      (F.path v m (omega arith)
                      ∙ sym (proper_ends (string ps v) (string ps u) (omega (arith, long, falling_left)))
                      ∙ proper_fail ps (string ps v) (string ps u) (node_some ps v m).1 (node_some ps u num).0);
                  adding = more;
                })

    -- no length is left
    pub falling_done : d ≤ 0 → u ≤ 0
    falling_done z = elim (dec_lt 0 u) [ yes h ↦ absurd (omega (arith, falling_left h)) | no h ↦ omega arith ]

    pub falling_all : u ≤ 0 → ListedTo endings s es n k nodes w₀ j w
    falling_all l =
        let z : u ≡ 0 = omega arith in
        adding_all E g F.adding
        (λ v m t. elim (tell (ltb d (length (string ps v)))) [
          | inl b ↦ b
          | inr b ↦
              let e = ends-length (string ps v) (string ps u) (sym (F.path v m (ltb-false d (length (string ps v)) b)) ∙ t) in
              absurd (omega (arith, (node_some ps v m).0, ap length (ap (string ps) z ∙ node_root ps)))
        ])
