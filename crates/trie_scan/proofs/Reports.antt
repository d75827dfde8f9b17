-- What is still to be reported at one place of the text.
--   owned-owned       == the longest ending that is a member's whole string has a member, unless it is empty
--   behind-..         == what ends the output link of a node
--   here-..           == what ends a node's string
--   twin-..           == what is left once a member is reported
-- What ends a node's string is the members of its letters, ascending, then what ends its output link; and an output link that is not 0 has members.
use mathlib.Core.Path.{◌≡◌, refl, sym, ap, subst, ◌∙◌}
use mathlib.Core.List.Memᴰ
use mathlib.Core.List.{List, [], ◌∷◌, ◌++◌}
use Prim.Native.Nat.{ℕ, ◌+◌, ◌≤◌, ◌<◌}
use native.Mathlib.Omega.{arith}
use lib.ListN.{length}
use Rattle.words.specs.Lists.{tail_of}
use Rattle.words.specs.Words.{same}
use Rattle.words.proofs.Members.{In, in_those}
use Rattle.trays.specs.Slips.{slip}
use Rattle.tables.specs.Tables.{Got}
use Rattle.matching.specs.Steps.Nodes.{string, Num}
use Rattle.matching.proofs.Finds.{ending_of}
use Rattle.matching.proofs.NodeLaws.{node_some}
use Rattle.layout.specs.Layout.{HEAD, TWIN, OUT}
use Rattle.layout.specs.Tables.{cell, owners, Threaded}
use Rattle.layout.specs.Numbered.{Numbered}
use Rattle.trie_outputs.specs.Steps.Outputs.{longest_owned, OutOf, Told}
use Rattle.trie_outputs.proofs.Outs.{by_list, owned-here, owned_past, ending_out, ending_root}
use Rattle.layout.proofs.Heads.{member_few, member_some, member_letters, num_most}
use Rattle.layout.proofs.AreaSlips.{area_slips}
use Rattle.trie_scan.specs.Steps.Scanning.{Reporting, Pending}

owned-owned : (ss : List (List ℕ)) (M t : List ℕ) → 1 ≤ length (longest_owned ss M t) → (i : ℕ) × (is : List ℕ) × (owners ss M (longest_owned ss M t) ≡ i ∷ is)
owned-owned ss M [] h = absurd (omega arith)
owned-owned ss M (a ∷ t) h =
    by_list (owners ss M (a ∷ t))
    (λ e. let q = owned_past ss M (a ∷ t) e in rw q (owned-owned ss M t (rw q at h)))
    (λ i is e. rw (owned-here ss M (a ∷ t) i is e) (i, is, e))

module _ {s es : List ℕ} {n nodes : ℕ} {w : List ℕ} (T : Told s es n nodes w) where
  open area_slips s es n w use {ss, M, ps}

  numbered : Numbered s es n nodes w
  numbered = T.headed.automaton.branched.numbered

  pub told_node : {v : ℕ} → v ≤ nodes → (v ≡ 0 → ⊥) → Num ps v
  told_node h z = record { some = omega arith; inside = omega (arith, numbered.all_nodes) }

  pub nothing : (v : ℕ) → v ≡ 0 → Pending ss M w 0 0 (ending_of ss M (string ps v))
  nothing v z =
      record {
        small = omega arith;
        none = λ e. ap (λ u. ending_of ss M (string ps u)) z
            ∙ ending_root ss M numbered.ascending (member_letters numbered);
        some = λ h. absurd (h refl);
      }

  -- the members of a node's letters: the first of them is i
  module _ {v h : ℕ} (m : Num ps v) (g : Got w HEAD v h) (i : ℕ) (is : List ℕ) (e : owners ss M (string ps v) ≡ i ∷ is) where
    chain : Threaded (cell w TWIN) (cell w HEAD v) (i ∷ is)
    chain = subst (Threaded (cell w TWIN) (cell w HEAD v)) e (T.headed.heads v m)

    own : (k : ℕ) → In k (i ∷ is) → In k M
    own k q = (in_those (λ j. same (slip ss j) (string ps v)) M (subst (In k) (sym e) q)).0

    first : h ≡ i
    first = g.is ∙ chain.0

    first_some : h ≡ 0 → ⊥
    first_some z = omega (arith, first, member_some numbered i (own i (Memᴰ.head refl)))

    from_head : Pending ss M w v h (ending_of ss M (string ps v))
    from_head =
        record {
          small = omega (arith, num_most numbered v m, numbered.few_nodes);
          none = λ z. absurd (first_some z);
          some = λ q.
              record {
                others = is;
                is_node = m;
                threaded = rw first chain.1;
                among = λ k a. own k (rw first at a);
                list_is = rw first (ending_out ss M numbered.ascending v m (T.outs v m) ∙ ap (λ xs. xs ++ ending_of ss M (string ps (cell w OUT v))) e);
              };
        }

  -- the output link of node v
  module _ {v u : ℕ} (m : Num ps v) (g : Got w OUT v u) where
    pub behind-most : u ≤ nodes
    behind-most = omega (arith, rw (← g.is) at (T.outs v m).inside, numbered.all_nodes)

    pub behind_root : u ≡ 0 → Pending ss M w 0 0 (ending_of ss M (string ps (cell w OUT v)))
    behind_root z = nothing (cell w OUT v) (sym g.is ∙ z)

    pub behind_node : {h : ℕ} → (u ≡ 0 → ⊥) → Got w HEAD u h → Pending ss M w u h (ending_of ss M (string ps (cell w OUT v)))
    behind_node z k =
        let o : OutOf ss M v u = rw g.is (T.outs v m) in
        let q : Num ps u = told_node behind-most z in
        let (i, is, e) = owned-owned ss M (tail_of (string ps v)) (rw o.is at (node_some ps u q).0) in
        rw (← g.is) (from_head q k i is (rw o.is e))

  -- the string of node v itself
  module _ {v h : ℕ} (m : Num ps v) (g : Got w HEAD v h) where
    pub here_node : (h ≡ 0 → ⊥) → Pending ss M w v h (ending_of ss M (string ps v))
    here_node z =
        by_list (owners ss M (string ps v))
        (λ e. absurd (z (g.is ∙ subst (Threaded (cell w TWIN) (cell w HEAD v)) e (T.headed.heads v m))))
        (λ i is e. from_head m g i is e)

    pub here-behind : {node i : ℕ} → h ≡ 0 → Pending ss M w node i (ending_of ss M (string ps (cell w OUT v))) →
        Pending ss M w node i (ending_of ss M (string ps v))
    here-behind z p =
        by_list (owners ss M (string ps v))
        (λ e. rw (ending_out ss M numbered.ascending v m (T.outs v m), e) p)
        (λ i is e. absurd (first_some m g i is e z))

  pub reporting_room : {node slip : ℕ} {xs : List ℕ} → Reporting ss M w node slip xs → TWIN + slip < length w
  reporting_room {slip = slip} R = omega (arith, member_few numbered slip (R.among slip (Memᴰ.head refl)), numbered.room)

  -- the members behind one that is reported
  module _ {node slip twin : ℕ} {xs : List ℕ} (R : Reporting ss M w node slip xs) (g : Got w TWIN slip twin) where
    tail_is : tail_of xs ≡ R.others ++ ending_of ss M (string ps (cell w OUT node))
    tail_is = ap tail_of R.list_is

    pub twin_next : (twin ≡ 0 → ⊥) → Pending ss M w node twin (tail_of xs)
    twin_next z =
        record {
          small = omega (arith, num_most numbered node R.is_node, numbered.few_nodes);
          none = λ e. absurd (z e);
          some = λ q. by_list R.others
              (λ e. absurd (z (g.is ∙ subst (Threaded (cell w TWIN) (cell w TWIN slip)) e R.threaded)))
              (λ i is e.
              let l = subst (Threaded (cell w TWIN) (cell w TWIN slip)) e R.threaded in
              let t : twin ≡ i = g.is ∙ l.0 in
              record {
                others = is;
                is_node = R.is_node;
                threaded = rw t l.1;
                among = λ k a. R.among k (Memᴰ.tail (subst (In k) (sym e) (rw t at a)));
                list_is = rw t (tail_is ∙ ap (λ ys. ys ++ ending_of ss M (string ps (cell w OUT node))) e);
              });
        }

    pub twin_behind : {node' i : ℕ} → twin ≡ 0 → Pending ss M w node' i (ending_of ss M (string ps (cell w OUT node))) → Pending ss M w node' i (tail_of xs)
    twin_behind z p =
        by_list R.others
        (λ e. rw (tail_is, e) p)
        (λ i is e. absurd (omega (
          arith,
          g.is ∙ (subst (Threaded (cell w TWIN) (cell w TWIN slip)) e R.threaded).0,
          member_some numbered i (R.among i (Memᴰ.tail (subst (In i) (sym e) (Memᴰ.head refl)))),
        )))
