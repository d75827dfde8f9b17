-- Output links and tallies, filled in the order of the nodes.
--   telling-..              == those of one node, from those of the lower ones
--   Filling .. w₀ w v       == those of the nodes below v are right, and only cells from OUT on have changed
--   filling-..              == the turns of the loop
use mathlib.Core.Path.{◌≡◌, refl, sym, ap, subst, ◌∙◌}
use mathlib.Core.List.Memᴰ
use mathlib.Core.List.{List, [], ◌∷◌}
use Prim.Native.Nat.{ℕ, ◌+◌, ◌≤◌, ◌<◌}
use native.Mathlib.Decide.{ℕ_discrete}
use native.Mathlib.Omega.{arith}
use lib.ListN.{length, length-append}
use Rattle.words.specs.Lists.{head_or}
use Rattle.words.specs.Words.{same}
use Rattle.words.proofs.Members.{In, in_those}
use Rattle.trays.specs.Limits.{max_slips}
use Rattle.trays.specs.Slips.{slips_of, slip}
use Rattle.tables.specs.Tables.{Got, Put, Room}
use Rattle.tables.proofs.Tables.{put_only, put-here, put_other}
use Rattle.matching.specs.Steps.Nodes.{nodes_of, string, IsNode, Num}
use Rattle.matching.proofs.States.{fail}
use Rattle.matching.proofs.NodeLaws.{node_fails}
use Rattle.matching.proofs.Finds.{ending_of}
use Rattle.layout.specs.Layout.{FAIL, HEAD, TWIN, MARK, OUT, TALLY}
use Rattle.layout.specs.Tables.{cell, members, patterns, owners}
use Rattle.layout.specs.Numbered.{patterns_in, Numbered, SameBelow, Headed}
use Rattle.layout.proofs.Frames.{only_kept, kept-lower, members_kept}
use Rattle.trie_outputs.specs.Steps.Outputs.{OutOf, TallyOf, Telling, Tallied, OutputsFilled}
use Rattle.trie_outputs.proofs.Outs.{by_list, ending_most, ending_link, ending_root, out_root, out_here, out_next}
use Rattle.layout.proofs.Heads.{threaded_head, member_some, member_letters, members-length, num_most, headed_kept}
use Rattle.layout.proofs.AreaSlips.{area_slips}

-- one node
module _ {s es : List ℕ} {n nodes : ℕ} {w : List ℕ} {v : ℕ} (T : Telling s es n nodes w v) where
  open area_slips s es n w use {ss, M, ps}

  node : Num ps v
  node = T.owning.node

  numbered : Numbered s es n nodes w
  numbered = T.owning.headed.automaton.branched.numbered

  module _ {f : ℕ} (g : Got w FAIL v f) where
    link : IsNode ps f (fail ps (string ps v))
    link = rw g.is (T.owning.headed.automaton.fails v node)

    below : f < v
    below = node_fails ps v node link

    few : f ≤ 2000
    few = omega (arith, below, num_most numbered v node, numbered.few_nodes)

    pub telling_root : f ≡ 0 → OutOf ss M v 0
    telling_root z = out_root ss M v link z

    module _ {h : ℕ} (z : f ≡ 0 → ⊥) (k : Got w HEAD f h) where
      link_node : Num ps f
      link_node = record { some = omega arith; inside = link.inside }

      first : (xs : List ℕ) → owners ss M (string ps f) ≡ xs → h ≡ head_or 0 xs
      first xs e =
          k.is
          ∙ threaded_head (cell w TWIN) (cell w HEAD f) (owners ss M (string ps f)) (T.owning.headed.heads f link_node)
          ∙ ap (head_or 0) e

      some : (i : ℕ) (is : List ℕ) → owners ss M (string ps f) ≡ i ∷ is → 1 ≤ i
      some i is e =
          member_some numbered i (in_those (λ i. same (slip ss i) (string ps f)) M (subst (In i) (sym e) (Memᴰ.head refl))).0

      pub telling_here : (h ≡ 0 → ⊥) → OutOf ss M v f
      telling_here q =
          by_list (owners ss M (string ps f))
          (λ e. absurd (q (first [] e)))
          (λ i is e. out_here ss M v link i is e)

      pub telling_next : {o : ℕ} → h ≡ 0 → Got w OUT f o → OutOf ss M v o
      telling_next q g' =
          by_list (owners ss M (string ps f))
          (λ e. out_next ss M v link e (rw g'.is (T.outs f link_node below)))
          (λ i is e. absurd (omega (arith, first (i ∷ is) e, some i is e)))

    module _ {own behind : ℕ} (o : own ≡ length (owners ss M (string ps v))) (b : Got w TALLY f behind) where
      tally_sum : own + behind ≡ length (ending_of ss M (string ps v))
      tally_sum =
          omega (
            arith,
            ap length (ending_link ss M numbered.ascending v node link),
            length-append (owners ss M (string ps v)) (ending_of ss M (string ps f)),
            b.is ∙ T.tallies f below,
          )

      tally_few : own + behind ≤ max_slips
      tally_few = omega (arith, tally_sum, ending_most ss M (string ps v), members-length numbered, numbered.few_members)

      pub telling_sum : own + behind < 18446744073709551616
      telling_sum = omega (arith, tally_few)

      pub telling_tallied : Tallied ss M v (own + behind)
      telling_tallied = record { is = tally_sum; small = omega (arith, tally_few) }

-- node by node
pub record Filling (s es : List ℕ) (n nodes : ℕ) (w₀ w : List ℕ) (v : ℕ) : Type 0 where
  pub headed : Headed s es n nodes w₀
  pub kept : SameBelow OUT w₀ w
  pub some : 1 ≤ v
  pub upto : v ≤ nodes + 1
  pub outs : (u : ℕ) → Num (patterns_in s es n w₀) u → u < v → OutOf (slips_of s es) (members w₀ n) u (cell w OUT u)
  pub tallies : (u : ℕ) → u < v → TallyOf (slips_of s es) (members w₀ n) u (cell w TALLY u)

module _ {s es : List ℕ} {n nodes : ℕ} {w : List ℕ} (H : Headed s es n nodes w) where
  pub filling_root : Room w TALLY 0 0
  filling_root = record { within = omega (arith, H.automaton.branched.numbered.room); small = omega arith }

  root_kept : {w' : List ℕ} → Put w TALLY 0 0 w' → SameBelow OUT w w'
  root_kept p = only_kept OUT (put_only p) (λ q e. omega arith)

  pub filling_start : {w' : List ℕ} → Put w TALLY 0 0 w' → Filling s es n nodes w' w' 1
  filling_start {w'} p =
      let G = headed_kept (kept-lower MARK (omega arith) (root_kept p)) H in
      let N = G.automaton.branched.numbered in
      record {
        headed = G;
        kept = record { same = refl; cells = λ x l. refl };
        some = omega arith;
        upto = omega arith;
        outs = λ u m l. absurd (omega (arith, m.some));
        tallies = λ u l.
            let z : u ≡ 0 = omega arith in
            rw z (put-here p filling_root.within ∙ sym (ap length (ending_root (slips_of s es) (members w' n) N.ascending (member_letters N))));
      }

  pub filling_all : {a w' : List ℕ} {v : ℕ} → Put w TALLY 0 0 a → Filling s es n nodes a w' v → nodes < v → OutputsFilled s es n nodes w w'
  filling_all {a} {w'} p F h =
      let N = F.headed.automaton.branched.numbered in
      let e : members w' n ≡ members a n = members_kept n (omega (arith, N.few_members)) F.kept in
      let k = root_kept p in
      record {
        told = record {
          headed = headed_kept (kept-lower MARK (omega arith) F.kept) F.headed;
          outs = rw e (λ u m. F.outs u m (omega (arith, num_most N u m)));
          tallies = rw e (λ u l. F.tallies u (omega (arith, N.all_nodes)));
        };
        below = record { same = F.kept.same ∙ k.same; cells = λ x l. F.kept.cells x l ∙ k.cells x l };
      }

module _ {s es : List ℕ} {n nodes : ℕ} {w₀ w : List ℕ} {v : ℕ} (F : Filling s es n nodes w₀ w v) where
  same-members : members w n ≡ members w₀ n
  same-members = members_kept n (omega (arith, F.headed.automaton.branched.numbered.few_members)) F.kept

  at_node : v ≤ nodes → Num (patterns_in s es n w₀) v
  at_node h = record { some = F.some; inside = omega (arith, F.headed.automaton.branched.numbered.all_nodes) }

  pub filling_telling : v ≤ nodes → Telling s es n nodes w v
  filling_telling h =
      record {
        owning = record { headed = headed_kept (kept-lower MARK (omega arith) F.kept) F.headed; node = rw same-members (at_node h) };
        outs = rw same-members F.outs;
        tallies = rw same-members F.tallies;
      }

  module _ {o : ℕ} (h : v ≤ nodes) (i : OutOf (slips_of s es) (members w n) v o) where
    pub filling_out : Room w OUT v o
    filling_out =
        let N = F.headed.automaton.branched.numbered in
        record {
          within = omega (arith, F.kept.same, N.room, N.few_nodes);
          small = omega (arith, i.inside, ap (λ M. length (nodes_of (patterns (slips_of s es) M))) same-members, N.all_nodes, N.few_nodes);
        }

    module _ {t : ℕ} {a : List ℕ} (y : Tallied (slips_of s es) (members w n) v t) (p : Put w OUT v o a) where
      pub filling_tally : Room a TALLY v t
      filling_tally =
          let N = F.headed.automaton.branched.numbered in
          record { within = omega (arith, p.same, F.kept.same, N.room, N.few_nodes); small = y.small }

      pub filling_more : {w' : List ℕ} (v' : ℕ) → Put a TALLY v t w' → v' ≡ v + 1 → Filling s es n nodes w₀ w' v'
      filling_more {w'} v' q e =
          let N = F.headed.automaton.branched.numbered in
          let few : v ≤ 2000 = omega (arith, N.few_nodes) in
          record {
            headed = F.headed;
            kept = record {
              same = q.same ∙ p.same ∙ F.kept.same;
              cells = λ x l. (put_only q).kept x (λ z. omega arith) ∙ (put_only p).kept x (λ z. omega arith) ∙ F.kept.cells x l;
            };
            some = omega arith;
            upto = omega arith;
            outs = λ u m l.
                let k : cell w' OUT u ≡ cell a OUT u = (put_only q).kept (OUT + u) (λ z. omega (arith, few)) in
                elim (ℕ_discrete u v) [
                  | yes z ↦ rw (k, z, put-here p filling_out.within) (rw same-members at i)
                  | no ne ↦ rw (k, put_other p u ne) (F.outs u m (omega arith))
                ];
            tallies = λ u l.
                elim (ℕ_discrete u v) [
                  | yes z ↦ rw (z, put-here q filling_tally.within) (rw same-members at y.is)
                  | no ne ↦ put_other q u ne ∙ (put_only p).kept (TALLY + u) (λ z. omega (arith, few)) ∙ F.tallies u (omega arith)
                ];
          }
