-- HEAD and TWIN: the members of each node's letters, filled from the last member on.
--   Heading .. w j     == the members from the j-th on are in the lists
--   heading-..         == none of them, one more, all
-- A member has the letters of one node. It goes before those of the list that came already, which are higher.
use mathlib.Core.Path.{◌≡◌, refl, sym, ◌∙◌}
use mathlib.Core.Bool.{false}
use mathlib.Core.Logic.{inl, inr}
use mathlib.Core.List.{List, ◌∷◌}
use Prim.Native.Nat.{ℕ, ◌+◌, ◌-◌, ◌≤◌, ◌<◌}
use native.Mathlib.Omega.{arith}
use lib.ListN.{length, get_or, drop, replicate, drop_of_length-le}
use Rattle.words.specs.Words.{same}
use Rattle.words.proofs.Tests.{tell}
use Rattle.words.proofs.Orders.{same-is, same_at}
use Rattle.words.proofs.Members.{those-yes, those_no, in_those}
use Rattle.trays.specs.Slips.{slips_of, slip}
use Rattle.tables.specs.Tables.{Got, Filled}
use Rattle.tables.proofs.Tables.{table_at}
use Rattle.matching.specs.Steps.Nodes.{string, IsNode, Num}
use Rattle.matching.proofs.NodeLaws.{node_one}
use Rattle.layout.specs.Layout.{MEMBERS, HEAD, TWIN}
use Rattle.layout.specs.Tables.{cell, members, owners}
use Rattle.layout.specs.Numbered.{patterns_in, Automaton, SameBelow}
use Rattle.layout.proofs.Frames.{members_kept, automaton_kept}
use Rattle.layout.proofs.Heads.{members-length, num_most}
use Rattle.layout.proofs.AreaSlips.{area_slips}
use Rattle.trie_heads.specs.Steps.Heads.{Among, CanPush, Pushed, Lists, HeadsFilled}
use Rattle.trie_heads.proofs.Threading.{drop_here, drop-later, push_lists}
use Rattle.trie_heads.proofs.Keeping.{kept_trans, kept_filled, kept_pushed, cleared}
use Rattle.trie_heads.proofs.MemberNodes.{Member, got_member, node_num, node_most}

pub record Heading (s es : List ℕ) (n nodes : ℕ) (w : List ℕ) (j : ℕ) : Type 0 where
  pub automaton : Automaton s es n nodes w
  pub upto : j ≤ n
  pub lists : Lists (Num (patterns_in s es n w)) (λ v r. r) (cell w HEAD) (cell w TWIN)
      (λ v. owners (slips_of s es) (drop j (members w n)) (string (patterns_in s es n w) v))

module _ {s es : List ℕ} {n nodes : ℕ} {w : List ℕ} where
  pub heading_start : {w' : List ℕ} → Automaton s es n nodes w → Filled HEAD (nodes + 1) (replicate (nodes + 1) 0) w w' → Heading s es n nodes w' n
  heading_start {w'} A f =
      let B = automaton_kept (kept_filled f) A in
      let N = B.branched.numbered in
      record {
        automaton = B;
        upto = omega arith;
        lists =
            rw (drop_of_length-le (members w' n) {i = n} (rw (members-length N) (omega arith))) (λ v m. cleared f (omega (arith, num_most N v m)));
      }

  pub heading_all : {a w' : List ℕ} {j : ℕ} → Filled HEAD (nodes + 1) (replicate (nodes + 1) 0) w a → SameBelow HEAD a w' → Heading s es n nodes w' j →
      j ≤ 0 → HeadsFilled s es n nodes w w'
  heading_all {w' = w'} {j = j} f k H l =
      let e : j ≡ 0 = omega arith in
      record {
        headed = record { automaton = H.automaton; heads = λ v m. rw e at (H.lists v m) };
        below = kept_trans (kept_filled f) k;
      }

  module _ {j i : ℕ} (H : Heading s es n nodes w j) (h : 0 < j) (g : Got w MEMBERS (j - 1) i) where
    heading_member : Member s es n w i
    heading_member = got_member H.automaton.branched.numbered g (omega (arith, H.upto))

    pub heading_among : Among s es n nodes w i
    heading_among = record { automaton = H.automaton; member = heading_member.among }

    module _ {v : ℕ} (m : IsNode (patterns_in s es n w) v (slip (slips_of s es) i)) where
      open area_slips s es n w use {ss, ps}

      pub heading_can : CanPush w HEAD v TWIN i i
      heading_can =
          let N = H.automaton.branched.numbered in
          record {
            head = omega (arith, node_most N m, N.few_nodes);
            next = omega (arith, heading_member.few, N.room);
            small = omega (arith, heading_member.few);
          }

      pub heading_kept : {w' : List ℕ} → Pushed w HEAD v TWIN i i w' → SameBelow HEAD w w'
      heading_kept x = kept_pushed (omega arith) x

      pub heading_more : {w' : List ℕ} → Pushed w HEAD v TWIN i i w' → Heading s es n nodes w' (j - 1)
      heading_more {w'} x =
          let k = heading_kept x in
          let N = H.automaton.branched.numbered in
          let M = members w n in
          let l : j - 1 < length M = rw (members-length N) (omega (arith, H.upto)) in
          let a : j ≡ j - 1 + 1 = omega arith in
          let e : i ≡ get_or M (j - 1) 0 = g.is ∙ sym (table_at w MEMBERS n (j - 1) (omega (arith, H.upto))) in
          let f : members w' n ≡ M = members_kept n (omega (arith, N.few_members)) k in
          let xs = drop j M in
          let other : (u : ℕ) → Num ps u → (u ≡ v → ⊥) → same (slip ss i) (string ps u) ≡ false =
          λ u q ne. elim (tell (same (slip ss i) (string ps u))) [
            | inl t ↦ absurd (ne (node_one ps (record { inside = q.inside; is = sym (same-is (slip ss i) (string ps u) t) }) m))
            | inr t ↦ t
          ] in
          record {
            automaton = automaton_kept k H.automaton;
            upto = omega (arith, H.upto);
            lists =
                rw (f, drop_here M (j - 1) j i a l e)
                (push_lists (Num ps) (λ u r. r) (λ u. owners ss xs (string ps u)) (λ u. owners ss (i ∷ xs) (string ps u)) w HEAD v TWIN i i w' x refl
                (λ u q. omega (arith, num_most N u q, N.few_nodes))
                (node_num ps m heading_member.letters)
                (λ u r q t z. let b = drop-later M (j - 1) j i a l e N.ascending (in_those (λ i. same (slip ss i) (string ps u)) xs t).0 in omega arith)
                (those-yes (λ i. same (slip ss i) (string ps v)) i xs (rw m.is (same_at (slip ss i))))
                (λ u q ne. those_no (λ i. same (slip ss i) (string ps u)) i xs (other u q ne))
                H.lists);
          }
