-- Members of a tray, where they stand and the nodes of their letters.
--   member-..        == a member, its stretch and its nodes, in the work area of an automaton
-- Letter c of a member has the node of its first c + 1 letters, so its last letter has the node of the whole.
use mathlib.Core.Path.{◌≡◌, sym, ap, ◌∙◌}
use mathlib.Core.List.{List}
use Prim.Native.Nat.{ℕ, suc, ◌+◌, ◌-◌, ◌≤◌, ◌<◌}
use native.Mathlib.Decide.{ℕ_discrete}
use native.Mathlib.Omega.{arith}
use lib.ListN.{length}
use lib.Seq.{take_all}
use Rattle.words.proofs.Members.{In}
use Rattle.words.proofs.Picks.{get_or_in}
use Rattle.trays.specs.Limits.{max_slips, max_letters}
use Rattle.trays.specs.Slips.{slips_of, slip, start_of, end_of}
use Rattle.trays.specs.Slips.{span_of}
use Rattle.trays.specs.declared.Span.{Span}
use Rattle.trays.proofs.Accepted.{accepted_tells}
use Rattle.trays.proofs.Spans.{accepted_spanned}
use Rattle.tables.specs.Tables.{Got}
use Rattle.tables.proofs.Tables.{table_at}
use Rattle.matching.specs.Steps.Nodes.{string, IsNode, Num}
use Rattle.matching.proofs.NodeLaws.{node_root}
use Rattle.layout.specs.Layout.{MEMBERS, AT}
use Rattle.layout.specs.Tables.{cell, members}
use Rattle.layout.specs.Numbered.{patterns_in, Numbered}
use Rattle.layout.proofs.Heads.{members-length}
use Rattle.trie_heads.specs.Steps.Heads.{Among}

-- a node with a letter
pub node_num : (ps : List (List ℕ)) {v : ℕ} {x : List ℕ} → IsNode ps v x → 1 ≤ length x → Num ps v
node_num ps {v} {x} n h =
    record {
      some = elim (ℕ_discrete v 0) [ yes z ↦ absurd (omega (arith, ap length (sym n.is ∙ ap (string ps) z ∙ node_root ps))) | no ne ↦ omega arith ];
      inside = n.inside;
    }

-- a member
pub record Member (s es : List ℕ) (n : ℕ) (w : List ℕ) (i : ℕ) : Type 0 where
  pub among : In i (members w n)
  pub some : 1 ≤ i
  pub most : i ≤ length es
  pub few : i ≤ max_slips
  pub letters : 1 ≤ length (slip (slips_of s es) i)
  pub size : start_of es i + length (slip (slips_of s es) i) ≡ end_of es i
  pub fits : end_of es i ≤ max_letters

module _ {s es : List ℕ} {n nodes : ℕ} {w : List ℕ} (N : Numbered s es n nodes w) where
  pub in_member : (i : ℕ) → In i (members w n) → Member s es n w i
  in_member i m =
      let (h, l) = N.real i m in
      let acc = N.accepted in
      let span = accepted_spanned s es acc in
      record {
        among = m;
        some = h;
        most = l;
        few = omega (arith, (accepted_tells s es acc).few);
        letters = span.some i h l;
        size = span.long i h l;
        fits = span.fits i l;
      }

  pub got_member : {j i : ℕ} → Got w MEMBERS j i → j < n → Member s es n w i
  got_member {j} {i} g h =
      in_member i (rw (sym (g.is ∙ sym (table_at w MEMBERS n j h))) at (get_or_in 0 (members w n) j (rw (members-length N) h)))

  -- the node of a whole member
  pub member_node : {i : ℕ} → Member s es n w i → IsNode (patterns_in s es n w) (cell w AT (end_of es i - 1)) (slip (slips_of s es) i)
  member_node {i} m =
      let x = slip (slips_of s es) i in
      let c = length x - 1 in
      let e : start_of es i + c ≡ end_of es i - 1 = omega (arith, m.letters, m.size) in
      let f : suc c ≡ length x = omega (arith, m.letters) in
      rw (e, f, take_all (length x) x (omega arith)) at (N.at i c m.among (omega (arith, m.letters)))

  pub node_most : {v : ℕ} {x : List ℕ} → IsNode (patterns_in s es n w) v x → v ≤ nodes
  node_most v = omega (arith, v.inside, N.all_nodes)

-- what `node_of` asks and gives
module _ {s es : List ℕ} {n nodes : ℕ} {w : List ℕ} {i : ℕ} (a : Among s es n nodes w i) where
  pub among_member : Member s es n w i
  among_member = in_member a.automaton.branched.numbered i a.member

  module _ (x : Span) (e : x ≡ span_of es i) where
    pub among_end : 1 ≤ x.end
    among_end = rw e (omega (arith, among_member.letters, among_member.size))

    pub among-place : AT + (x.end - 1) < length w
    among-place = rw e (omega (arith, among_member.fits, a.automaton.branched.numbered.room))

    pub among_node : (r : ℕ) → Got w AT (x.end - 1) r → IsNode (patterns_in s es n w) r (slip (slips_of s es) i)
    among_node r g = rw (g.is, e) (member_node a.automaton.branched.numbered among_member)
