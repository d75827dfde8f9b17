-- KEPT: the members that are not set aside, in turn.
--   Sifting .. w j k   == of the first j members k are kept, and these stand in KEPT
--   sifting-..         == none of them, one set aside, one kept, all
--   marked_kept        == what is written behind MARK leaves the marks as they are
use mathlib.Core.Path.{◌≡◌, refl, sym, ap, ◌∙◌}
use mathlib.Core.Bool.{Bool, true, false, not}
use mathlib.Core.List.{List, [], ◌∷◌, ◌++◌, append-nil}
use Prim.Native.Nat.{ℕ, suc, ◌+◌, ◌≤◌, ◌<◌}
use native.Mathlib.Numerals.{add-one}
use native.Mathlib.Omega.{arith}
use lib.ListN.{length, take}
use lib.Seq.{take-suc, take_all}
use Rattle.words.specs.Lists.{those}
use Rattle.words.proofs.Members.{those-yes, those_no, those_append}
use Rattle.trays.specs.Limits.{max_slips}
use Rattle.trays.specs.Slips.{slips_of}
use Rattle.trays.specs.Aside.{is_aside, kept}
use Rattle.tables.specs.Tables.{Got, Put, Room, table}
use Rattle.tables.proofs.Tables.{table_at, table-length, put_more}
use Rattle.matching.specs.Steps.Nodes.{Num}
use Rattle.layout.specs.Layout.{MEMBERS, FAIL, MARK, KEPT}
use Rattle.layout.specs.Tables.{cell, members}
use Rattle.layout.specs.Numbered.{patterns_in, SameBelow}
use Rattle.layout.proofs.Frames.{kept-lower, members_kept, patterns-kept}
use Rattle.kept_slips.specs.Steps.Kept.{Marked, Judged, KeptFilled}
use Rattle.trie_heads.proofs.Keeping.{kept_put}
use Rattle.layout.proofs.Heads.{members-length, num_most}
use Rattle.trie_heads.proofs.MemberNodes.{got_member, node_most}
use Rattle.layout.proofs.Heads.{headed_kept}

pub marked_kept : {s es : List ℕ} {n nodes : ℕ} {w w' : List ℕ} → SameBelow KEPT w w' → Marked s es n nodes w → Marked s es n nodes w'
marked_kept {s} {es} {n} {nodes} {w} {w'} k X =
    let A = X.headed.automaton in
    let N = A.branched.numbered in
    let ps = patterns_in s es n w in
    let fail : (v : ℕ) → Num ps v → cell w' FAIL v ≡ cell w FAIL v = λ v m. k.cells (FAIL + v) (omega (arith, num_most N v m, N.few_nodes)) in
    let mark : (u : ℕ) → u ≤ nodes → cell w' MARK u ≡ cell w MARK u = λ u h. k.cells (MARK + u) (omega (arith, N.few_nodes)) in
    record {
      headed = headed_kept (kept-lower MARK (omega arith) k) X.headed;
      marks =
          rw (patterns-kept N (omega arith) k)
          (record {
            into = λ v m. rw (fail v m, mark (cell w FAIL v) (node_most N (A.fails v m))) (X.marks.into v m);
            back = λ u h e.
                let (v, m, q) = X.marks.back u h (sym (mark u (omega (arith, N.all_nodes))) ∙ e) in
                (v, m, fail v m ∙ q);
          });
    }

abbrev stays : List (List ℕ) → List ℕ → ℕ → Bool
stays ss M i = not (is_aside ss M i)

pub record Sifting (s es : List ℕ) (n nodes : ℕ) (w : List ℕ) (j k : ℕ) : Type 0 where
  pub marked : Marked s es n nodes w
  pub upto : j ≤ n
  pub fewer : k ≤ j
  pub list : table w KEPT k ≡ those (stays (slips_of s es) (members w n)) (take j (members w n))

module _ {s es : List ℕ} {n nodes : ℕ} {w : List ℕ} where
  pub sifting_start : Marked s es n nodes w → Sifting s es n nodes w 0 0
  unfolding table
  sifting_start X = record { marked = X; upto = omega arith; fewer = omega arith; list = refl }

  module _ {j k : ℕ} (S : Sifting s es n nodes w j k) (h : j < n) {i : ℕ} (g : Got w MEMBERS j i) where
    abbrev M : List ℕ
    M = members w n

    abbrev t : ℕ → Bool
    t = stays (slips_of s es) M

    sifting_next : take (suc j) M ≡ take j M ++ (i ∷ [])
    sifting_next =
        let N = S.marked.headed.automaton.branched.numbered in
        take-suc M j 0 (rw (members-length N) h) ∙ ap (λ x. take j M ++ (x ∷ [])) (table_at w MEMBERS n j h ∙ sym g.is)

    pub sifting_judged : Judged s es n nodes w i
    sifting_judged =
        let m = got_member S.marked.headed.automaton.branched.numbered g h in
        record { marked = S.marked; member = m.among; few = m.few }

    pub sifting_aside : {b : Bool} (j' : ℕ) → b ≡ is_aside (slips_of s es) (members w n) i → b ≡ true → j' ≡ j + 1 → Sifting s es n nodes w j' k
    sifting_aside j' e y q =
        record {
          marked = S.marked;
          upto = omega arith;
          fewer = omega (arith, S.fewer);
          list =
              rw (q, add-one j, sifting_next, those_append t (take j M) (i ∷ []), those_no t i [] (rw (sym e ∙ y)), append-nil)
              S.list;
        }

    pub sifting_can : Room w KEPT k i
    sifting_can =
        let N = S.marked.headed.automaton.branched.numbered in
        record { within = omega (arith, S.fewer, N.few_members, N.room); small = g.small }

    pub sifting_kept : {b : Bool} {w' : List ℕ} (j' k' : ℕ) → b ≡ is_aside (slips_of s es) (members w n) i → b ≡ false → Put w KEPT k i w' →
        k' ≡ k + 1 → j' ≡ j + 1 → Sifting s es n nodes w' j' k'
    sifting_kept {w' = w'} j' k' e y p f q =
        let N = S.marked.headed.automaton.branched.numbered in
        let z : members w' n ≡ M = members_kept n (omega (arith, N.few_members)) (kept_put p) in
        record {
          marked = marked_kept (kept_put p) S.marked;
          upto = omega arith;
          fewer = omega (arith, S.fewer);
          list =
              rw (z, q, add-one j, sifting_next, those_append t (take j M) (i ∷ []), those-yes t i [] (rw (sym e ∙ y)))
              (put_more p k' sifting_can.within f ∙ ap (λ l. l ++ (i ∷ [])) S.list);
        }

  pub sifting_all : {w' : List ℕ} {j k : ℕ} → Marked s es n nodes w → Sifting s es n nodes w' j k → SameBelow KEPT w w' → n ≤ j → KeptFilled s es n nodes w k w'
  sifting_all {w'} {j} {k} X S b l =
      let N = S.marked.headed.automaton.branched.numbered in
      let ss = slips_of s es in
      let e : j ≡ n = omega (arith, S.upto) in
      let same : members w' n ≡ members w n = members_kept n (omega (arith, N.few_members)) b in
      let f : take j (members w' n) ≡ members w' n = take_all j (members w' n) (rw (members-length N) l) in
      let q : table w' KEPT k ≡ kept ss (members w' n) = S.list ∙ ap (those (stays ss (members w' n))) f in
      let few : k ≤ max_slips = omega (arith, S.fewer, N.few_members) in
      record {
        staged = record { automaton = S.marked.headed.automaton; few_kept = few; kept_are = q };
        all = sym (table-length w' KEPT k (omega (arith, N.room))) ∙ ap length q ∙ ap (λ m. length (kept ss m)) same;
        below = b;
      }
