-- Counting the members of a node's letters along TWIN.
--   Counting .. v i k   == k of them are counted, and the others run from i on
use mathlib.Core.Path.{◌≡◌, refl, sym, ap, subst, ◌∙◌}
use mathlib.Core.List.Memᴰ
use mathlib.Core.List.{List, ◌∷◌}
use Prim.Native.Nat.{ℕ, ◌+◌, ◌-◌, ◌≤◌, ◌<◌}
use native.Mathlib.Omega.{arith}
use lib.ListN.{length}
use Rattle.words.specs.Words.{same}
use Rattle.words.proofs.Members.{In, in_those}
use Rattle.trays.specs.Slips.{slips_of, slip}
use Rattle.tables.specs.Tables.{Got}
use Rattle.matching.specs.Steps.Nodes.{string}
use Rattle.layout.specs.Layout.{HEAD, TWIN}
use Rattle.layout.specs.Tables.{cell, members, owners, Threaded}
use Rattle.layout.specs.Numbered.{patterns_in}
use Rattle.trie_outputs.specs.Steps.Outputs.{Owning}
use Rattle.trie_outputs.proofs.Outs.{by_list, length-those}
use Rattle.layout.proofs.Heads.{member_few, member_some, members-length}

pub record Counting (s es : List ℕ) (n nodes : ℕ) (w : List ℕ) (v i k : ℕ) : Type 0 where
  pub owning : Owning s es n nodes w v
  pub rest : List ℕ
  pub threaded : Threaded (cell w TWIN) i rest
  pub among : (x : ℕ) → In x rest → In x (members w n)
  pub few : k ≤ n
  pub all : k + length rest ≡ length (owners (slips_of s es) (members w n) (string (patterns_in s es n w) v))

module _ {s es : List ℕ} {n nodes : ℕ} {w : List ℕ} {v : ℕ} (O : Owning s es n nodes w v) where
  pub counting_start : {i : ℕ} → Got w HEAD v i → Counting s es n nodes w v i 0
  counting_start g =
      let M = members w n in
      let x = string (patterns_in s es n w) v in
      record {
        owning = O;
        rest = owners (slips_of s es) M x;
        threaded = rw g.is (O.headed.heads v O.node);
        few = omega arith;
        among = λ y m. (in_those (λ i. same (slip (slips_of s es) i) x) M m).0;
        all = omega arith;
      }

module _ {s es : List ℕ} {n nodes : ℕ} {w : List ℕ} {v i k : ℕ} (C : Counting s es n nodes w v i k) where
  most : k + length C.rest ≤ n
  most =
      let N = C.owning.headed.automaton.branched.numbered in
      let x = string (patterns_in s es n w) v in
      omega (arith, C.all, length-those (λ i. same (slip (slips_of s es) i) x) (members w n), members-length N)

  -- i is not 0: it is the first of those that are left
  module _ (h : i ≡ 0 → ⊥) where
    first : (y : ℕ) × (ys : List ℕ) × (C.rest ≡ y ∷ ys)
    first = by_list C.rest (λ e. absurd (h (subst (Threaded (cell w TWIN) i) e C.threaded))) (λ y ys e. (y, ys, e))

    run : Threaded (cell w TWIN) i (first.0 ∷ first.1)
    run = subst (Threaded (cell w TWIN) i) first.2 C.threaded

    in_rest : {x : ℕ} → In x (first.0 ∷ first.1) → In x (members w n)
    in_rest {x} m = C.among x (subst (In x) (sym first.2) m)

    pub counting_room : TWIN + i < length w
    counting_room =
        let N = C.owning.headed.automaton.branched.numbered in
        omega (arith, run.0, member_few N first.0 (in_rest (Memᴰ.head refl)), N.room)

    pub counting_less : (k' : ℕ) → k' ≡ k + 1 → n - k' < n - k
    counting_less k' e = omega (arith, most, ap length first.2)

    pub counting_more : {j : ℕ} (k' : ℕ) → Got w TWIN i j → k' ≡ k + 1 → Counting s es n nodes w v j k'
    counting_more k' g e =
        record {
          owning = C.owning;
          rest = first.1;
          threaded = subst (λ x. Threaded (cell w TWIN) x first.1) (sym (g.is ∙ ap (cell w TWIN) run.0)) run.1;
          among = λ x m. in_rest (Memᴰ.tail m);
          few = omega (arith, most, ap length first.2);
          all = omega (arith, C.all, ap length first.2);
        }

  pub counting_all : i ≡ 0 → k ≡ length (owners (slips_of s es) (members w n) (string (patterns_in s es n w) v))
  counting_all z =
      let N = C.owning.headed.automaton.branched.numbered in
      by_list C.rest
      (λ e. omega (arith, C.all, ap length e))
      (λ y ys e. absurd (omega (
        arith,
        (subst (Threaded (cell w TWIN) i) e C.threaded).0,
        member_some N y (C.among y (subst (In y) (sym e) (Memᴰ.head refl))),
      )))
