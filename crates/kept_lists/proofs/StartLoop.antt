-- STARTS and STARTS_NEXT: a kept member goes into the lists of the nodes that it begins with, letter by letter.
--   Beginning .. w₀ j i w p == as before the j-th kept member i was added, in w₀, but for the nodes that its letters before place p have
--   beginning-..            == no letter, one more, all
-- The letter at p has the one node of the beginning that ends there.
use mathlib.Core.Path.{◌≡◌, refl, sym, ap, ◌∙◌}
use mathlib.Core.Bool.{true}
use mathlib.Core.List.{List}
use Prim.Native.Nat.{ℕ, suc, ◌+◌, ◌-◌, ◌≤◌, ◌<◌}
use native.Mathlib.Omega.{arith}
use lib.Dec.{leb}
use lib.ListN.{length, take}
use lib.Seq.{length-take-le}
use borrow.Author.Tests.{leb-true, le-leb, lt-leb}
use Rattle.words.specs.Words.{begins}
use Rattle.words.proofs.Tests.{same_test}
use Rattle.words.proofs.Strings.{begins_prefix, begins-length}
use Rattle.trays.specs.Slips.{slips_of, slip, start_of, end_of, span_of}
use Rattle.trays.specs.declared.Span.{Span}
use Rattle.tables.specs.Tables.{Got}
use Rattle.matching.specs.Steps.Nodes.{string, IsNode, Num}
use Rattle.matching.proofs.NodeLaws.{node_some}
use Rattle.layout.specs.Layout.{AT, KEPT, STARTS, STARTS_NEXT}
use Rattle.layout.specs.Tables.{cell}
use Rattle.layout.specs.Numbered.{patterns_in, Numbered}
use Rattle.kept_lists.specs.Steps.KeptLists.{beginnings, Listing, ListedTo}
use Rattle.trie_heads.specs.Steps.Heads.{CanPush, Pushed}
use Rattle.trie_heads.proofs.MemberNodes.{Member, node_num}
use Rattle.kept_lists.proofs.AffixLoop.{OneMore, Adding, added, adding_none, adding_can, adding_more, adding_all}

one_longer : (c : ℕ) → OneMore (suc c) (λ m. leb m c) (λ m. leb m (suc c))
one_longer c =
    record {
      now = le-leb (suc c) (suc c) (omega arith);
      before = lt-leb (suc c) c (omega arith);
      others = λ m ne. same_test (leb m (suc c)) (leb m c) (λ t. le-leb m c (omega (arith, leb-true m (suc c) t)))
          (λ t. le-leb m (suc c) (omega (arith, leb-true m c t)));
    }

pub record Beginning (s es : List ℕ) (n k : ℕ) (w₀ : List ℕ) (j i end : ℕ) (w : List ℕ) (p : ℕ) : Type 0 where
  pub last : end ≡ end_of es i
  pub from : start_of es i ≤ p
  pub upto : p ≤ end_of es i
  pub adding : Adding beginnings s es n k w₀ j i w (λ m. leb m (p - start_of es i))

module _ {s es : List ℕ} {n k nodes : ℕ} {w₀ : List ℕ} {j i : ℕ} (S : Listing beginnings s es n k nodes w₀ (j + 1)) (g : Got w₀ KEPT j i) where
  abbrev x : List ℕ
  x = slip (slips_of s es) i

  abbrev ps : List (List ℕ)
  ps = patterns_in s es n w₀

  N : Numbered s es n nodes w₀
  N = S.staged.automaton.branched.numbered

  here : Member s es n w₀ i
  here = added S g

  pub beginning_start : (x : Span) → x ≡ span_of es i → Beginning s es n k w₀ j i x.end w₀ x.start
  beginning_start x e =
      rw e
      (record {
        last = refl;
        from = omega arith;
        upto = omega (arith, here.size);
        adding =
            adding_none S g (λ m. leb m (start_of es i - start_of es i))
            (λ v m t. lt-leb (length (string ps v)) (start_of es i - start_of es i) (omega (arith, (node_some ps v m).0)));
      })

  module _ {end : ℕ} {w : List ℕ} {p : ℕ} (B : Beginning s es n k w₀ j i end w p) (h : p < end) where
    within : p < end_of es i
    within = omega (arith, B.last)

    pub beginning_place : AT + p < length w
    beginning_place = omega (arith, within, here.fits, N.room, B.adding.below.same)

    module _ {u : ℕ} (a : Got w AT p u) where
      abbrev c : ℕ
      c = p - start_of es i

      node : IsNode ps u (take (suc c) x)
      node =
          let e : start_of es i + c ≡ p = omega (arith, B.from) in
          let q : cell w₀ AT p ≡ u = sym (a.is ∙ B.adding.below.cells (AT + p) (omega (arith, within, here.fits))) in
          rw (e, q) at (N.at i c here.among (omega (arith, within, here.size, B.from)))

      long : length (string ps u) ≡ suc c
      long = ap length node.is ∙ length-take-le (suc c) x (omega (arith, within, here.size, B.from))

      num : Num ps u
      num = node_num ps node (omega (arith, long, ap length node.is))

      has : begins (string ps u) x ≡ true
      has = rw node.is (begins_prefix (suc c) x)

      place : start_of es i + (suc c - 1) ≡ p
      place = omega (arith, B.from)

      pub beginning_can : CanPush w STARTS u STARTS_NEXT p i
      beginning_can = rw place at (adding_can S g B.adding num long has)

      pub beginning_more : {w' : List ℕ} → Pushed w STARTS u STARTS_NEXT p i w' → (p' : ℕ) → p' ≡ p + 1 → Beginning s es n k w₀ j i end w' p'
      beginning_more y p' e =
          let f : p' - start_of es i ≡ suc c = omega (arith, B.from) in
          record {
            last = B.last;
            from = omega (arith, B.from);
            upto = omega (arith, within);
            adding = rw f (adding_more S g B.adding num long has (one_longer c) y (sym place));
          }

  pub beginning_all : {end : ℕ} {w : List ℕ} {p : ℕ} → Beginning s es n k w₀ j i end w p → end ≤ p → ListedTo beginnings s es n k nodes w₀ j w
  beginning_all {p = p} B l =
      adding_all S g B.adding
      (λ v m t. le-leb (length (string ps v)) (p - start_of es i) (omega (arith, begins-length (string ps v) x t, B.last, B.upto, here.size)))
