-- The members that end a string, along output links.
--   by_list            == cases on a list, with its equation
--   owned-..           == longest_owned: of a string that is a member's, of one that is not, of the state of a text
--   out-..             == the output link of a node, from its failure link
--   ending_out         == what ends a node's string: the members that are all of it, then what ends the string of its output link
--   ending_link        == the same by its failure link
--   ending_outs        == what ends a node's string, node by node along the output links
--   ending_most        == no more members end a string than there are
-- What ends a string is what is all of it, then what ends it without its first letter. So an ending that is no member's whole string may be
-- passed over, and a member's whole string is a node, so that the failure link passes over none.
use mathlib.Core.Path.{◌≡◌, refl, sym, ap, ◌∙◌}
use mathlib.Core.Bool.{Bool, false}
use mathlib.Core.List.{List, [], ◌∷◌, ◌++◌}
use Prim.Native.Nat.{ℕ, zero, suc, ◌≤◌, ◌<◌}
use native.Mathlib.Decide.{ℕ_discrete}
use native.Mathlib.Omega.{arith}
use lib.ListN.{length}
use borrow.Author.Tests.{eq-eqb, ne_eqb}
use Rattle.words.specs.Lists.{each, those, insert, in_order, tail_of}
use Rattle.words.specs.Words.{same, ends}
use Rattle.words.proofs.Tests.{by_test, not_both}
use Rattle.words.proofs.Members.{In, Asc, those-yes, those_no}
use Rattle.words.proofs.Picks.{those_none}
use Rattle.words.proofs.Orders.{same-is}
use Rattle.words.proofs.Strings.{begins-refl}
use Rattle.trays.specs.Slips.{slip}
use Rattle.matching.specs.Moves.{begins_some, longest_ending}
use Rattle.matching.specs.Occurrences.{first_here}
use Rattle.matching.specs.Steps.Nodes.{nodes_of, string, IsNode, Num}
use Rattle.matching.proofs.Endings.{slip-some}
use Rattle.matching.proofs.States.{fail, longest_whole, longest_skip}
use Rattle.matching.proofs.Finds.{ending_of, ending_cons, ending_none, ending_longest}
use Rattle.matching.proofs.Numbering.{lower_shorter}
use Rattle.matching.proofs.NodeLaws.{node_root, is_root, node_some, node_lower}
use Rattle.matching.proofs.Paths.{path}
use Rattle.layout.specs.Tables.{patterns, owners}
use Rattle.trie_outputs.specs.Steps.Outputs.{longest_owned, OutOf, OutIs}

pub by_list : {P : Type 0} (xs : List ℕ) → (xs ≡ [] → P) → ((i : ℕ) (is : List ℕ) → xs ≡ i ∷ is → P) → P
by_list [] f g = f refl
by_list (i ∷ is) f g = g i is refl

-- how many pass a test, and how many stand in order
pub length-those : (t : ℕ → Bool) (xs : List ℕ) → length (those t xs) ≤ length xs
length-those t [] = omega arith
length-those t (x ∷ xs) =
    by_test (t x)
    (λ e. rw (those-yes t x xs e) (omega (arith, length-those t xs)))
    (λ e. rw (those_no t x xs e) (omega (arith, length-those t xs)))

length-insert : (lt : ℕ → ℕ → Bool) (x : ℕ) (ys : List ℕ) → length (insert lt x ys) ≤ suc (length ys)
length-insert lt x [] = omega arith
length-insert lt x (y ∷ ys) =
    by_test (lt x y)
    (λ e. rw (e, insert) (omega arith))
    (λ e. by_test (lt y x) (λ f. rw (e, f, insert) (omega (arith, length-insert lt x ys))) (λ f. rw (e, f, insert) (omega arith)))

length-in_order : (lt : ℕ → ℕ → Bool) (xs : List ℕ) → length (in_order lt xs) ≤ length xs
length-in_order lt [] = omega arith
length-in_order lt (x ∷ xs) = omega (arith, length-insert lt x (in_order lt xs), length-in_order lt xs)

module _ (ss : List (List ℕ)) (M : List ℕ) where
  pub ending_most : (t : List ℕ) → length (ending_of ss M t) ≤ length M
  ending_most t =
      omega (arith, length-in_order (first_here ss) (those (λ i. ends (slip ss i) t) M), length-those (λ i. ends (slip ss i) t) M)

  -- a string with a letter: a member's whole string, or not
  pub owned-here : (x : List ℕ) (i : ℕ) (is : List ℕ) → owners ss M x ≡ i ∷ is → longest_owned ss M x ≡ x
  owned-here [] i is e = refl
  owned-here (a ∷ t) i is e = rw (e, longest_owned)

  pub owned_past : (x : List ℕ) → owners ss M x ≡ [] → longest_owned ss M x ≡ longest_owned ss M (tail_of x)
  owned_past [] e = refl
  owned_past (a ∷ t) e = rw (e, longest_owned)

  owned-length : (t : List ℕ) → length (longest_owned ss M t) ≤ length t
  owned-length [] = omega arith
  owned-length (a ∷ t) =
      by_list (owners ss M (a ∷ t))
      (λ e. rw (owned_past (a ∷ t) e) (omega (arith, owned-length t)))
      (λ i is e. rw (owned-here (a ∷ t) i is e) (omega arith))

  pub ending_owned : Asc ◌<◌ M → (t : List ℕ) → ending_of ss M t ≡ ending_of ss M (longest_owned ss M t)
  ending_owned asc [] = refl
  ending_owned asc (a ∷ t) =
      by_list (owners ss M (a ∷ t))
      (λ e. ending_cons ss M a t asc ∙ rw (e, owned_past (a ∷ t) e) (ending_owned asc t))
      (λ i is e. rw (owned-here (a ∷ t) i is e))

  abbrev ps : List (List ℕ)
  ps = patterns ss M

  -- a member's whole string is a node
  owners_none : (x : List ℕ) → begins_some x ps ≡ false → owners ss M x ≡ []
  owners_none x e =
      those_none (λ i. same (slip ss i) x) M
      (λ i m. by_test (same (slip ss i) x)
      (λ h. absurd (not_both (begins_some x ps) (slip-some ss M x m (rw (same-is (slip ss i) x h) (begins-refl x))) e)) (λ h. h))

  pub owned_longest : (t : List ℕ) → longest_owned ss M t ≡ longest_owned ss M (longest_ending t ps)
  owned_longest [] = refl
  owned_longest (a ∷ t) =
      by_test (begins_some (a ∷ t) ps)
      (λ e. rw (longest_whole ps (a ∷ t) e))
      (λ e. rw (longest_skip ps a t e) (owned_past (a ∷ t) (owners_none (a ∷ t) e) ∙ owned_longest t))

  -- the output link of v, from its failure link f
  module _ (v : ℕ) {f : ℕ} (l : IsNode ps f (fail ps (string ps v))) where
    by_link : longest_owned ss M (tail_of (string ps v)) ≡ longest_owned ss M (string ps f)
    by_link = owned_longest (tail_of (string ps v)) ∙ ap (longest_owned ss M) (sym l.is)

    pub out_root : f ≡ 0 → OutOf ss M v 0
    out_root z = rw (by_link, z, node_root ps) (is_root ps)

    pub out_here : (i : ℕ) (is : List ℕ) → owners ss M (string ps f) ≡ i ∷ is → OutOf ss M v f
    out_here i is e = record { inside = l.inside; is = sym (by_link ∙ owned-here (string ps f) i is e) }

    pub out_next : {o : ℕ} → owners ss M (string ps f) ≡ [] → OutOf ss M f o → OutOf ss M v o
    out_next e m = record { inside = m.inside; is = m.is ∙ sym (by_link ∙ owned_past (string ps f) e) }

  module _ (asc : Asc ◌<◌ M) where
    ending_tail : (x : List ℕ) → 1 ≤ length x → ending_of ss M x ≡ owners ss M x ++ ending_of ss M (tail_of x)
    ending_tail [] h = absurd (omega arith)
    ending_tail (a ∷ t) h = ending_cons ss M a t asc

    pub ending_out : {o : ℕ} (v : ℕ) → Num ps v → OutOf ss M v o → ending_of ss M (string ps v) ≡ owners ss M (string ps v) ++ ending_of ss M (string ps o)
    ending_out v n m =
        ending_tail (string ps v) (node_some ps v n).0
        ∙ ap (λ l. owners ss M (string ps v) ++ l) (ending_owned asc (tail_of (string ps v)) ∙ ap (ending_of ss M) (sym m.is))

    pub ending_link : {f : ℕ} (v : ℕ) → Num ps v → IsNode ps f (fail ps (string ps v))
        → ending_of ss M (string ps v) ≡ owners ss M (string ps v) ++ ending_of ss M (string ps f)
    ending_link v n m =
        ending_tail (string ps v) (node_some ps v n).0
        ∙ ap (λ l. owners ss M (string ps v) ++ l)
        (ending_longest ss M ps (λ k i. slip-some ss M (slip ss k) i (begins-refl (slip ss k))) (tail_of (string ps v)) ∙ ap (ending_of ss M) (sym m.is))

    pub ending_root : ((k : ℕ) → In k M → 1 ≤ length (slip ss k)) → ending_of ss M (string ps 0) ≡ []
    ending_root some = ap (ending_of ss M) (node_root ps) ∙ ending_none ss M some

    -- all members that end a node's string: those of the node, of its output link, of the output link of that, ..
    module _ (some : (k : ℕ) → In k M → 1 ≤ length (slip ss k)) (out : ℕ → ℕ) (O : OutIs ss M out) where
      tail_shorter : (x : List ℕ) → 1 ≤ length x → length (longest_owned ss M (tail_of x)) < length x
      tail_shorter [] h = absurd (omega arith)
      tail_shorter (a ∷ t) h = omega (arith, owned-length t)

      pub out_below : (v : ℕ) → Num ps v → out v < v
      out_below v n =
          let m = O v n in
          node_lower ps (out v) v m.inside n.inside
          (lower_shorter (string ps (out v)) (string ps v) (rw m.is (tail_shorter (string ps v) (node_some ps v n).0)))

      pub ending_outs : (n v : ℕ) → v < length (nodes_of ps) → v ≤ n → ending_of ss M (string ps v) ≡ each (λ u. owners ss M (string ps u)) (path out n v)
      ending_outs zero v h l = let e : v ≡ 0 = omega arith in rw e (ending_root some)
      ending_outs (suc n) v h l =
          elim (ℕ_discrete v 0) [
            | yes e ↦ rw (eq-eqb v 0 e, path, e) (ending_root some)
            | no ne ↦
                let k : Num ps v = record { some = omega arith; inside = h } in
                rw (ne_eqb v 0 ne, path)
                (ending_out v k (O v k)
                ∙ ap (λ l. owners ss M (string ps v) ++ l) (ending_outs n (out v) (O v k).inside (omega (arith, out_below v k))))
          ]
