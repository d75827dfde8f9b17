-- The members of a tray in the order of their letters, and the nodes that are found in that order.
--   Ranked ss es M O  == O are the members M of the tray in the order of their letters
--   nodes_are         == the nodes are the levels over the strings in that order
--   nodes_few         == at most 2,000 nodes have a letter: each is a prefix of a member, and a slip has as many prefixes as letters
-- Both lists of nodes ascend by `lower`, and both have exactly the empty string and the prefixes of the members.
use mathlib.Core.Path.{◌≡◌, refl, sym, ap, ◌∙◌}
use mathlib.Core.Bool.{Bool}
use mathlib.Core.Logic.{inl, inr}
use mathlib.Core.List.Memᴰ
use mathlib.Core.List.{List, [], ◌∷◌, map}
use Prim.Native.Nat.{ℕ, suc, ◌≤◌, ◌<◌}
use native.Mathlib.Decide.{ℕ_discrete}
use native.Mathlib.Omega.{arith}
use lib.ListN.{length, get_or, take, length-append, length-map}
use Rattle.words.specs.Lists.{up_from, insert, in_order}
use Rattle.words.proofs.Tests.{tell, not_both}
use Rattle.words.proofs.Members.{In, Asc, Less, Sorts, asc_one}
use Rattle.words.proofs.Picks.{get_or_in, in_get_or, asc_differ}
use Rattle.words.proofs.Sums.{sum}
use Rattle.words.proofs.Runs.{length-up_from}
use Rattle.trays.specs.Limits.{max_slip, max_letters}
use Rattle.trays.specs.Slips.{slip}
use Rattle.matching.specs.Steps.Nodes.{lower, prefixes, nodes_of}
use Rattle.matching.proofs.Numbering.{levels_up, lower_irr, lower_tr}
use Rattle.matching.proofs.Numbered.{str, Numbered}
use Rattle.matching.proofs.NodeLaws.{nodes_numbered}
use Rattle.matching.proofs.LevelNodes.{Sorted, levels_numbered, members_sorted}
use Rattle.trie_order.specs.Order.{precedes}
use Rattle.trie_order.proofs.Precedes.{precedes_irr}
use Rattle.layout.specs.Tables.{patterns}
use Rattle.trays.proofs.Spans.{Spanned, letters-most}

pub record Ranked (ss : List (List ℕ)) (es M O : List ℕ) : Type 0 where
  pub spans : Spanned ss es
  pub real : (i : ℕ) → In i M → (1 ≤ i) × (i ≤ length es)
  pub ascending : Asc ◌<◌ M
  pub sorts : Sorts (Less (precedes ss)) M O

-- two numberings of the nodes are one
numbered_in : {ps ns ms : List (List ℕ)} → Numbered ps ns → Numbered ps ms → In [] ms → (w : List ℕ) → In w ns → In w ms
numbered_in {ns = ns} N K root w m =
    let (v, l, e) = in_get_or [] m in
    elim (ℕ_discrete v 0) [
      | yes z ↦ Memᴰ.cast (sym e ∙ ap (str ns) z ∙ N.root) root
      | no z ↦ let (h, b) = N.node v (omega arith, l) in Memᴰ.cast (sym e) (K.all (str ns v) h b)
    ]

numbered_one : {ps ns ms : List (List ℕ)} → Numbered ps ns → Numbered ps ms → In [] ns → In [] ms → ns ≡ ms
numbered_one {ns = ns} {ms = ms} N K i j =
    asc_one (Less lower) lower_irr lower_tr ns ms N.asc K.asc (numbered_in N K j) (numbered_in K N i)

nodes_root : (ps : List (List ℕ)) → In [] (nodes_of ps)
unfolding nodes_of
nodes_root ps = Memᴰ.head refl

insert-length : {A : Type 0} (lt : A → A → Bool) (x : A) (ys : List A) → length (insert lt x ys) ≤ suc (length ys)
insert-length lt x [] = omega arith
insert-length lt x (y ∷ ys) =
    elim (tell (lt x y)) [
      | inl e ↦ rw (e, insert) (omega arith)
      | inr e ↦ elim (tell (lt y x)) [
        | inl h ↦ rw (e, h, insert) (omega (arith, insert-length lt x ys))
        | inr h ↦ rw (e, h, insert) (omega arith)
      ]
    ]

in_order-most : {A : Type 0} (lt : A → A → Bool) (xs : List A) → length (in_order lt xs) ≤ length xs
in_order-most lt [] = omega arith
in_order-most lt (x ∷ xs) = omega (arith, insert-length lt x (in_order lt xs), in_order-most lt xs)

prefixes-length : (ss : List (List ℕ)) (M : List ℕ) → length (prefixes (patterns ss M)) ≡ sum (λ i. length (slip ss i)) M
prefixes-length ss [] = refl
prefixes-length ss (i ∷ M) =
    let x = slip ss i in
    let us = up_from 1 (length x) in
    rw (length-append (map (λ d. take d x) us) (prefixes (patterns ss M)), length-map us (λ d. take d x), length-up_from)
    (omega (arith, prefixes-length ss M))

module _ {ss : List (List ℕ)} {es M O : List ℕ} (R : Ranked ss es M O) where
  sorted : Sorted (patterns ss M) (patterns ss O) max_slip
  sorted = members_sorted ss M O R.sorts max_slip (λ k m. let (p, l) = R.real k m in R.spans.short k p l)

  -- the member of rank j
  pub rank_real : (j : ℕ) → j < length O → (1 ≤ get_or O j 0) × (get_or O j 0 ≤ length es)
  rank_real j h = R.real (get_or O j 0) (R.sorts.back (get_or O j 0) (get_or_in 0 O j h))

  pub rank_one : (j r : ℕ) → j < length O → r < length O → get_or O j 0 ≡ get_or O r 0 → j ≡ r
  rank_one j r h l e =
      asc_differ 0 (Less (precedes ss)) (λ i x. not_both (precedes ss i i) x (precedes_irr ss i)) O j r R.sorts.asc h l e

  pub nodes_are : nodes_of (patterns ss M) ≡ [] ∷ levels_up max_slip (patterns ss O)
  nodes_are =
      numbered_one (nodes_numbered (patterns ss M)) (levels_numbered (patterns ss M) (patterns ss O) max_slip sorted)
      (nodes_root (patterns ss M)) (Memᴰ.head refl)

  pub nodes_few : length (levels_up max_slip (patterns ss O)) ≤ max_letters
  unfolding nodes_of
  nodes_few =
      omega (
        arith,
        ap length nodes_are,
        in_order-most lower (prefixes (patterns ss M)),
        prefixes-length ss M,
        letters-most R.spans M R.real R.ascending,
      )
