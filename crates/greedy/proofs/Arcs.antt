-- The arcs, their members and their order.
--   Prior ss a b          == arc a is taken before arc b
--   by_strings, by_numbers  == the order of arcs with equal overlaps; with equal overlap strings
--   ordered counts ss K   == the arcs in their order
--   IsArc counts ss K a   == a joins two different slips of K, with their overlap, of which the string counts
-- The order of arcs is lexicographic: overlaps falling, overlap strings, right slips and left slips rising.
use mathlib.Core.Path.{◌≡◌, sym, ap, ◌∙◌}
use mathlib.Core.Bool.{Bool, true, false, ◌&&◌, ◌||◌, not}
use mathlib.Core.List.Memᴰ.{head as here}
use mathlib.Core.List.{List}
use mathlib.Core.Logic.{inl, inr}
use Prim.Native.Nat.{ℕ, ◌≤◌}
use native.Mathlib.Omega.{arith}
use lib.Dec.{eqb, ltb}
use lib.ListN.{length, take}
use borrow.Author.Tests.{ltb-true, eqb-false, not-true, ne_eqb}
use Rattle.words.specs.Lists.{each, in_order}
use Rattle.words.specs.Words.{same, before, overlap, overlap_for}
use Rattle.words.proofs.Tests.{both, not_both}
use Rattle.words.proofs.Members.{In, Sorts, in_each, each_in, in_order_sorts}
use Rattle.words.proofs.Orders.{up, down, strings, lex_irr, lex_cases, lex_tr, lex_con}
use Rattle.words.proofs.Overlaps.{Counts, overlap-length, overlap_for-yes, overlap_for-some, some-overlap_for}
use Rattle.trays.specs.Slips.{slip}
use Rattle.greedy.specs.Joins.{Join, join, arc, arcs, string_of, first_arc}
use Rattle.greedy.proofs.Takes.{some-eqb, in_cond}

abbrev pub by_numbers : Join → Join → Bool
by_numbers a b = ltb a.right b.right || (eqb a.right b.right && ltb a.left b.left)

abbrev pub by_strings : List (List ℕ) → Join → Join → Bool
by_strings ss a b = before (string_of ss a) (string_of ss b) || (same (string_of ss a) (string_of ss b) && by_numbers a b)

module _ (ss : List (List ℕ)) where
  abbrev pub Prior : Join → Join → Type 0
  Prior a b = first_arc ss a b ≡ true

  pub first_arc_irr : (a : Join) → first_arc ss a a ≡ false
  first_arc_irr a =
      lex_irr down a.overlap (by_strings ss a a)
      (lex_irr strings (string_of ss a) (by_numbers a a) (lex_irr up a.right (ltb a.left a.left) (up.irr a.left)))

  pub first_arc_tr : (a b c : Join) → Prior a b → Prior b c → Prior a c
  first_arc_tr a b c =
      lex_tr down a.overlap b.overlap c.overlap (by_strings ss a b) (by_strings ss b c) (by_strings ss a c)
      (lex_tr strings (string_of ss a) (string_of ss b) (string_of ss c) (by_numbers a b) (by_numbers b c) (by_numbers a c)
      (lex_tr up a.right b.right c.right (ltb a.left b.left) (ltb b.left c.left) (ltb a.left c.left)
      (up.tr a.left b.left c.left)))

  pub first_arc_con : (a b : Join) → first_arc ss a b ≡ false → first_arc ss b a ≡ false → a ≡ b
  first_arc_con a b e f =
      let q =
      lex_con down a.overlap b.overlap (by_strings ss a b) (by_strings ss b a)
      (lex_con strings (string_of ss a) (string_of ss b) (by_numbers a b) (by_numbers b a)
      (lex_con up a.right b.right (ltb a.left b.left) (ltb b.left a.left) (up.con a.left b.left)))
      e f
      in λ i. join (q.1.1.1 i) (q.1.1.0 i) (q.0 i)

  -- an arc does not precede a longer one, nor itself
  pub first_arc-not : (c d : Join) → d.left ≡ c.left → d.right ≡ c.right → c.overlap ≤ d.overlap → Prior c d → ⊥
  first_arc-not c d l r h e =
      elim (lex_cases down c.overlap d.overlap (by_strings ss c d) e) [
        | inl t ↦ omega (arith, ltb-true d.overlap c.overlap t)
        | inr t ↦ let q : d ≡ c = λ i. join (l i) (r i) (sym t.0 i) in not_both (first_arc ss c c) (rw q at e) (first_arc_irr c)
      ]

pub record IsArc (counts : List ℕ → Bool) (ss : List (List ℕ)) (K : List ℕ) (a : Join) : Type 0 where
  pub left_in : In a.left K
  pub right_in : In a.right K
  pub other : a.left ≡ a.right → ⊥
  pub size : a.overlap ≡ overlap (slip ss a.left) (slip ss a.right)
  pub counted : counts (string_of ss a) ≡ true

module _ (counts : List ℕ → Bool) (ss : List (List ℕ)) (K : List ℕ) where
  abbrev pub ordered : List Join
  ordered = in_order (first_arc ss) (arcs counts ss K)

  pub arcs_sorted : Sorts (Prior ss) (arcs counts ss K) ordered
  arcs_sorted = in_order_sorts (first_arc ss) (first_arc_tr ss) (first_arc_con ss) (arcs counts ss K)

  pub string-length : (a : Join) → IsArc counts ss K a → length (string_of ss a) ≡ a.overlap
  string-length a h = rw h.size (overlap-length (slip ss a.left) (slip ss a.right))

  pub in_arcs : (a : Join) → In a (arcs counts ss K) → IsArc counts ss K a
  in_arcs a m =
      let (l, i, n) = in_each (λ l. each (arc counts ss l) K) K m in
      let (r, j, t) = in_each (arc counts ss l) K n in
      let o : ℕ = overlap_for counts (slip ss l) (slip ss r) in
      let (b, e) = in_cond (not (eqb l r) && not (eqb o 0)) t in
      let (p, q) = both (not (eqb l r)) (not (eqb o 0)) b in
      let c = overlap_for-some counts (slip ss l) (slip ss r) (omega (arith, eqb-false o 0 (not-true (eqb o 0) q))) in
      let w = overlap_for-yes counts (slip ss l) (slip ss r) c in
      rw e (record { left_in = i; right_in = j; other = eqb-false l r (not-true (eqb l r) p); size = w; counted = rw w c })

  pub arcs_in : Counts counts → (a : Join) → IsArc counts ss K a → In a (arcs counts ss K)
  arcs_in C a h =
      let x = slip ss a.left in
      let y = slip ss a.right in
      let c : counts (take (overlap x y) y) ≡ true = rw h.size at h.counted in
      let n : eqb (overlap_for counts x y) 0 ≡ false = some-eqb (overlap_for counts x y) (some-overlap_for counts x y C c) in
      each_in (λ l. each (arc counts ss l) K) h.left_in
      (each_in (arc counts ss a.left) h.right_in
      (rw (ne_eqb a.left a.right h.other, n) (here (ap (join a.left a.right) (h.size ∙ sym (overlap_for-yes counts x y c))))))
