-- The greedy joins save at least half of what any order of the slips saves.
--   Falling bs        == the arcs bs come by falling overlap
--   top bs            == the overlap of the first of them, 0 for none
--   Remain w K bs js  == every pair of K with a weight that is still free after the joins js is among the arcs bs
-- Arcs come by falling overlap and a refused pair stays refused, so no seam of the chains made so far weighs more than the next arc.
-- Then joining two chains loses at most twice the arc's overlap (Links), and at the end every seam weighs 0. So no order of the slips
-- overlaps more than twice what the joins save, and every text that holds the slips gives such an order (TextOrder).
use mathlib.Core.Path.{◌≡◌, refl, sym, ◌∙◌, ap, subst, fun_ext}
use mathlib.Core.Bool.{Bool, true, false}
use mathlib.Core.List.Memᴰ
use mathlib.Core.List.{List, [], ◌∷◌, ◌++◌}
use mathlib.Core.Logic.{inl, inr}
use Prim.Native.Nat.{ℕ, ◌+◌, ◌*◌, ◌≤◌, ◌<◌}
use native.Mathlib.Omega.{arith}
use lib.ListN.{length, take}
use borrow.Author.Tests.{ltb-true}
use Rattle.words.specs.Lists.{in_order}
use Rattle.words.specs.Words.{overlap, non_empty}
use Rattle.words.proofs.Tests.{tell, not_both}
use Rattle.words.proofs.Members.{In, Asc, by_in}
use Rattle.words.proofs.Orders.{down, lex_cases}
use Rattle.words.proofs.Overlaps.{overlap_nil, exchange, non_empty_counts, overlap_for-some, overlap_for-non_empty}
use Rattle.words.proofs.Sums.{sum, All, is, held, held_first, held_last, held_in, all_at, all_in, asc_once}
use Rattle.trays.specs.Slips.{slip, total}
use Rattle.trays.specs.Aside.{kept}
use Rattle.trays.proofs.Kept.{kept_asc, in_kept, kept_apart}
use Rattle.greedy.specs.Joins.{Join, join, last_of, free, arcs, first_arc, take_arc, take_arcs, plain_for, saved as saved_by}
use Rattle.greedy.specs.Orders.{weight, along}
use Rattle.greedy.specs.Claims.{holds_all}
use Rattle.greedy.proofs.Takes.{by_zero, Sound, refused_take, refused_self}
use Rattle.greedy.proofs.Arcs.{Prior, arcs_sorted, arcs_in}
use Rattle.greedy.proofs.Chains.{Chain, whole_chain, end, Run, Arc, Rep, tail_end, run_last}
use Rattle.greedy.proofs.Represent.{is_free, merged, find, saved_append, rep_forth, rep_back, singles, rep_singles, plain-arcs, plain_rep}
use Rattle.greedy.proofs.TextOrder.{over, Apart, text_order}
use Rattle.greedy.proofs.Links.{links, Below, links_none, links_singles, links_forth, links_back}

abbrev Falling : List Join → Type 0
Falling bs = Asc (λ a b. b.overlap ≤ a.overlap) bs

abbrev top : List Join → ℕ
top [] = 0
top (b ∷ bs) = b.overlap

abbrev Remain : (ℕ → ℕ → ℕ) → List ℕ → List Join → List Join → Type 0
Remain w K bs js =
    (u v : ℕ) → 1 ≤ held u K → 1 ≤ held v K → (u ≡ v → ⊥) → 1 ≤ w u v → free u v js ≡ true → In (join u v (w u v)) bs

top_most : (j : Join) (bs : List Join) → Falling bs → In j bs → j.overlap ≤ top bs
top_most j [] f m = absurd (Memᴰ.not-nil m)
top_most j (b ∷ bs) f m = by_in m (λ e. omega (arith, ap (λ k. k.overlap) e)) (f.0 j)

remain_take :
    (w : ℕ → ℕ → ℕ) (K : List ℕ) (j : Join) (bs js : List Join)
    → 1 ≤ j.left → Sound js → Remain w K (j ∷ bs) js → Remain w K bs (take_arc j js)
remain_take w K j bs js l s c u v hu hv ne h e =
    let taken : free u v (take_arc j js) ≡ false → ⊥ = not_both (free u v (take_arc j js)) e in
    elim (tell (free u v js)) [
      | inl f ↦
          by_in (c u v hu hv ne h f)
          (λ d. absurd (taken (ap (λ k. free k.left k.right (take_arc j js)) d ∙ refused_self j js l s))) (λ m. m)
      | inr f ↦ absurd (taken (refused_take u v j js f))
    ]

-- z has weight 0 beside every slip; the exchange inequality
module _
    (w : ℕ → ℕ → ℕ) (z : ℕ) (low : (x : ℕ) → w z x ≡ 0) (high : (x : ℕ) → w x z ≡ 0)
    (exchange : (a b p d : ℕ) → w a d ≤ w a b → w p b ≤ w a b → w a d + w p b ≤ w a b + w p d)
    (K : List ℕ) (once : (x : ℕ) → held x K ≤ 1)
  where
    module _ (bs js : List Join) (falling : Falling bs) (remain : Remain w K bs js) where
      below-runs :
          (C : Chain) (Cs : List Chain) → All (Run js) (C ∷ Cs) → ((x : ℕ) → sum (λ D. held x (whole_chain D)) (C ∷ Cs) ≤ held x K)
          → sum (λ D. length D.rest) (C ∷ Cs) ≤ length js → Below w (top bs) (end C) Cs z
      below-runs C [] r h n = omega (arith, high (end C))
      below-runs C (D ∷ Cs) (c, (d, r)) h n =
          let u = end C in
          let v = D.first in
          let hu : 1 ≤ held u (whole_chain C) = held_last u C.first C.rest refl in
          let hv : 1 ≤ held v (whole_chain D) = held_first v v D.rest refl in
          let other : held u (whole_chain D) ≡ 0 = omega (arith, h u, once u) in
          let apart : u ≡ v → ⊥ = λ e. omega (arith, held_first u v D.rest (sym e)) in
          let cycle : last_of v js ≡ u → ⊥ = λ e. omega (arith, held_last u v D.rest (sym (run_last js D d (omega arith)) ∙ e)) in
          let unjoined : free u v js ≡ true = is_free u v js (record { right = tail_end js C.first C.rest c.2; left = d.0; cycle = cycle }) in
          let arc : 1 ≤ w u v → In (join u v (w u v)) bs = λ p. remain u v (omega (arith, h u)) (omega (arith, h v)) apart p unjoined in
          let light : w u v ≤ top bs = by_zero (w u v) (λ e. omega arith) (λ p. top_most (join u v (w u v)) bs falling (arc p)) in
          (light, below-runs D Cs (d, r) (λ x. omega (arith, h x)) (omega arith))

      below_all : (Cs : List Chain) → Rep w K js Cs → Below w (top bs) z Cs z
      below_all [] r = omega (arith, low z)
      below_all (C ∷ Cs) r =
          (omega (arith, low C.first), below-runs C Cs r.runs (λ x. omega (arith, r.all (is x))) (omega (arith, r.count)))

    swap :
        (js : List Join) (Cs : List Chain) (j : Join) → Rep w K js Cs → Arc w K j → free j.left j.right js ≡ true
        → Below w j.overlap z Cs z
        → (Ds : List Chain) × Rep w K (js ++ (j ∷ [])) Ds × (links w z Cs z ≤ links w z Ds z + 2 * j.overlap)
    swap js Cs j r arc e =
        let c = j.overlap in
        find w K js j.left j.right
        (λ Cs. Rep w K js Cs → Below w c z Cs z → (Ds : List Chain) × Rep w K (js ++ (j ∷ [])) Ds × (links w z Cs z ≤ links w z Ds z + 2 * c))
        (λ X M Y A B ea eb r h. ((M ++ X) ++ (merged A B ∷ Y), rep_forth w K once js j arc X M Y A B ea eb r, links_forth w z low c X M Y A B h))
        (λ X M Y A B ea eb r h. (
          M ++ (merged A B ∷ (X ++ Y)),
          rep_back w K once js j arc X M Y A B ea eb r,
          links_back w z low c X M Y A B (rw (ea, eb, arc.4) (λ p d k l. omega (arith, exchange j.left j.right p d l k))) h,
        ))
        Cs r arc.2 arc.3 e r

    greedy :
        (bs js : List Join) (Cs : List Chain) → Rep w K js Cs → All (Arc w K) bs → Falling bs → Remain w K bs js
        → links w z Cs z + 2 * saved_by js ≤ 2 * saved_by (take_arcs bs js)
    greedy [] js Cs r arcs f c = omega (arith, links_none w z Cs z (below_all [] js f c Cs r))
    greedy (j ∷ bs) js Cs r (arc, arcs) f c =
        let next = remain_take w K j bs js arc.0 (λ k m. (all_at (Arc w K) js k r.arcs m).0) c in
        elim (tell (free j.left j.right js)) [
          | inl e ↦
              let (Ds, s, h) = swap js Cs j r arc e (below_all (j ∷ bs) js f c Cs r) in
              rw e (omega (arith, saved_append js (j ∷ []), greedy bs (js ++ (j ∷ [])) Ds s arcs f.1 (rw e at next)))
          | inr e ↦ rw e (greedy bs js Cs r arcs f.1 (rw e at next))
        ]

-- the plain rule's arcs, with the plain overlap for their weight
first_arc-falls : (ss : List (List ℕ)) (a b : Join) → Prior ss a b → b.overlap ≤ a.overlap
first_arc-falls ss a b e =
    elim (lex_cases down a.overlap b.overlap _ e)
    [ inl t ↦ omega (arith, ltb-true b.overlap a.overlap t) | inr t ↦ omega (arith, t.0) ]

asc_falls : (ss : List (List ℕ)) (bs : List Join) → Asc (Prior ss) bs → Falling bs
asc_falls ss [] a = tt
asc_falls ss (b ∷ bs) a = ((λ c m. first_arc-falls ss b c (a.0 c m)), asc_falls ss bs a.1)

weight-over : (ss : List (List ℕ)) → weight non_empty ss ≡ over ss
weight-over ss = fun_ext λ i. fun_ext λ k. overlap_for-non_empty (slip ss i) (slip ss k)

module _ (ss : List (List ℕ)) (K : List ℕ) (once : (x : ℕ) → held x K ≤ 1) (positive : All (λ x. 1 ≤ x) K) where
  remain_all : Remain (over ss) K (in_order (first_arc ss) (arcs non_empty ss K)) []
  remain_all u v hu hv ne h e =
      let x = slip ss u in
      let y = slip ss v in
      let counted : non_empty (take (overlap x y) y) ≡ true = overlap_for-some non_empty x y (rw (overlap_for-non_empty x y) h) in
      let j = join u v (over ss u v) in
      (arcs_sorted non_empty ss K).into j
      (arcs_in non_empty ss K non_empty_counts j
      (record { left_in = held_in u K hu; right_in = held_in v K hv; other = ne; size = refl; counted = counted }))

  -- no order of the slips overlaps more than twice as much as the joins of the plain rule
  pub order_at_most_twice :
      (xs : List ℕ) → ((g : ℕ → ℕ) → sum g xs ≡ sum g K) → along (over ss) 0 xs ≤ 2 * saved_by (plain_for non_empty ss K)
  order_at_most_twice xs h =
      let bs = in_order (first_arc ss) (arcs non_empty ss K) in
      omega (
        arith,
        links_singles (over ss) 0 xs 0,
        greedy (over ss) 0 (λ x. refl) (λ x. overlap_nil (slip ss x)) (λ a b p d. exchange (slip ss a) (slip ss b) (slip ss p) (slip ss d)) K once
            bs [] (singles xs) (rep_singles (over ss) K xs positive h)
            (subst (λ w. All (Arc w K) bs) (weight-over ss) (plain-arcs non_empty ss K positive))
            (asc_falls ss bs (arcs_sorted non_empty ss K).asc) remain_all,
      )

  -- no text that holds every slip saves more than twice as much
  pub at_most_twice :
      Apart ss K → (t : List ℕ) → holds_all ss K t ≡ true → total ss K ≤ length t + 2 * saved_by (plain_for non_empty ss K)
  at_most_twice apart t e =
      let (xs, h, l) = text_order ss t K once apart e in
      omega (arith, order_at_most_twice xs h)

-- the kept slips among any members that ascend from 1
module _ (ss : List (List ℕ)) (M : List ℕ) (asc : Asc ◌<◌ M) (positive : (i : ℕ) → In i M → 1 ≤ i) where
  pub kept_once : (x : ℕ) → held x (kept ss M) ≤ 1
  kept_once = asc_once (kept ss M) (kept_asc ss M asc)

  kept_positive : All (λ x. 1 ≤ x) (kept ss M)
  kept_positive = all_in (λ x. 1 ≤ x) (kept ss M) (λ i m. positive i (in_kept ss M m).0)

  pub kept_rep : (counts : List ℕ → Bool) → (Ds : List Chain) × Rep (weight counts ss) (kept ss M) (plain_for counts ss (kept ss M)) Ds
  kept_rep counts = plain_rep counts ss (kept ss M) kept_once kept_positive

  pub kept_at_most_twice :
      (t : List ℕ) → holds_all ss (kept ss M) t ≡ true
      → total ss (kept ss M) ≤ length t + 2 * saved_by (plain_for non_empty ss (kept ss M))
  kept_at_most_twice =
      at_most_twice ss (kept ss M) kept_once kept_positive
      (λ i k hi hk. kept_apart ss M i k (held_in i (kept ss M) hi) (held_in k (kept ss M) hk))
