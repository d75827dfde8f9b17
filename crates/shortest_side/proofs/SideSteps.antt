-- What was found of chosen slips, told by their numbers in the whole tray: d is the tray of these slips alone, c the whole tray with these as members.
--   seek_can, cut_sought == d can be sought, and what is found of the tray that is cut out is that of d
--   order_can            == the order found can be told so
--   named_sought         == then the answer and the legend are those of c
-- The shortest order of c is that of d, renumbered (shortest/proofs/ShortestAlone).
use mathlib.Core.Path.{◌≡◌, refl, sym, ◌∙◌, ap, subst}
use mathlib.Core.List.{List, [], ◌∷◌, map}
use Prim.Native.Nat.{ℕ, zero, suc, ◌≤◌}
use native.Mathlib.Omega.{arith}
use borrow.Author.Tests.{ltb-false}
use lib.Dec.{ltb}
use lib.ListN.{length, get_or, take, replicate, length-map}
use Rattle.words.specs.Lists.{entry}
use Rattle.words.proofs.Members.{In, in_up_from}
use Rattle.words.proofs.Sums.{All, length_sum, all_in, all_at}
use Rattle.trays.specs.declared.Refusal.{Refusal}
use Rattle.trays.specs.declared.Settings.{Settings}
use Rattle.trays.specs.Limits.{max_slips, max_letters, max_shortest, work_need}
use Rattle.trays.specs.Slips.{slips_of, slip, numbers, only}
use Rattle.trays.specs.Faults.{row, first_row, written}
use Rattle.trays.proofs.Kept.{in_kept}
use Rattle.trays.proofs.Accepted.{rows_silent, row_silent}
use Rattle.greedy.specs.Composing.{Composing, among, whole, sided, rule, kept_of}
use Rattle.greedy.proofs.Chosen.{Real}
use Rattle.greedy.proofs.Alone.{alone_of}
use Rattle.shortest.specs.Orders.{shortest_order, shortest_legend}
use Rattle.shortest.specs.Sides.{AloneShortest}
use Rattle.shortest.proofs.Shortest.{shortest_order_lem}
use Rattle.shortest.proofs.ShortestAlone.{shortest_known, alone_shortest}
use Rattle.trie_build.specs.Steps.Built.{Buildable}
use Rattle.answers.specs.declared.Shortest.{Shortest}
use Rattle.answers.specs.Shortest.{shortest_rows, shortest_outcome, shortest_refused, shortest_by}
use Rattle.tray_cut.specs.declared.Chosen.{Chosen}
use Rattle.tray_cut.specs.Choosing.{SideSlips, CanCut, SlipsWritten}
use Rattle.tray_cut.proofs.CutTray.{chosen_real, cut_tray, slips_cut}
use Rattle.shortest_core.specs.Steps.Seeking.{ten_of, Finished}
use Rattle.shortest_core.proofs.OrderSteps.{first_in, ten_length, ten_first}
use Rattle.shortest_side.specs.Steps.Sides.{OrderAsks}

module _ (s es M : List ℕ) (h : CanCut s es M) (a b : List ℕ) (n : ℕ)
    (W : SlipsWritten s es M 0 (replicate max_letters 0) a (replicate max_slips 0) b n) where
  pub seek_can : (w : List ℕ) → work_need ≤ length w → Buildable (take n a) (take (length M) b) w
  seek_can w room = record { tray = cut_tray s es M h a b n W; room = room }

  pub cut_sought : (g : Settings) (w w' l l' : List ℕ) (r : Shortest)
      → Finished (whole g (slips_of (take n a) (take (length M) b))) w w' l l' r → Finished (whole g (only (slips_of s es) M)) w w' l l' r
  cut_sought g w w' l l' r F = subst (λ (xs : List (List ℕ)). Finished (whole g xs) w w' l l' r) (slips_cut s es M h a b n W) F

-- answers are equal where their fields are
answer-by : (n d p k : ℕ) (xs : List ℕ) (x : Shortest) → n ≡ x.number → d ≡ x.detail → p ≡ x.legend → k ≡ x.count → xs ≡ x.order →
    record { number = n; detail = d; legend = p; count = k; order = xs } ≡ x
answer-by n d p k xs x a b c e f = rw (a, b, c, e, f)

-- rows 20 and 8, by their counts
rows_by : ℕ → ℕ → ℕ → List Refusal
rows_by l kept need = row 20 (ltb max_shortest kept) 0 ∷ (row 8 (ltb l need) need ∷ [])

module _ (g : Settings) (s es M w : List ℕ) (h : CanCut s es M) (w₁ l l' : List ℕ) (r : Shortest)
    (F : Finished (whole g (only (slips_of s es) M)) w w₁ l l' r) where
  abbrev os : List (List ℕ)
  os = only (slips_of s es) M

  abbrev d : Composing
  d = whole g os

  abbrev c : Composing
  c = among g M (slips_of s es)

  R : Real (length (slips_of s es)) M
  R = chosen_real s es M h

  A : AloneShortest c d
  A = alone_shortest c R

  -- a slip of the order is among the chosen
  Own : ℕ → Type 0
  Own i = (1 ≤ i) × (i ≤ length M)

  own_order : All Own (shortest_order d)
  unfolding Own
  own_order =
      shortest_known Own (rule d) os (kept_of d)
      (all_in Own (kept_of d) (λ i m. omega (arith, in_up_from 1 (length os) (in_kept os (numbers os) m).0, length-map M (slip (slips_of s es)))))

  order_count : length (shortest_order d) ≡ length (kept_of d)
  order_count = sym (length_sum (shortest_order d)) ∙ (shortest_order_lem (rule d) os (kept_of d) (λ i. 1) ∙ length_sum (kept_of d))

  abbrev v : Refusal
  v = first_row (shortest_rows d (length l))

  abbrev answer_by : ℕ → Shortest
  answer_by n = elim n [ zero ↦ shortest_outcome d | suc k ↦ shortest_refused v ]

  -- found, or refused with no count
  tells : {P : Type 0} → (v.number ≡ 0 → r ≡ shortest_outcome d → P) → ((n : ℕ) → v.number ≡ suc n → r ≡ shortest_refused v → P) → P
  tells {P} good bad = go v.number refl
    where
      told : (n : ℕ) → v.number ≡ n → r ≡ answer_by n
      told n e = F.outcome.answer-is ∙ ap {B = Shortest} answer_by e

      go : (n : ℕ) → v.number ≡ n → P
      go zero e = good e (told zero e)
      go (suc n) e = bad n e (told (suc n) e)

  -- 20 is silent
  few_kept : v.number ≡ 0 → length (kept_of d) ≤ max_shortest
  few_kept z = ltb-false max_shortest (length (kept_of d)) (row_silent 19 (ltb max_shortest (length (kept_of d))) 0 (rows_silent (shortest_rows d (length l)) z).0)

  pub order_can : (k : ℕ) → k ≡ r.count → OrderAsks M r.order k
  unfolding Own
  order_can k e =
      tells
      (λ z o.
      let count : k ≡ length (shortest_order d) = e ∙ ap (λ (x : Shortest). x.count) o in
      let order : r.order ≡ ten_of (shortest_order d) = ap (λ (x : Shortest). x.order) o in
      let few : length (shortest_order d) ≤ max_shortest = omega (arith, order_count, few_kept z) in
      let long : length r.order ≡ max_shortest = ap length order ∙ ten_length (shortest_order d) few in
      let first : take k r.order ≡ shortest_order d = ap (take k) order ∙ ten_first (shortest_order d) k (sym count) in
      record {
        few = omega arith;
        listed = omega arith;
        among = λ i q.
            let inside : In (get_or r.order i 0) (take k r.order) = first_in r.order k i q (omega arith) in
            all_at Own (shortest_order d) (get_or r.order i 0) own_order (rw first at inside);
      })
      (λ n z o.
      let count : k ≡ 0 = e ∙ ap (λ (x : Shortest). x.count) o in
      record { few = omega arith; listed = omega arith; among = λ i q. absurd (omega arith) })

  kept_same : length (kept_of c) ≡ length (kept_of d)
  kept_same = ap length (alone_of c R).kept_are ∙ length-map (kept_of d) (entry M)

  rows_same : shortest_rows c (length l) ≡ shortest_rows d (length l)
  unfolding rows_by
  rows_same =
      ap (λ n. rows_by (length l) n (length (shortest_legend c))) kept_same ∙ ap (rows_by (length l) (length (kept_of d))) (ap length A.legend_is)

  -- the answer, with another order
  abbrev again : List ℕ → Shortest
  again xs = record { number = r.number; detail = r.detail; legend = r.legend; count = r.count; order = xs }

  answer-is : (k : ℕ) → k ≡ r.count → (xs : List ℕ) → xs ≡ ten_of (map (entry M) (take k r.order)) → again xs ≡ shortest_by v c
  answer-is k e xs x =
      tells
      (λ z o.
      let first : take k r.order ≡ shortest_order d =
      ap (take k) (ap (λ (y : Shortest). y.order) o) ∙ ten_first (shortest_order d) k (sym (e ∙ ap (λ (y : Shortest). y.count) o)) in
      answer-by _ _ _ _ xs (shortest_outcome c) (ap (λ (y : Shortest). y.number) o) (ap (λ (y : Shortest). y.detail) o)
      (ap (λ (y : Shortest). y.legend) o ∙ ap length (sym A.legend_is))
      (ap (λ (y : Shortest). y.count) o ∙ sym (ap length A.order_is ∙ length-map (shortest_order d) (entry M)))
      (x ∙ ap (λ (ys : List ℕ). ten_of (map (entry M) ys)) first ∙ ap ten_of (sym A.order_is))
      ∙ ap {B = Shortest} by (sym z))
      (λ n z o.
      let none : k ≡ 0 = e ∙ ap (λ (y : Shortest). y.count) o in
      answer-by _ _ _ _ xs (shortest_refused v) (ap (λ (y : Shortest). y.number) o) (ap (λ (y : Shortest). y.detail) o)
      (ap (λ (y : Shortest). y.legend) o) (ap (λ (y : Shortest). y.count) o) (x ∙ ap (λ (m : ℕ). ten_of (map (entry M) (take m r.order))) none)
      ∙ ap {B = Shortest} by (sym z))
    where
      by : ℕ → Shortest
      by n = elim n [ zero ↦ shortest_outcome c | suc m ↦ shortest_refused v ]

  pub named_sought : (k : ℕ) → k ≡ r.count → (xs : List ℕ) → xs ≡ ten_of (map (entry M) (take k r.order))
      → Finished (among g M (slips_of s es)) w w₁ l l' (record { number = r.number; detail = r.detail; legend = r.legend; count = r.count; order = xs })
  named_sought k e xs x =
      record {
        same = F.same;
        outcome =
            record {
              answer-is = answer-is k e xs x ∙ ap (λ (rs : List Refusal). shortest_by (first_row rs) c) (sym rows_same);
              legend_is =
                  F.outcome.legend_is
                  ∙ (ap (λ (rs : List Refusal). written (first_row rs) (shortest_legend d) l) (sym rows_same)
                  ∙ ap (λ (t : List ℕ). written (first_row (shortest_rows c (length l))) t l) (sym A.legend_is));
            };
      }

-- the numbers chosen are those of the side
pub side_sought : (g : Settings) (cs : List ℕ) (o : Chosen) → SideSlips cs g.side o → (ss : List (List ℕ)) (w w' l l' : List ℕ) (r : Shortest)
    → Finished (among g (take o.count o.slips) ss) w w' l l' r → Finished (sided g cs ss) w w' l l' r
side_sought g cs o S ss w w' l l' r F = subst (λ (M : List ℕ). Finished (among g M ss) w w' l l' r) S.slips_are F
