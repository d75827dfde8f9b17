-- From the shortest order to the legend, and what is refused.
--   turned_back_lem, found == the answer and the legend's buffer where something is refused, and where nothing is
--   too_many, too_short, laid_all == 20; 8; the legend is written
use mathlib.Core.Path.{◌≡◌, refl, sym, ap, ◌∙◌}
use mathlib.Core.Bool.{true, false}
use mathlib.Core.List.Memᴰ
use mathlib.Core.List.{List, [], ◌∷◌}
use Prim.Native.Nat.{ℕ, suc, ◌*◌, ◌^◌, ◌≤◌, ◌<◌}
use borrow.Author.Tests.{lt-ltb, le-ltb}
use native.Mathlib.Omega.{arith}
use lib.Dec.{ltb}
use lib.ListN.{length, get_or, take, replicate}
use Rattle.words.specs.Lists.{over}
use Rattle.words.proofs.Members.{In}
use Rattle.words.proofs.Sums.{All, is, in_held, held_in, length_sum}
use Rattle.trays.specs.declared.Refusal.{Refusal}
use Rattle.trays.specs.Limits.{max_shortest}
use Rattle.trays.specs.declared.Settings.{Settings}
use Rattle.trays.specs.Slips.{slips_of}
use Rattle.trays.specs.Aside.{counted}
use Rattle.trays.specs.Faults.{refusal, accepted, first_row, written}
use Rattle.greedy.specs.Legends.{spelled}
use Rattle.greedy.specs.Composing.{Composing, whole, kept_of}
use Rattle.greedy.specs.Orders as O
use Rattle.greedy.proofs.Letters.{laid_after_lem}
use Rattle.greedy.proofs.KeptSizes.{kept_real, legend_small}
use Rattle.shortest.specs.Orders.{shortest_order, shortest_legend}
use Rattle.greedy.proofs.Chosen.{numbers_real}
use Rattle.shortest.proofs.Shortest.{shortest_order_lem, shortest_of_lem}
use Rattle.legend_chains.specs.Pieces.{pieces_in}
use Rattle.answers.specs.declared.Shortest.{Shortest}
use Rattle.answers.specs.Shortest.{shortest_rows, shortest_outcome, shortest_refused, shortest_by}
use Rattle.legend_order.specs.Arranging.{order_pieces, OrderAsks, Arranged}
use Rattle.legend_lay.specs.Laying.{CanLay}
use Rattle.legend_lay.proofs.OrderFits.{order_fits}
use Rattle.shortest_core.specs.Steps.Seeking.{outcome_by, OutcomeAsks, OrderSought, Written}
use Rattle.shortest_core.proofs.OrderSteps.{first_in, ten_length, ten_first}

-- the two cases of the answer
module _ (c : Composing) (l : List ℕ) where
  pub turned_back_lem : (f : Refusal) (n d : ℕ) → f ≡ refusal (suc n) d → (shortest_refused f ≡ shortest_by f c) × (l ≡ written f (shortest_legend c) l)
  turned_back_lem f n d e = rw e (refl, refl)

  found : (f : Refusal) → f ≡ accepted → (shortest_outcome c ≡ shortest_by f c) × (over (shortest_legend c) l ≡ written f (shortest_legend c) l)
  found f e = rw e (refl, refl)

  refused_written : (f : Refusal) (n d : ℕ) (r : Shortest) → f ≡ refusal (suc n) d → first_row (shortest_rows c (length l)) ≡ f → r ≡ shortest_refused f →
      Written c l l r
  refused_written f n d r e h q =
      let (answer, legend) = turned_back_lem f n d e in
      record {
        answer-is = q ∙ answer ∙ ap (λ (g : Refusal). shortest_by g c) (sym h);
        legend_is = legend ∙ ap (λ (g : Refusal). written g (shortest_legend c) l) (sym h);
      }

  pub too_many : (k : ℕ) (r : Shortest) → k ≡ length (kept_of c) → max_shortest < k → r ≡ shortest_refused (refusal 20 0) → Written c l l r
  too_many k r e h q =
      let t : ltb max_shortest (length (kept_of c)) ≡ true = lt-ltb max_shortest (length (kept_of c)) (omega arith) in
      refused_written (refusal 20 0) 19 0 r refl (rw t) q

-- the order r of k slips, its pieces ps, and the letters n of its legend
module _ (g : Settings) (s es r : List ℕ) (k : ℕ) (S : OrderSought g s es r k) where
  abbrev ss : List (List ℕ)
  ss = slips_of s es

  abbrev xs : List ℕ
  xs = shortest_order (whole g ss)

  order_long : length xs ≡ k
  order_long =
      let K = kept_of (whole g ss) in
      sym (length_sum xs) ∙ shortest_order_lem (counted g.least) ss K (λ i. 1) ∙ length_sum K ∙ sym S.count_is

  order_first : take k r ≡ xs
  order_first = rw S.order_is (ten_first xs k order_long)

  order_real : (i : ℕ) → In i xs → (1 ≤ i) × (i ≤ length es)
  order_real i m =
      let K = kept_of (whole g ss) in
      kept_real s es S.tray i (held_in i K (omega (arith, in_held i xs m, shortest_order_lem (counted g.least) ss K (is i))))

  ten : length r ≡ max_shortest
  ten = rw S.order_is (ten_length xs (omega (arith, order_long, S.few)))

  pub pieces_can : OrderAsks s es r k (replicate (2 * max_shortest) 0)
  pieces_can =
      record {
        tray = S.tray;
        few = omega (arith, S.few);
        listed = omega (arith, ten, S.few);
        real = λ a h.
            let inside : In (get_or r a 0) (take k r) = first_in r k a h (omega (arith, ten, S.few)) in
            order_real (get_or r a 0) (rw order_first at inside);
        room = omega (arith, S.few);
      }

  abbrev need : ℕ
  need = length (shortest_legend (whole g ss))

  module _ (m : ℕ) (em : m ≡ g.least) (ps : List ℕ) (n : ℕ) (A : Arranged m s es r k (replicate (2 * max_shortest) 0) ps n) where
    pieces_are : pieces_in ps 0 k ≡ order_pieces g.least s es xs
    pieces_are = A.pieces_are ∙ rw (order_first, em)

    need_is : n ≡ need
    need_is = A.need_is ∙ rw (order_first, em)

    pub need_small : n < 2 ^ 32
    need_small = omega (arith, need_is, (shortest_of_lem (whole g ss) (numbers_real ss)).at_most_composed, legend_small s es S.tray g)

    pub answer_can : OutcomeAsks n k
    answer_can = record { need_fits = need_small; count_fits = omega (arith, S.few) }

    few_kept : ltb max_shortest (length (kept_of (whole g ss))) ≡ false
    few_kept = le-ltb max_shortest (length (kept_of (whole g ss))) (omega (arith, S.few, S.count_is))

    pub too_short : (l : List ℕ) (d : ℕ) (a : Shortest) → length l < n → d ≡ n → a ≡ shortest_refused (refusal 8 d) → Written (whole g ss) l l a
    too_short l d a h e q =
        let t : ltb (length l) need ≡ true = lt-ltb (length l) need (omega (arith, need_is)) in
        refused_written (whole g ss) l (refusal 8 d) 7 d a refl (rw (few_kept, t, e ∙ need_is)) q

    module _ (l : List ℕ) (h : n ≤ length l) where
      pub lay_can : CanLay s es ps 0 k (length l)
      lay_can =
          record {
            tray = S.tray;
            pairs = omega (arith, A.same, S.few);
            fits = rw pieces_are (order_fits s es (order_pieces g.least s es xs) [] (laid_after_lem (counted g.least) ss 0 xs) (laid_real 0 xs order_real));
            room-is = rw pieces_are (omega (arith, need_is));
          }
        where
          laid_real :
              (p : ℕ) (ys : List ℕ) → ((i : ℕ) → In i ys → (1 ≤ i) × (i ≤ length es))
              → All (λ q. (1 ≤ q.number) × (q.number ≤ length es)) (O.laid_after (O.weight (counted g.least) ss) p ys)
          laid_real p [] real = tt
          laid_real p (y ∷ ys) real = (real y (Memᴰ.head refl), laid_real y ys (λ i m. real i (Memᴰ.tail m)))

      pub laid_all :
          (l' : List ℕ) (a : Shortest) → l' ≡ over (spelled ss (pieces_in ps 0 k)) l → a ≡ outcome_by n k r → Written (whole g ss) l l' a
      laid_all l' a e q =
          let t : ltb (length l) need ≡ false = le-ltb (length l) need (omega (arith, need_is)) in
          let (answer, legend) = found (whole g ss) l (first_row (shortest_rows (whole g ss) (length l))) (rw (few_kept, t)) in
          record {
            answer-is = q ∙ rw (need_is, S.order_is, sym order_long) answer;
            legend_is = e ∙ rw pieces_are legend;
          }
