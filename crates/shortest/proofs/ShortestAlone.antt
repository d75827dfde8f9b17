-- The shortest order of renumbered slips is the shortest order, renumbered.
--   NAME-relabel    == NAME of what is renumbered is NAME, renumbered
--   shortest_known  == the numbers of the shortest order are those of the list
--   alone_shortest  == so the shortest order of members that ascend from 1 is that of the tray that holds these only
-- An order is renumbered slip by slip, so that all orders are, in the same order; and a renumbered order has the same legend.
use mathlib.Core.Path.{◌≡◌, refl, sym, ap, ◌∙◌}
use mathlib.Core.Bool.{Bool}
use mathlib.Core.Logic.{inl, inr}
use mathlib.Core.List.{List, [], ◌∷◌, ◌++◌, map}
use Prim.Native.Nat.{ℕ, zero, suc}
use native.Mathlib.Omega.{arith}
use lib.Dec.{eqb}
use lib.ListN.{length, drop, length-map}
use Rattle.words.specs.Lists.{entry}
use Rattle.words.specs.Words.{overlap_for}
use Rattle.words.proofs.Tests.{tell}
use Rattle.words.proofs.Members.{In, in_up_from}
use Rattle.words.proofs.Sums.{sum, All, is, held_in, all_held, all_in, all_at}
use Rattle.words.proofs.Maps.{each_map, map_agree}
use Rattle.trays.specs.Slips.{slip, numbers, only}
use Rattle.trays.specs.Aside.{kept}
use Rattle.trays.proofs.Kept.{in_kept}
use Rattle.greedy.specs.Legends.{spelled}
use Rattle.greedy.specs.Orders.{weight, laid_after, order_legend}
use Rattle.greedy.specs.Composing.{Composing, rule, kept_of}
use Rattle.greedy.proofs.Relabel.{Renumbers, eqb_relabel, kept_relabel, kept_renumbers}
use Rattle.greedy.proofs.Chosen.{Real, nth, nth_renumbers, nth-numbers}
use Rattle.greedy.proofs.Alone.{only_of, nth-entry}
use Rattle.shortest.specs.Orders.{without, orders, less, first_least, shortest_for, shortest_order}
use Rattle.shortest.specs.Sides.{AloneShortest}
use Rattle.shortest.proofs.Firsts.{first_from-map, first_from-same}
use Rattle.shortest.proofs.Without.{without-yes, without_no}
use Rattle.shortest.proofs.Orders.{orders_sums}
use Rattle.shortest.proofs.Shortest.{shortest_order_lem}

-- the numbers of an order are those of the list
all_order : (P : ℕ → Type 0) (K xs : List ℕ) → All P K → ((g : ℕ → ℕ) → sum g xs ≡ sum g K) → All P xs
all_order P K xs p e = all_held P xs (λ x n. all_at P K x p (held_in x K (omega (arith, e (is x)))))

pub shortest_known : (P : ℕ → Type 0) (counts : List ℕ → Bool) (ss : List (List ℕ)) (K : List ℕ) → All P K → All P (shortest_for counts ss K)
shortest_known P counts ss K p = all_order P K (shortest_for counts ss K) p (shortest_order_lem counts ss K)

module _ {f : ℕ → ℕ} {ss ss' : List (List ℕ)} {K : List ℕ} (h : Renumbers f ss ss' K) where
  abbrev Known : ℕ → Type 0
  Known i = slip ss' (f i) ≡ slip ss i

  without_relabel : (x : ℕ) (R : List ℕ) → without (f x) (map f R) ≡ map f (without x R)
  without_relabel x [] = refl
  without_relabel x (y ∷ R) =
      elim (tell (eqb x y)) [
        | inl e ↦ without-yes (f x) (f y) (map f R) (eqb_relabel h x y ∙ e) ∙ ap (map f) (sym (without-yes x y R e))
        | inr e ↦
            without_no (f x) (f y) (map f R) (eqb_relabel h x y ∙ e)
            ∙ (ap (λ l. f y ∷ l) (without_relabel x R) ∙ ap (map f) (sym (without_no x y R e)))
      ]

  behind_relabel : (x : ℕ) (L : List (List ℕ)) → map (λ xs. f x ∷ xs) (map (map f) L) ≡ map (map f) (map (λ xs. x ∷ xs) L)
  behind_relabel x [] = refl
  behind_relabel x (l ∷ L) = ap (λ k. (f x ∷ map f l) ∷ k) (behind_relabel x L)

  orders_relabel : (n : ℕ) (R : List ℕ) → orders n (map f R) ≡ map (map f) (orders n R)
  orders_relabel zero R = refl
  orders_relabel (suc n) R =
      each_map f (λ x. Unit {0}) (map f) _ _
      (λ x u. ap (λ (S : List ℕ). map (λ xs. f x ∷ xs) (orders n S)) (without_relabel x R)
      ∙ (ap (map (λ xs. f x ∷ xs)) (orders_relabel n (without x R)) ∙ behind_relabel x (orders n (without x R))))
      R (all_in (λ x. Unit {0}) R (λ x m. tt))

  known : All Known K
  known = all_in Known K h.letters

  module _ (counts : List ℕ → Bool) where
    laid_relabel : (i : ℕ) (xs : List ℕ) → Known i → All Known xs →
        spelled ss' (laid_after (weight counts ss') (f i) (map f xs)) ≡ spelled ss (laid_after (weight counts ss) i xs)
    laid_relabel i [] p q = refl
    laid_relabel i (x ∷ xs) p q =
        rw (p, q.0) (ap (λ l. drop (overlap_for counts (slip ss i) (slip ss x)) (slip ss x) ++ l) (laid_relabel x xs q.0 q.1))

    order_relabel : (xs : List ℕ) → All Known xs → order_legend counts ss' (map f xs) ≡ order_legend counts ss xs
    order_relabel xs p = ap (λ z. spelled ss' (laid_after (weight counts ss') z (map f xs))) (sym h.none) ∙ laid_relabel 0 xs (rw h.none) p

    abbrev size : List ℕ → ℕ
    size xs = length (order_legend counts ss xs)

    abbrev size' : List ℕ → ℕ
    size' xs = length (order_legend counts ss' xs)

    first_relabel : (L : List (List ℕ)) → All (All Known) L → first_least size' [] (map (map f) L) ≡ map f (first_least size [] L)
    first_relabel [] p = refl
    first_relabel (l ∷ L) p =
        first_from-map (map f) (less size') l L
        ∙ ap (map f) (first_from-same (All Known) _ (less size) (λ x y p q. rw (order_relabel x p, order_relabel y q)) l L p.0 p.1)

    pub shortest_relabel : shortest_for counts ss' (map f K) ≡ map f (shortest_for counts ss K)
    shortest_relabel =
        let xss = orders (length K) K in
        let sums = orders_sums (length K) K refl in
        ap (first_least size' []) (ap (λ n. orders n (map f K)) (length-map K f) ∙ orders_relabel (length K) K)
        ∙ first_relabel xss (all_in (All Known) xss (λ xs m. all_order Known K xs known (all_at _ xss xs sums m)))

module _ (c : Composing) {n : ℕ} (R : Real n c.members) where
  abbrev os : List (List ℕ)
  os = only c.slips c.members

  abbrev f : ℕ → ℕ
  f i = nth c.members n i

  h : Renumbers f os c.slips (kept os (numbers os))
  h = kept_renumbers (nth_renumbers R c.slips)

  keeps : kept_of c ≡ map f (kept os (numbers os))
  keeps = ap (kept c.slips) (sym (nth-numbers R c.slips)) ∙ kept_relabel (nth_renumbers R c.slips)

  order : shortest_order c ≡ map f (shortest_order (only_of c))
  order = ap (shortest_for (rule c) c.slips) keeps ∙ shortest_relabel h (rule c)

  among-kept : All (λ i. In i (kept os (numbers os))) (shortest_order (only_of c))
  among-kept = shortest_known (λ i. In i (kept os (numbers os))) (rule c) os (kept os (numbers os)) (all_in _ (kept os (numbers os)) (λ i m. m))

  named : (i : ℕ) → In i (kept os (numbers os)) → f i ≡ entry c.members i
  named i m =
      nth-entry n c.members i
      (omega (arith, in_up_from 1 (length os) (in_kept os (numbers os) m).0, length-map c.members (slip c.slips)))

  pub alone_shortest : AloneShortest c (only_of c)
  alone_shortest =
      record {
        order_is = order ∙ map_agree f (λ i. In i (kept os (numbers os))) (entry c.members) named (shortest_order (only_of c)) among-kept;
        legend_is =
            ap (order_legend (rule c) c.slips) order
            ∙ order_relabel h (rule c) (shortest_order (only_of c))
            (shortest_known (λ i. slip c.slips (f i) ≡ slip os i) (rule c) os (kept os (numbers os)) (all_in _ (kept os (numbers os)) h.letters));
      }
