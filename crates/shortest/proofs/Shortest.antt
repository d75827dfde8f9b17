-- The shortest legend of all orders: what is claimed of it, proved for every list of slips.
--   Plain counts ss K == with a slip of K on the right every overlap counts
--   order_length      == the letters of the slips are those that their order saves and those of its legend
--   shortest_chooses  == so the first shortest order is the first that saves most, the one found slip by slip
--   shortest_text     == a text that holds every slip gives an order that saves at least as much, so none is shorter
--   shortest_joined   == the chains of joins, one behind the other, are an order: so no legend of joins is shorter
--   times_held        == the count that the claims go by is the one of the sums
use mathlib.Core.Path.{◌≡◌, refl, sym, ◌∙◌}
use mathlib.Core.Bool.{Bool, true}
use mathlib.Core.List.Memᴰ
use mathlib.Core.List.{List, [], ◌∷◌, ◌++◌, append-nil}
use mathlib.Core.Logic.{◌⊎◌, inl, inr}
use Prim.Native.Nat.{ℕ, ◌+◌, ◌≤◌, ◌<◌}
use native.Mathlib.Omega.{arith}
use lib.Dec.{eqb, ltb}
use lib.ListN.{length}
use borrow.Author.Tests.{ltb-true, ltb-false, lt-ltb, le-ltb}
use Rattle.words.specs.Lists.{each}
use Rattle.words.specs.Words.{before, overlap, overlap_for}
use Rattle.words.proofs.Tests.{tell, same_test, not_both}
use Rattle.words.proofs.Members.{In, Asc, those-yes, those_no}
use Rattle.words.proofs.Orders.{before_irr, before_tr}
use Rattle.words.proofs.Sums.{sum, All, is, held, held_in, all_held, all_in, all_at}
use Rattle.trays.specs.Slips.{slip, slips_of, total}
use Rattle.trays.specs.Aside.{kept, counted}
use Rattle.trays.proofs.Kept.{kept_asc, kept_apart}
use Rattle.trays.proofs.Stops.{overlap_for-free}
use Rattle.greedy.specs.Joins.{Join}
use Rattle.greedy.specs.Legends.{pieces, spelled, legend_for}
use Rattle.greedy.specs.Composing.{Composing, whole, rule, kept_of}
use Rattle.greedy.specs.Orders.{weight, along, order_legend}
use Rattle.greedy.specs.Claims.{holds_all, stop_free}
use Rattle.greedy.proofs.Chains.{Chain, whole_chain, end, Rep, along_append}
use Rattle.greedy.proofs.Letters.{sum_each, total_sum, holds_all_lem, laid_holds, laid_saving, saving_of}
use Rattle.greedy.proofs.TextOrder.{over, Apart, text_order}
use Rattle.greedy.proofs.Bound.{kept_once, kept_rep}
use Rattle.greedy.proofs.StopFree.{stop_free_at}
use Rattle.greedy.proofs.Chosen.{Real, numbers_real}
use Rattle.shortest.specs.Orders.{orders, less, first_least, shortest_for}
use Rattle.shortest.specs.Steps.Choosing.{greater, first_most, choose}
use Rattle.shortest.specs.Claims.{times, Optimal, ShortestLegends}
use Rattle.shortest.proofs.Firsts.{less_beats, first_from_in, first_from_best, first_from-first, first_from-same}
use Rattle.shortest.proofs.Orders.{orders_sums, sums_orders, orders_asc, best_orders}

module _ {A : Type 0} (f : A → ℕ) (d : A) where
  pub first_least_in : (xs : List A) → 1 ≤ length xs → In (first_least f d xs) xs
  first_least_in [] n = absurd (omega arith)
  first_least_in (x ∷ xs) n = first_from_in (less f) x xs

  pub first_least_least : (xs : List A) (x : A) → In x xs → f (first_least f d xs) ≤ f x
  first_least_least [] x m = absurd (Memᴰ.not-nil m)
  first_least_least (y ∷ ys) x m =
      omega (arith, ltb-false (f x) (f (first_least f d (y ∷ ys))) (first_from_best (less f) (less_beats f) y ys x m))

  pub first_least-first :
      (R : A → A → Type 0) (xs : List A) → Asc R xs → (x : A) → In x xs → f x ≡ f (first_least f d xs)
      → (first_least f d xs ≡ x) ⊎ R (first_least f d xs) x
  first_least-first R [] a x m e = absurd (Memᴰ.not-nil m)
  first_least-first R (y ∷ ys) a x m e =
      first_from-first (less f) (less_beats f) R y ys a x m (le-ltb (f (first_least f d (y ∷ ys))) (f x) (omega arith))

  -- where two values add up to the same for every member, the least of one is the most of the other
  pub least_most : (g : A → ℕ) (c : ℕ) (xs : List A) → All (λ x. c ≡ g x + f x) xs → first_least f d xs ≡ first_most g d xs
  least_most g c [] p = refl
  least_most g c (y ∷ ys) p =
      first_from-same (λ x. c ≡ g x + f x) (less f) (greater g)
      (λ x y p q.
      same_test (ltb (f x) (f y)) (ltb (g y) (g x)) (λ e. lt-ltb (g y) (g x) (omega (arith, ltb-true (f x) (f y) e)))
      (λ e. lt-ltb (f x) (f y) (omega (arith, ltb-true (g y) (g x) e))))
      y ys p.0 p.1

-- chains one behind the other save at least what each saves
along_chains :
    (w : ℕ → ℕ → ℕ) (p : ℕ) (Cs : List Chain) → sum (λ C. along w C.first C.rest) Cs ≤ along w p (each whole_chain Cs)
along_chains w p [] = omega arith
along_chains w p (C ∷ []) = rw (append-nil C.rest) (omega arith)
along_chains w p (C ∷ (D ∷ Cs)) =
    omega (
      arith,
      along_append w C.first C.rest D.first (D.rest ++ each whole_chain Cs),
      along_chains w (end C) (D ∷ Cs),
    )

abbrev pub Plain : (List ℕ → Bool) → List (List ℕ) → List ℕ → Type 0
Plain counts ss K = (x : List ℕ) (k : ℕ) → In k K → overlap x (slip ss k) ≤ overlap_for counts x (slip ss k)

along-over :
    (counts : List ℕ → Bool) (ss : List (List ℕ)) (K : List ℕ) → Plain counts ss K
    → (p : ℕ) (xs : List ℕ) → All (λ x. In x K) xs → along (over ss) p xs ≤ along (weight counts ss) p xs
along-over counts ss K h p [] a = omega arith
along-over counts ss K h p (x ∷ xs) a = omega (arith, h (slip ss p) x a.0, along-over counts ss K h x xs a.1)

pub stop_free-plain : (m : ℕ) → m ≡ 1 → (ss : List (List ℕ)) (K : List ℕ) → stop_free ss K ≡ true → Plain (counted m) ss K
stop_free-plain m one ss K free x k i = omega (arith, overlap_for-free m one x (slip ss k) (stop_free_at ss K free k i))

module _ (counts : List ℕ → Bool) (ss : List (List ℕ)) where
  -- what is laid after slip 0 is the whole chain, since slip 0 has no letter
  pub order_length : (xs : List ℕ) → total ss xs ≡ along (weight counts ss) 0 xs + length (order_legend counts ss xs)
  order_length xs = omega (arith, laid_saving counts ss 0 xs)

  module _ (K : List ℕ) where
    abbrev legend : List ℕ → ℕ
    legend xs = length (order_legend counts ss xs)

    abbrev shortest : List ℕ
    shortest = shortest_for counts ss K

    order_total : (xs : List ℕ) → ((g : ℕ → ℕ) → sum g xs ≡ sum g K) → total ss K ≡ along (weight counts ss) 0 xs + legend xs
    order_total xs h = omega (arith, order_length xs, total_sum ss xs, total_sum ss K, h (λ i. length (slip ss i)))

    order_in : (xs : List ℕ) → ((x : ℕ) → held x xs ≡ held x K) → In xs (orders (length K) K)
    order_in xs h = sums_orders (length K) K xs refl h

    pub shortest_chooses : shortest_for counts ss K ≡ choose (weight counts ss) (length K) 0 K
    shortest_chooses =
        let w = weight counts ss in
        let xss = orders (length K) K in
        let sums = orders_sums (length K) K refl in
        least_most legend [] (along w 0) (total ss K) xss
        (all_in (λ xs. total ss K ≡ along w 0 xs + legend xs) xss (λ xs m. order_total xs (all_at _ xss xs sums m)))
        ∙ best_orders w (length K) 0 K refl

    some-orders : 1 ≤ length (orders (length K) K)
    some-orders = some (orders (length K) K) (order_in K (λ x. refl))
      where
        some : (xss : List (List ℕ)) → In K xss → 1 ≤ length xss
        some [] m = absurd (Memᴰ.not-nil m)
        some (xs ∷ xss) m = omega arith

    pub shortest_order_lem : (g : ℕ → ℕ) → sum g (shortest_for counts ss K) ≡ sum g K
    shortest_order_lem =
        let xss = orders (length K) K in
        all_at (λ xs. (g : ℕ → ℕ) → sum g xs ≡ sum g K) xss shortest (orders_sums (length K) K refl) (first_least_in legend [] xss some-orders)

    pub shortest_least : (xs : List ℕ) → ((x : ℕ) → held x xs ≡ held x K) → legend shortest ≤ legend xs
    shortest_least xs h = first_least_least legend [] (orders (length K) K) xs (order_in xs h)

    pub shortest_first :
        Asc ◌<◌ K → (xs : List ℕ) → ((x : ℕ) → held x xs ≡ held x K) → legend xs ≡ legend shortest
        → (shortest ≡ xs) ⊎ (before shortest xs ≡ true)
    shortest_first asc xs h =
        first_least-first legend [] (λ xs ys. before xs ys ≡ true) (orders (length K) K) (orders_asc (length K) K asc) xs (order_in xs h)

    pub shortest_holds : holds_all ss K (order_legend counts ss (shortest_for counts ss K)) ≡ true
    shortest_holds =
        holds_all_lem ss K (order_legend counts ss shortest) (λ i h. laid_holds counts ss i 0 shortest (omega (arith, shortest_order_lem (is i))))

    pub shortest_text :
        ((x : ℕ) → held x K ≤ 1) → Apart ss K → Plain counts ss K → (t : List ℕ) → holds_all ss K t ≡ true → legend shortest ≤ length t
    shortest_text once apart plain t e =
        let (xs, h, l) = text_order ss t K once apart e in
        let members : All (λ x. In x K) xs = all_held (λ x. In x K) xs (λ x n. held_in x K (omega (arith, h (is x)))) in
        omega (arith, shortest_least xs (λ x. h (is x)), order_total xs h, along-over counts ss K plain 0 xs members)

    pub shortest_joined :
        {js : List Join} {Cs : List Chain} → Rep (weight counts ss) K js Cs → legend shortest ≤ length (spelled ss (pieces js K))
    shortest_joined {js} {Cs} R =
        let w = weight counts ss in
        let xs : List ℕ = each whole_chain Cs in
        let sums : (g : ℕ → ℕ) → sum g xs ≡ sum g K = λ g. sum_each g whole_chain Cs ∙ R.all g in
        omega (
          arith,
          shortest_least xs (λ x. sums (is x)),
          order_total xs sums,
          along_chains w 0 Cs,
          R.saved,
          saving_of counts ss R,
        )

-- the kept slips among any members that ascend from 1
module _ (counts : List ℕ → Bool) (ss : List (List ℕ)) (M : List ℕ) (asc : Asc ◌<◌ M) (positive : (i : ℕ) → In i M → 1 ≤ i) where
  pub kept_shortest_text :
      Plain counts ss (kept ss M) → (t : List ℕ) → holds_all ss (kept ss M) t ≡ true
      → length (order_legend counts ss (shortest_for counts ss (kept ss M))) ≤ length t
  kept_shortest_text =
      shortest_text counts ss (kept ss M) (kept_once ss M asc positive)
      (λ i k hi hk. kept_apart ss M i k (held_in i (kept ss M) hi) (held_in k (kept ss M) hk))

  pub shortest_composed : length (order_legend counts ss (shortest_for counts ss (kept ss M))) ≤ length (legend_for counts ss M)
  shortest_composed = shortest_joined counts ss (kept ss M) (kept_rep ss M asc positive counts).1

pub times_held : (i : ℕ) (xs : List ℕ) → times i xs ≡ held i xs
times_held i [] = refl
times_held i (x ∷ xs) =
    elim (tell (eqb i x)) [
      | inl e ↦ rw (those-yes (eqb i) x xs e, e) (omega (arith, times_held i xs))
      | inr e ↦ rw (those_no (eqb i) x xs e, e) (omega (arith, times_held i xs))
    ]

-- for any members that ascend from 1
pub shortest_of_lem : (c : Composing) {n : ℕ} → Real n c.members → Optimal c
shortest_of_lem c R =
    let counts = rule c in
    let ss = c.slips in
    let K = kept_of c in
    let positive : (i : ℕ) → In i c.members → 1 ≤ i = λ i m. (R.real i m).0 in
    let xs₀ = shortest_for counts ss K in
    let counts_as : (xs : List ℕ) → ((i : ℕ) → times i xs ≡ times i K) → (x : ℕ) → held x xs ≡ held x K =
    λ xs h x. sym (times_held x xs) ∙ h x ∙ times_held x K in
    record {
      an_order = λ i. times_held i xs₀ ∙ shortest_order_lem counts ss K (is i) ∙ sym (times_held i K);
      least = λ xs h. shortest_least counts ss K xs (counts_as xs h);
      first = λ xs h e.
          elim (shortest_first counts ss K (kept_asc ss c.members R.rise) xs (counts_as xs h) e) [
            | inl d ↦ rw d (before_irr xs)
            | inr d ↦
                elim (tell (before xs xs₀))
                [ inl t ↦ absurd (not_both (before xs xs) (before_tr xs xs₀ xs t d) (before_irr xs)) | inr t ↦ t ]
          ];
      legend_holds = shortest_holds counts ss K;
      at_most_composed = shortest_composed counts ss c.members R.rise positive;
      no_text_shorter = λ one free. kept_shortest_text counts ss c.members R.rise positive (stop_free-plain c.least one ss K free);
    }

pub shortest_legends : ShortestLegends
shortest_legends g s es accepted = shortest_of_lem (whole g (slips_of s es)) (numbers_real (slips_of s es))
