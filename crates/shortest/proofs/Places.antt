-- The shortest order of slips, found over their places.
--   choose-length, choose_all == what is chosen from R: so many, and members of R
--   NAME-map        == NAME of the mapped list is NAME of the list, mapped where it is a list
--   most_of         == what is chosen alike saves the same
--   places_list     == a list is what stands at its places
--   shortest_places == the shortest order of K is what stands at the places chosen
-- A map f that tells apart the members of which P holds, and keeps their weights, keeps every comparison of the search, and so what is
-- chosen. The starts p and q need not be members: it is enough that every member has the same weight behind both.
use mathlib.Core.Path.{◌≡◌, refl, sym, ap, ap₂, ◌∙◌}
use mathlib.Core.Bool.{Bool}
use mathlib.Core.List.{List, [], ◌∷◌, map}
use Prim.Native.Nat.{ℕ, zero, suc, ◌+◌, ◌<◌}
use native.Mathlib.Nat.{zero-add}
use native.Mathlib.Omega.{arith}
use lib.Dec.{eqb}
use lib.ListN.{length, get_or}
use borrow.Author.Tests.{eqb-true, eqb-false, eq-eqb, ne_eqb}
use Rattle.words.specs.Lists.{up_from}
use Rattle.words.proofs.Tests.{by_test}
use Rattle.words.proofs.Members.{In, Asc, in_up_from}
use Rattle.words.proofs.Sums.{All, all_in, all_at}
use Rattle.words.proofs.Picks.{asc_differ}
use Rattle.words.proofs.Runs.{length-up_from, map_places}
use Rattle.greedy.specs.Orders.{weight, along}
use Rattle.greedy.proofs.Letters.{weight_none}
use Rattle.shortest.specs.Orders.{without, shortest_for}
use Rattle.shortest.specs.Steps.Choosing.{greater, first_most, choose, most}
use Rattle.shortest.proofs.Firsts.{first_from-map, first_most_in, first_most-same}
use Rattle.shortest.proofs.Without.{without_in, without-length}
use Rattle.shortest.proofs.Shortest.{shortest_chooses}

pub choose-length : (w : ℕ → ℕ → ℕ) (n i : ℕ) (R : List ℕ) → length (choose w n i R) ≡ n
choose-length w zero i R = refl
choose-length w (suc n) i R = ap suc (choose-length w n _ _)

pub choose_all : (w : ℕ → ℕ → ℕ) (n i : ℕ) (R : List ℕ) → length R ≡ n → All (λ x. In x R) (choose w n i R)
choose_all w zero i R l = tt
choose_all w (suc n) i [] l = absurd (omega arith)
choose_all w (suc n) i (r ∷ R) l =
    let X = r ∷ R in
    let saved : ℕ → ℕ = λ k. w i k + most w n k (without k X) in
    let j = first_most saved 0 X in
    let m = first_most_in saved 0 r R in
    let a = choose_all w n j (without j X) (omega (arith, without-length j X m)) in
    (m, all_in (λ x. In x X) (choose w n j (without j X)) (λ x k. without_in j X (all_at (λ y. In y (without j X)) _ x a k)))

module _
    (f : ℕ → ℕ) (P : ℕ → Type 0) (apart : (a b : ℕ) → P a → P b → f a ≡ f b → a ≡ b)
    (w v : ℕ → ℕ → ℕ) (weights : (a b : ℕ) → P a → P b → v a b ≡ w (f a) (f b)) where
  without-map : (x : ℕ) (R : List ℕ) → P x → All P R → without (f x) (map f R) ≡ map f (without x R)
  without-map x [] px p = refl
  without-map x (y ∷ R) px p =
      by_test (eqb x y)
      (λ e. rw (eq-eqb (f x) (f y) (ap f (eqb-true x y e)), e, without))
      (λ e. rw (ne_eqb (f x) (f y) (λ d. eqb-false x y e (apart x y px p.0 d)), e, without) (ap (λ l. f y ∷ l) (without-map x R px p.1)))

  along-map : (p q : ℕ) (xs : List ℕ) → ((b : ℕ) → P b → v q b ≡ w p (f b)) → All P xs → along w p (map f xs) ≡ along v q xs
  along-map p q [] s a = refl
  along-map p q (x ∷ xs) s a = ap₂ ◌+◌ (sym (s x a.0)) (along-map (f x) x xs (λ b. weights x b a.0) a.1)

  most_of :
      (n p q : ℕ) (R : List ℕ) → length R ≡ n → ((b : ℕ) → P b → v q b ≡ w p (f b)) → All P R
      → choose w n p (map f R) ≡ map f (choose v n q R) → most w n p (map f R) ≡ most v n q R
  most_of n p q R l s a e =
      let xs = choose v n q R in
      ap (along w p) e ∙ along-map p q xs s (all_in P xs (λ x m. all_at P R x a (all_at (λ y. In y R) xs x (choose_all v n q R l) m)))

  pub choose-map :
      (n p q : ℕ) (R : List ℕ) → length R ≡ n → ((b : ℕ) → P b → v q b ≡ w p (f b)) → All P R
      → choose w n p (map f R) ≡ map f (choose v n q R)
  choose-map zero p q R l s a = refl
  choose-map (suc n) p q [] l s a = absurd (omega arith)
  choose-map (suc n) p q (r ∷ R) l s a =
      let X = r ∷ R in
      let mapped : ℕ → ℕ = λ k. w p k + most w n k (without k (map f X)) in
      let plain : ℕ → ℕ = λ b. v q b + most v n b (without b X) in
      let j = first_most plain 0 X in
      let holds : (b : ℕ) → In b X → P b = λ b. all_at P X b a in
      let alike : (b : ℕ) → In b X → (c : ℕ) → P c → v b c ≡ w (f b) (f c) = λ b m c. weights b c (holds b m) in
      let size : (b : ℕ) → In b X → length (without b X) ≡ n = λ b m. omega (arith, without-length b X m) in
      let rest : (b : ℕ) → All P (without b X) = λ b. all_in P (without b X) (λ x m. holds x (without_in b X m)) in
      let behind : (b : ℕ) → In b X → choose w n (f b) (map f (without b X)) ≡ map f (choose v n b (without b X)) = λ b m.
      choose-map n (f b) b (without b X) (size b m) (alike b m) (rest b) in
      let same : (b : ℕ) → In b X → mapped (f b) ≡ plain b = λ b m.
      ap₂ ◌+◌ (sym (s b (holds b m))) (ap (most w n (f b)) (without-map b X (holds b m) a)
      ∙ most_of n (f b) b (without b X) (size b m) (alike b m) (rest b) (behind b m)) in
      let m : In j X = first_most_in plain 0 r R in
      let first = first_from-map f (greater mapped) r R ∙ ap f (first_most-same (λ b. mapped (f b)) plain 0 X same) in
      ap (λ k. k ∷ choose w n k (without k (map f X))) first
      ∙ ap (λ l. f j ∷ l) (ap (choose w n (f j)) (without-map j X (holds j m) a) ∙ behind j m)

pub places_list : (K : List ℕ) → map (λ a. get_or K a 0) (up_from 0 (length K)) ≡ K
places_list K = map_places 0 (λ a. get_or K a 0) 0 K (λ i h. rw zero-add)

places_in : (n : ℕ) → All (λ a. a < n) (up_from 0 n)
places_in n = all_in (λ a. a < n) (up_from 0 n) (λ a m. omega (arith, in_up_from 0 n m))

places_apart : (K : List ℕ) → Asc ◌<◌ K → (a b : ℕ) → a < length K → b < length K → get_or K a 0 ≡ get_or K b 0 → a ≡ b
places_apart K asc a b = asc_differ 0 ◌<◌ (λ k h. omega arith) K a b asc

-- The start is a place q of its own, behind which nothing is saved.
module _
    (counts : List ℕ → Bool) (ss : List (List ℕ)) (K : List ℕ) (asc : Asc ◌<◌ K) (v : ℕ → ℕ → ℕ) (q : ℕ)
    (pairs : (a b : ℕ) → a < length K → b < length K → v a b ≡ weight counts ss (get_or K a 0) (get_or K b 0))
    (start : (b : ℕ) → b < length K → v q b ≡ 0) where
  pub shortest_places : shortest_for counts ss K ≡ map (λ a. get_or K a 0) (choose v (length K) q (up_from 0 (length K)))
  shortest_places =
      let w = weight counts ss in
      let n = length K in
      shortest_chooses counts ss K ∙ ap (choose w n 0) (sym (places_list K))
      ∙ choose-map (λ a. get_or K a 0) (λ a. a < n) (places_apart K asc) w v pairs n 0 q (up_from 0 n) (length-up_from 0 n)
      (λ b h. start b h ∙ sym (weight_none counts ss (get_or K b 0))) (places_in n)
