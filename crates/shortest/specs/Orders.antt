-- The orders of kept slips, and the first of them whose legend is shortest.
--   without x R             == the list R less its first x
--   orders n R              == the orders of the n members of R: each of them first, then the others in each of their orders
--   better beats b x        == x if it beats b, and else b
--   first_from beats b xs    == the first of b and xs that no other of them beats
--   less f x y              == x has a smaller f than y
--   first_least f d xs       == the first member of xs with the least f; d if there is none
--   shortest_for counts ss K == the first of all orders of K whose legend is shortest
--   shortest_order c         == so for what is composed; shortest_legend c == its legend, laid as one chain
use Rattle.std.specs.Prelude.{Bool, true, false, List, [], ◌∷◌, map, ℕ, zero, suc, eqb, ltb, length}
use Rattle.words.specs.Lists.{each}
use Rattle.greedy.specs.Composing.{Composing, kept_of, rule}
use Rattle.greedy.specs.Orders.{order_legend}

abbrev pub without : ℕ → List ℕ → List ℕ
without x [] = []
without x (y ∷ ys) = elim (eqb x y) [ true ↦ ys | false ↦ y ∷ without x ys ]

-- Where R ascends, the orders come as lists do: the smallest first.
abbrev pub orders : ℕ → List ℕ → List (List ℕ)
orders zero R = [] ∷ []
orders (suc n) R = each (λ x. map (λ xs. x ∷ xs) (orders n (without x R))) R

abbrev pub better : {A : Type 0} → (A → A → Bool) → A → A → A
better beats b x = elim (beats x b) [ true ↦ x | false ↦ b ]

abbrev pub first_from : {A : Type 0} → (A → A → Bool) → A → List A → A
first_from beats b [] = b
first_from beats b (x ∷ xs) = first_from beats (better beats b x) xs

abbrev pub less : {A : Type 0} → (A → ℕ) → A → A → Bool
less f x y = ltb (f x) (f y)

abbrev pub first_least : {A : Type 0} → (A → ℕ) → A → List A → A
first_least f d [] = d
first_least f d (x ∷ xs) = first_from (less f) x xs

-- Rules: the order of kept slips whose legend is shortest; of several, the order that is smallest as a list of slip numbers.
abbrev pub shortest_for : (List ℕ → Bool) → List (List ℕ) → List ℕ → List ℕ
shortest_for counts ss K = first_least (λ xs. length (order_legend counts ss xs)) [] (orders (length K) K)

abbrev pub shortest_order : Composing → List ℕ
shortest_order c = shortest_for (rule c) c.slips (kept_of c)

abbrev pub shortest_legend : Composing → List ℕ
shortest_legend c = order_legend (rule c) c.slips (shortest_order c)
