-- The search, over any weights w of ordered pairs: the best order is found slip by slip, from what the slips behind can save.
--   greater f x y    == x has a greater f than y
--   first_most f d xs == the first member of xs with the greatest f; d if there is none
--   choose w n i R   == the order of the n members of R that saves most behind i; of several the smallest as a list, where R ascends
--   most w n i R     == what it saves
use Rattle.std.specs.Prelude.{Bool, List, [], ◌∷◌, ℕ, zero, suc, ◌+◌, ltb}
use Rattle.greedy.specs.Orders.{along}
use Rattle.shortest.specs.Orders.{without, first_from}

abbrev pub greater : {A : Type 0} → (A → ℕ) → A → A → Bool
greater f x y = ltb (f y) (f x)

abbrev pub first_most : {A : Type 0} → (A → ℕ) → A → List A → A
first_most f d [] = d
first_most f d (x ∷ xs) = first_from (greater f) x xs

abbrev pub choose : (ℕ → ℕ → ℕ) → ℕ → ℕ → List ℕ → List ℕ
choose w zero i R = []
choose w (suc n) i R =
    let j = first_most (λ j. w i j + along w j (choose w n j (without j R))) 0 R in
    j ∷ choose w n j (without j R)

abbrev pub most : (ℕ → ℕ → ℕ) → ℕ → ℕ → List ℕ → ℕ
most w n i R = along w i (choose w n i R)
