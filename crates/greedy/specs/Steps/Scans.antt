-- One visit of the walk as a scan of two lists.
--   enders ss x K, starters ss x K == the slips of K that properly end with x, that begin with x, in the order of K
--   first t xs       == the first number in xs that passes the test t, 0 for none
--   first_free js ls  == the first of ls that has no right neighbour
--   partner ls m js  == the first of ls that has no right neighbour and is not m
--   beyond m ls      == what stands behind m in ls
--   offer ls d r js  == one slip of a visit: r, if it has no left neighbour, joined behind its partner among ls by d letters
--   scan ls d rs js  == a visit: offers for each of rs in turn
use Rattle.std.specs.Prelude.{Bool, true, false, cond, ◌&&◌, not, List, [], ◌∷◌, ◌++◌, ℕ, eqb, leb}
use Rattle.words.specs.Lists.{those, head_or}
use Rattle.words.specs.Words.{begins, ends_properly}
use Rattle.trays.specs.Slips.{slip}
use Rattle.greedy.specs.Joins.{Join, join, right_of, left_of, last_of}

abbrev pub enders : List (List ℕ) → List ℕ → List ℕ → List ℕ
enders ss x K = those (λ l. ends_properly x (slip ss l)) K

abbrev pub starters : List (List ℕ) → List ℕ → List ℕ → List ℕ
starters ss x K = those (λ r. begins x (slip ss r)) K

abbrev pub first : (ℕ → Bool) → List ℕ → ℕ
first t xs = head_or 0 (those t xs)

abbrev pub first_free : List Join → List ℕ → ℕ
first_free js ls = first (λ l. eqb (right_of l js) 0) ls

abbrev pub partner : List ℕ → ℕ → List Join → ℕ
partner ls m js = first (λ l. eqb (right_of l js) 0 && not (eqb l m)) ls

abbrev pub beyond : ℕ → List ℕ → List ℕ
beyond m [] = []
beyond m (l ∷ ls) = elim (eqb l m) [ true ↦ ls | false ↦ beyond m ls ]

abbrev pub offer : List ℕ → ℕ → ℕ → List Join → List Join
offer ls d r js =
    let l = partner ls (last_of r js) js in
    cond (eqb (left_of r js) 0 && leb 1 l) (js ++ (join l r d ∷ [])) js

abbrev pub scan : List ℕ → ℕ → List ℕ → List Join → List Join
scan ls d [] js = js
scan ls d (r ∷ rs) js = scan ls d rs (offer ls d r js)
