-- The walk over ever shorter beginnings.
--   beginnings counts ss K   == the non-empty beginnings of the slips of K that count
--   sooner x y               == the walk visits x before y
--   waiting ss x K js        == the slips that wait at the beginning x
--   behind r ws js           == the waiting slip to whose right slip r is joined, 0 for none
--   walk_for counts ss K      == the joins of the walk
use Rattle.std.specs.Prelude.{Bool, cond, ◌&&◌, ◌||◌, List, [], ◌∷◌, ◌++◌, ℕ, zero, suc, eqb, ltb, leb, length, take}
use Rattle.words.specs.Lists.{each, those, in_order, head_or, tail_of}
use Rattle.words.specs.Words.{begins, before, ends_properly}
use Rattle.trays.specs.Slips.{slip}
use Rattle.greedy.specs.Joins.{Join, join, right_of, left_of, last_of}

-- the beginnings of s of n letters, n - 1 letters, .. 1 letter
abbrev pub prefixes_to : ℕ → List ℕ → List (List ℕ)
prefixes_to zero s = []
prefixes_to (suc n) s = take (suc n) s ∷ prefixes_to n s

abbrev pub beginnings : (List ℕ → Bool) → List (List ℕ) → List ℕ → List (List ℕ)
beginnings counts ss K = each (λ i. those counts (prefixes_to (length (slip ss i)) (slip ss i))) K

-- Rules: longest first, equal lengths in byte order.
abbrev pub sooner : List ℕ → List ℕ → Bool
sooner x y = ltb (length y) (length x) || (eqb (length x) (length y) && before x y)

-- Rules: waiting there are the kept slips of which it is a proper ending and which have no right neighbour.
abbrev pub waiting : List (List ℕ) → List ℕ → List ℕ → List Join → List ℕ
waiting ss x K js = those (λ i. ends_properly x (slip ss i) && eqb (right_of i js) 0) K

-- Rules: the lowest waiting slip; if that one is the last of the chain the slip itself begins, the second lowest.
abbrev pub behind : ℕ → List ℕ → List Join → ℕ
behind r ws js = cond (eqb (head_or 0 ws) (last_of r js)) (head_or 0 (tail_of ws)) (head_or 0 ws)

-- Rules: each kept slip that has this beginning and no left neighbour, in ascending order, is joined to the right of that one; if there
-- is none, it is not joined.
abbrev pub visit_slip : List (List ℕ) → List ℕ → List ℕ → ℕ → List Join → List Join
visit_slip ss K x r js =
    let l = behind r (waiting ss x K js) js in
    cond (begins x (slip ss r) && (eqb (left_of r js) 0 && leb 1 l)) (js ++ (join l r (length x) ∷ [])) js

abbrev pub visit : List (List ℕ) → List ℕ → List ℕ → List ℕ → List Join → List Join
visit ss K x [] js = js
visit ss K x (r ∷ rs) js = visit ss K x rs (visit_slip ss K x r js)

abbrev pub walk_from : List (List ℕ) → List ℕ → List (List ℕ) → List Join → List Join
walk_from ss K [] js = js
walk_from ss K (x ∷ xs) js = walk_from ss K xs (visit ss K x K js)

-- Rules: visit each different beginning of kept slips that counts: one that has at least as many letters as the least overlap, and a letter other
-- than the full stop.
abbrev pub walk_for : (List ℕ → Bool) → List (List ℕ) → List ℕ → List Join
walk_for counts ss K = walk_from ss K (in_order sooner (beginnings counts ss K)) []
