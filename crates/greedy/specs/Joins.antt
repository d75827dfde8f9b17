-- Joins, chains, and the plain rule over all pairs of kept slips K.
--   right_of i js, left_of i js   == the neighbour of slip i by the joins js, 0 for none
--   last_of i js                 == the last slip of the chain that slip i begins
--   free l r js                 == a join from l to r is allowed
--   arcs counts ss K            == the arcs: pairs of different slips of K with an overlap that counts
--   first_arc ss a b             == arc a is taken before arc b
--   plain_for counts ss K        == the joins of the plain rule
--   saved js                    == the sum of the overlaps
--   rejoin f j                  == the join j with f applied to its slips
use Rattle.std.specs.Prelude.{Bool, true, false, cond, ◌&&◌, ◌||◌, not, List, [], ◌∷◌, ◌++◌, ℕ, zero, suc, ◌+◌, eqb, ltb, length, take}
use Rattle.words.specs.Lists.{each, in_order}
use Rattle.words.specs.Words.{same, before, overlap_for}
use Rattle.trays.specs.Slips.{slip}

-- Rules: a record of a join has left slip, right slip and overlap.
pub record Join : Type 0 where
  pub left : ℕ
  pub right : ℕ
  pub overlap : ℕ

abbrev pub join : ℕ → ℕ → ℕ → Join
join l r o = record { left = l; right = r; overlap = o }

abbrev pub right_of : ℕ → List Join → ℕ
right_of i [] = 0
right_of i (j ∷ js) = elim (eqb i j.left) [ true ↦ j.right | false ↦ right_of i js ]

abbrev pub left_of : ℕ → List Join → ℕ
left_of i [] = 0
left_of i (j ∷ js) = elim (eqb i j.right) [ true ↦ j.left | false ↦ left_of i js ]

-- n joins to the right of slip i, or as many as there are
abbrev pub last_from : ℕ → ℕ → List Join → ℕ
last_from zero i js = i
last_from (suc n) i js = elim (eqb (right_of i js) 0) [ true ↦ i | false ↦ last_from n (right_of i js) js ]

abbrev pub last_of : ℕ → List Join → ℕ
last_of i js = last_from (length js) i js

-- Rules, plain rule: the left slip has no right neighbour, the right slip no left neighbour, and the joins close no ring:
-- a ring would close where an arc's left slip is the last of the chain its right slip begins.
abbrev pub free : ℕ → ℕ → List Join → Bool
free l r js = eqb (right_of l js) 0 && (eqb (left_of r js) 0 && not (eqb (last_of r js) l))

-- Rules, plain rule: arcs are ordered pairs of different kept slips with a non-empty overlap.
abbrev pub arc : (List ℕ → Bool) → List (List ℕ) → ℕ → ℕ → List Join
arc counts ss l r =
    let o = overlap_for counts (slip ss l) (slip ss r) in
    cond (not (eqb l r) && not (eqb o 0)) (join l r o ∷ []) []

abbrev pub arcs : (List ℕ → Bool) → List (List ℕ) → List ℕ → List Join
arcs counts ss K = each (λ l. each (arc counts ss l) K) K

-- the overlap string of an arc
abbrev pub string_of : List (List ℕ) → Join → List ℕ
string_of ss a = take a.overlap (slip ss a.right)

-- Rules: longer overlap first; then smaller overlap string; then lower right slip; then lower left slip.
abbrev pub first_arc : List (List ℕ) → Join → Join → Bool
first_arc ss a b =
    let x = string_of ss a in
    let y = string_of ss b in
    ltb b.overlap a.overlap
    || (eqb a.overlap b.overlap && (before x y
    || (same x y && (ltb a.right b.right
    || (eqb a.right b.right && ltb a.left b.left)))))

abbrev pub take_arc : Join → List Join → List Join
take_arc a js = cond (free a.left a.right js) (js ++ (a ∷ [])) js

abbrev pub take_arcs : List Join → List Join → List Join
take_arcs [] js = js
take_arcs (a ∷ bs) js = take_arcs bs (take_arc a js)

abbrev pub plain_for : (List ℕ → Bool) → List (List ℕ) → List ℕ → List Join
plain_for counts ss K = take_arcs (in_order (first_arc ss) (arcs counts ss K)) []

abbrev pub saved : List Join → ℕ
saved [] = 0
saved (j ∷ js) = j.overlap + saved js

abbrev pub rejoin : (ℕ → ℕ) → Join → Join
rejoin f j = join (f j.left) (f j.right) j.overlap
